-- Each step keeps the order of the inbox.
use Rattle.std.proofs.Common.{◌≡◌, ◌≢◌, ◌⊎◌, ℕ, zero, suc, true, true≢false, List, [], ◌∷◌, ◌++◌, length, set, sym, refl, ap, ◌∙◌, subst, inl, inr, ⊎_elim, arith}
use mathlib.Core.Option.{some, some-ne-none, some-injective}
use lib.ListN.{get_elem?}
use Rattle.crossbeam_channel.specs.Fifo.{Pushes, Pops, Forks, Merges, Learns}
use Rattle.cred_many.specs.{LineOperations.Entry, Scribe.IsOf, declared.inbox.Known.Known, declared.inbox.Progress.Progress, declared.scribe.job.Message.Message}
use Rattle.cred_many.specs.declared.scribe.job.Message.TheVariants.{Came, Ended, Hashed, NoMemory}
use Rattle.cred_many.specs.Inbox.{no_progress, after, MayFollow, Leads, known, no_part, sender_of, taker_of, IsReport, Fits, InOrder}

module _ {J : Type 0} where
  -- ---- what leads where

  leads_on : (got : Progress J) (messages : List (Message J)) (sent : Progress J) (m : Message J)
      → Leads got messages sent → MayFollow sent m → Leads got (messages ++ m ∷ []) (after sent m)
  unfolding Leads
  leads_on got [] sent m l may = subst (λ (p : Progress J). MayFollow p m × (after p m ≡ after sent m)) (sym l) (may, refl)
  leads_on got (x ∷ xs) sent m l may = (l.0, leads_on (after got x) xs sent m l.1 may)

  -- after the end was received, all sent messages were
  all_arrived : (got : Progress J) (messages : List (Message J)) (sent : Progress J)
      → got.ended ≡ true → Leads got messages sent → got ≡ sent
  unfolding Leads
  all_arrived got [] sent over l = l
  all_arrived got (Came line ∷ xs) sent over l = absurd (true≢false (sym over ∙ l.0.0))
  all_arrived got (Ended ∷ xs) sent over l = absurd (true≢false (sym over ∙ l.0))
  all_arrived got (Hashed h ∷ xs) sent over l = all_arrived got xs sent over l.1
  all_arrived got (NoMemory h ∷ xs) sent over l = all_arrived got xs sent over l.1

  -- the result of a hash is no message of the reader
  pub is_report : (line : Entry) (m : Message J) → IsOf line m → IsReport m
  is_report line (Hashed h) is = λ p. (tt, refl)
  is_report line (NoMemory h) is = λ p. (tt, refl)
  is_report line (Came _) is = elim is [ ]
  is_report line Ended is = elim is [ ]

  -- ---- the views

  at_set : (l : List (Known J)) (i j : ℕ) (a b : Known J) → get_elem? (set l i a) j ≡ some b
      → ((j ≡ i) × (a ≡ b)) ⊎ ((j ≢ i) × (get_elem? l j ≡ some b))
  at_set [] i j a b e = absurd (some-ne-none b (sym e))
  at_set (x ∷ xs) zero zero a b e = inl (refl, some-injective a b e)
  at_set (x ∷ xs) zero (suc j) a b e = inr ((λ h. omega arith), e)
  at_set (x ∷ xs) (suc i) zero a b e = inr ((λ h. omega arith), e)
  at_set (x ∷ xs) (suc i) (suc j) a b e = ⊎_elim (λ t. inl (ap suc t.0, t.1)) (λ t. let n = t.0 in inr ((λ h. n (omega arith)), t.1)) (at_set xs i j a b e)

  at_snoc : (l : List (Known J)) (a b : Known J) (j : ℕ) → get_elem? (l ++ a ∷ []) j ≡ some b
      → (get_elem? l j ≡ some b) ⊎ ((a ≡ b) × (j ≡ length l))
  at_snoc [] a b zero e = inr (some-injective a b e, refl)
  at_snoc [] a b (suc j) e = absurd (some-ne-none b (sym e))
  at_snoc (x ∷ xs) a b zero e = inl e
  at_snoc (x ∷ xs) a b (suc j) e = ⊎_elim (λ t. inl t) (λ t. inr (t.0, ap suc t.1)) (at_snoc xs a b j e)

  abbrev All : (ℕ → Known J → Type 0) → List (Known J) → Type 0
  All F views = (pass : ℕ) (k : Known J) → get_elem? views pass ≡ some k → F pass k

  all_set : (F : ℕ → Known J → Type 0) (views : List (Known J)) (pass : ℕ) (w : Known J) → F pass w
      → ((j : ℕ) (u : Known J) → j ≢ pass → get_elem? views j ≡ some u → F j u) → All F (set views pass w)
  all_set F views pass w mine others j u e = ⊎_elim
      (λ (x : (j ≡ pass) × (w ≡ u)). subst (λ (y : ℕ × Known J). F y.0 y.1) (λ i. (sym x.0 i, x.1 i)) mine)
      (λ (x : (j ≢ pass) × (get_elem? views j ≡ some u)). others j u x.0 x.1) (at_set views pass j w u e)

  all_snoc : (F : ℕ → Known J → Type 0) (views : List (Known J)) (w : Known J) → F (length views) w
      → All F views → All F (views ++ w ∷ [])
  all_snoc F views w mine others j u e = ⊎_elim (λ x. others j u x)
      (λ (x : (w ≡ u) × (j ≡ length views)). subst (λ (y : ℕ × Known J). F y.0 y.1) (λ i. (sym x.1 i, x.0 i)) mine) (at_snoc views w u j e)

  -- ---- the steps

  pub begins : InOrder {J = J} [] (known true true no_progress no_progress ∷ [])
  unfolding Leads
  begins = (
    0,
    0,
    no_progress,
    no_progress,
    refl,
    all_snoc (Fits 0 0 no_progress no_progress) [] (known true true no_progress no_progress) ((λ _. (refl, refl)), λ _. (refl, refl))
        (λ j u e. absurd (some-ne-none u (sym e))),
  )

  pub sends : (n pass : ℕ) (k : Known J) (m : Message J) → k.sends ≡ true → MayFollow k.sent m
      → Pushes InOrder n pass k m (λ w. w ≡ known k.sends k.takes (after k.sent m) k.got)
  sends n pass k m is may items views _ h at =
      let w : Known J = known k.sends k.takes (after k.sent m) k.got in
      let mine = h.5 pass k at in
      let next = after h.2 m in (
        w,
        (
          h.0,
          h.1,
          next,
          h.3,
          leads_on h.3 items h.2 m h.4 (subst (λ (p : Progress J). MayFollow p m) (mine.0 is).1 may),
          all_set (Fits h.0 h.1 next h.3) views pass w ((λ _. ((mine.0 is).0, ap (λ p. after p m) (mine.0 is).1)), mine.1)
              (λ j u other e. ((λ p. absurd (other (((h.5 j u e).0 p).0 ∙ sym (mine.0 is).0))), (h.5 j u e).1)),
        ),
        refl,
      )

  -- a report of a thread that hashes changes nothing about the lines
  pub reports : (n pass : ℕ) (k : Known J) (m : Message J) → IsReport m → Pushes InOrder n pass k m (λ w. w ≡ k)
  reports n pass k m is items views _ h at = (
    k,
    (
      h.0,
      h.1,
      h.2,
      h.3,
      subst (λ (p : Progress J). Leads h.3 (items ++ m ∷ []) p) (is h.2).1 (leads_on h.3 items h.2 m h.4 (is h.2).0),
      all_set (Fits h.0 h.1 h.2 h.3) views pass k (h.5 pass k at) (λ j u other e. h.5 j u e),
    ),
    refl,
  )

  pub takes : (pass : ℕ) (k : Known J) → k.takes ≡ true
      → Pops InOrder pass k (λ m w. MayFollow k.got m × (w ≡ known k.sends k.takes k.sent (after k.got m)))
  unfolding Leads
  takes pass k is m items views h at =
      let w : Known J = known k.sends k.takes k.sent (after k.got m) in
      let mine = h.5 pass k at in
      let got = after h.3 m in (
        w,
        (
          h.0,
          h.1,
          h.2,
          got,
          h.4.1,
          all_set (Fits h.0 h.1 h.2 got) views pass w (mine.0, λ _. ((mine.1 is).0, ap (λ p. after p m) (mine.1 is).1))
              (λ j u other e. ((h.5 j u e).0, λ p. absurd (other (((h.5 j u e).1 p).0 ∙ sym (mine.1 is).0)))),
        ),
        (subst (λ (p : Progress J). MayFollow p m) (sym (mine.1 is).1) h.4.0, refl),
      )

  pub parts : (pass : ℕ) (k : Known J) → k.sends ≡ true → k.takes ≡ true
      → Forks InOrder pass k (taker_of k.got) (sender_of k.sent)
  parts pass k a b items views h at =
      let l : Known J = taker_of k.got in
      let r : Known J = sender_of k.sent in
      let mine = h.5 pass k at in
      let vs : List (Known J) = set views pass l in (
        length vs,
        h.1,
        h.2,
        h.3,
        h.4,
        all_snoc (Fits (length vs) h.1 h.2 h.3) vs r ((λ _. (refl, (mine.0 a).1)), λ p. absurd (true≢false (sym p)))
            (all_set (Fits (length vs) h.1 h.2 h.3) views pass l ((λ p. absurd (true≢false (sym p))), λ _. mine.1 b)
            (λ j u other e. ((λ p. absurd (other (((h.5 j u e).0 p).0 ∙ sym (mine.0 a).0))), (h.5 j u e).1))),
      )

  pub spares : (pass : ℕ) (k : Known J) → Forks InOrder pass k k no_part
  spares pass k items views h at =
      let vs : List (Known J) = set views pass k in (
        h.0,
        h.1,
        h.2,
        h.3,
        h.4,
        all_snoc (Fits h.0 h.1 h.2 h.3) vs no_part ((λ p. absurd (true≢false (sym p))), λ p. absurd (true≢false (sym p)))
            (all_set (Fits h.0 h.1 h.2 h.3) views pass k (h.5 pass k at) (λ j u other e. h.5 j u e)),
      )

  pub joins : (pass : ℕ) (k : Known J) (other : ℕ) (u : Known J) → k.sends ≡ true → u.takes ≡ true
      → Merges InOrder pass k other u (known true true k.sent u.got) no_part
  joins pass k other u a b items views h at two at' =
      let both : Known J = known true true k.sent u.got in
      let mine = h.5 pass k at in
      let vs : List (Known J) = set views pass both in
      let was : get_elem? views other ≡ some u = ⊎_elim (λ x. absurd (two x.0)) (λ x. x.1) (at_set views pass other both u at') in
      let theirs = (h.5 other u was).1 b in
      let Now : ℕ → Known J → Type 0 = λ j y. j ≢ other → Fits h.0 pass h.2 h.3 j y in
      let now : All Now vs = all_set Now views pass both (λ _. ((λ _. mine.0 a), λ _. (refl, theirs.1)))
      (λ j y _ e apart. ((h.5 j y e).0, λ p. absurd (apart (((h.5 j y e).1 p).0 ∙ sym theirs.0)))) in
      (h.0, pass, h.2, h.3, h.4, all_set (Fits h.0 pass h.2 h.3) vs other no_part ((λ p. absurd (true≢false (sym p))), λ p. absurd (true≢false (sym p))) (λ j y apart e. now j y e apart))

  pub learns : (pass : ℕ) (k : Known J) → k.sends ≡ true → k.takes ≡ true → k.got.ended ≡ true
      → Learns InOrder pass k (λ items. k.got ≡ k.sent)
  learns pass k a b over items views h at =
      let mine = h.5 pass k at in
      (mine.1 b).1 ∙ all_arrived h.3 items h.2 (ap (λ (p : Progress J). p.ended) (sym (mine.1 b).1) ∙ over) h.4 ∙ sym (mine.0 a).1
