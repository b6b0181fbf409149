-- The lines that calls on a scribe answer, call after call.
use Rattle.std.proofs.Common.{◌≡◌, ◌⊎◌, inl, inr, ℕ, suc, zero, ◌+◌, length, List, [], ◌∷◌, ◌++◌, Option, Some, None, refl, sym, ap, ◌∙◌, subst, append_assoc, append-nil}
use Rattle.std.proofs.{Math.Logic.∥∥₁_elim, Math.Logic.∥∥₁_map, Math.Logic.∥∥₁_prop, lemmas.List.length-append, lemmas.List.length-map, lemmas.List.map-append}
use Rattle.std.proofs.lemmas.List.Elements.{All-append, All-nil, All-push, All-weaker}
use Rattle.std.specs.List.{All}
use Rattle.std.specs.Prelude.{map}
use Rattle.cred_admin.specs.Marked.{MarkedBook}
use Rattle.cred_tries.specs.Limits.{Limits}
use Rattle.cred_many.specs.{LineOperations.Entry, declared.line_operation.LineOperation.LineOperation, declared.line_operation.LineOperation.TheVariants.Quick, declared.line_operation.LineOperation.TheVariants.Whole, declared.line_operation.LineOperation.TheVariants.Login, declared.line_operation.LineOperation.TheVariants.Reset, declared.line_operation.LineOperation.TheVariants.Forgive, declared.line_operation.LineOperation.TheVariants.Later}
use Rattle.cred_many.specs.{Service.Service, Answered.AreCalls, Answered.IsCall, Answered.StandsBehind, Answered.State, Answered.answered_in}
use Rattle.cred_many.specs.Scribe.{AddsNone, AddsOne, AddsSome, IsCountedAt, IsNotSentAway, IsQuick, passed_of}

-- ---- nothing is done

pub same_one : (Same : List Entry → List ℕ → Type 0) (IsSo : LineOperation → Type 0) (t : ℕ) → AddsOne IsSo t Same Same
same_one Same IsSo t list times h = ∣ inl h ∣₁

pub same_some : (Same : List Entry → List ℕ → Type 0) (IsSo : LineOperation → Type 0) (t : ℕ) → AddsSome IsSo t Same Same
same_some Same IsSo t list times h = ∣ ([], All-nil (λ (e : Entry). IsSo e.operation), subst (Same (list ++ [])) (sym (append-nil times)) (subst (λ l. Same l times) (sym (append-nil list)) h)) ∣₁

-- ---- a history goes on

module _ (Before After : List Entry → List ℕ → Type 0) where
  abbrev Some_before : Type 0
  Some_before = (list : List Entry) × (times : List ℕ) × Before list times

  abbrev Some_after : Type 0
  Some_after = (list : List Entry) × (times : List ℕ) × After list times

  pub stays_so : AddsNone Before After → ∥ Some_before ∥₁ → ∥ Some_after ∥₁
  stays_so stays served = ∥∥₁_map served (λ h. (h.0, h.1, stays h.0 h.1 h.2))

  module _ (IsSo : LineOperation → Type 0) (t : ℕ) where
    pub goes_on : AddsOne IsSo t Before After → ∥ Some_before ∥₁ → ∥ Some_after ∥₁
    goes_on adds served = ∥∥₁_elim served ∥∥₁_prop (λ h. ∥∥₁_map (adds h.0 h.1 h.2) (either h.0 h.1))
      where
        either : (list : List Entry) (times : List ℕ) → After list times ⊎ ((e : Entry) × IsSo e.operation × After (list ++ e ∷ []) (times ++ t ∷ [])) → Some_after
        either list times (inl after) = (list, times, after)
        either list times (inr more) = (list ++ more.0 ∷ [], times ++ t ∷ [], more.2)

    pub goes_far : AddsSome IsSo t Before After → ∥ Some_before ∥₁ → ∥ Some_after ∥₁
    goes_far adds served = ∥∥₁_elim served ∥∥₁_prop (λ h. ∥∥₁_map (adds h.0 h.1 h.2) (λ more. (h.0 ++ more.0, h.1 ++ map (λ _. t) more.0, more.2)))

    -- ---- what adds none adds one at most

    pub none_one : AddsNone Before After → AddsOne IsSo t Before After
    none_one stays list times h = ∣ inl (stays list times h) ∣₁

    pub one_some : AddsOne IsSo t Before After → AddsSome IsSo t Before After
    one_some adds list times h = ∥∥₁_map (adds list times h) either
      where
        either : After list times ⊎ ((e : Entry) × IsSo e.operation × After (list ++ e ∷ []) (times ++ t ∷ [])) → (more : List Entry) × All (λ e. IsSo e.operation) more × After (list ++ more) (times ++ map (λ _. t) more)
        either (inl after) = ([], All-nil (λ (e : Entry). IsSo e.operation), subst (After (list ++ [])) (sym (append-nil times)) (subst (λ l. After l times) (sym (append-nil list)) after))
        either (inr more) = (more.0 ∷ [], All-push (λ (e : Entry). IsSo e.operation) [] more.0 (All-nil (λ (e : Entry). IsSo e.operation)) more.1, more.2)

    -- ---- what is so is so by another word

    pub one_weaker : (IsMore : LineOperation → Type 0) → ((operation : LineOperation) → IsSo operation → IsMore operation) → AddsOne IsSo t Before After → AddsOne IsMore t Before After
    one_weaker IsMore weaker adds list times h = ∥∥₁_map (adds list times h) either
      where
        either : After list times ⊎ ((e : Entry) × IsSo e.operation × After (list ++ e ∷ []) (times ++ t ∷ [])) → After list times ⊎ ((e : Entry) × IsMore e.operation × After (list ++ e ∷ []) (times ++ t ∷ []))
        either (inl after) = inl after
        either (inr more) = inr (more.0, weaker more.0.operation more.1, more.2)

    pub some_weaker : (IsMore : LineOperation → Type 0) → ((operation : LineOperation) → IsSo operation → IsMore operation) → AddsSome IsSo t Before After → AddsSome IsMore t Before After
    some_weaker IsMore weaker adds list times h = ∥∥₁_map (adds list times h) (λ more. (more.0, All-weaker (λ (e : Entry). IsSo e.operation) (λ (e : Entry). IsMore e.operation) (λ e is. weaker e.operation is) more.0 more.1, more.2))

-- at a moment that is the same
pub some_at : (Before After : List Entry → List ℕ → Type 0) (IsSo : LineOperation → Type 0) (t u : ℕ) → t ≡ u → AddsSome IsSo t Before After → AddsSome IsSo u Before After
some_at Before After IsSo t u same adds = subst (λ at. AddsSome IsSo at Before After) same adds

-- ---- two calls, one after another

module _ (First Then Last : List Entry → List ℕ → Type 0) where
  module _ (IsSo : LineOperation → Type 0) (t : ℕ) where
    pub none_then_one : AddsNone First Then → AddsOne IsSo t Then Last → AddsOne IsSo t First Last
    none_then_one stays adds list times h = adds list times (stays list times h)

    pub some_some : AddsSome IsSo t First Then → AddsSome IsSo t Then Last → AddsSome IsSo t First Last
    some_some one other list times h = ∥∥₁_elim (one list times h) ∥∥₁_prop (λ more. ∥∥₁_map (other (list ++ more.0) (times ++ map (λ _. t) more.0) more.2) (both more))
      where
        both : (more : (more : List Entry) × All (λ e. IsSo e.operation) more × Then (list ++ more) (times ++ map (λ _. t) more))
            → (far : List Entry) × All (λ e. IsSo e.operation) far × Last ((list ++ more.0) ++ far) ((times ++ map (λ _. t) more.0) ++ map (λ _. t) far)
            → (all : List Entry) × All (λ e. IsSo e.operation) all × Last (list ++ all) (times ++ map (λ _. t) all)
        both more far = (
          more.0 ++ far.0,
          All-append (λ (e : Entry). IsSo e.operation) more.0 far.0 more.1 far.1,
          subst (Last (list ++ (more.0 ++ far.0))) (append_assoc times (map (λ _. t) more.0) (map (λ _. t) far.0) ∙ ap (λ us. times ++ us) (sym (map-append (λ (e : Entry). t) more.0 far.0)))
              (subst (λ l. Last l ((times ++ map (λ _. t) more.0) ++ map (λ _. t) far.0)) (append_assoc list more.0 far.0) far.2),
        )

-- ---- what needs no hash

-- such a line is counted at any reading, since nothing of it is counted
quick_at : (now : ℕ) (limits : Option Limits) (book : MarkedBook) (operation : LineOperation) → IsQuick operation → IsCountedAt now limits limits book operation
quick_at now None book (Quick operation) quick = refl
quick_at now (Some l) book (Quick operation) quick = (tt, refl)
quick_at now limits book (Whole r) quick = absurd quick
quick_at now limits book (Login name pw setting) quick = absurd quick
quick_at now limits book (Reset name pw setting) quick = absurd quick
quick_at now limits book (Forgive name) quick = absurd quick
quick_at now limits book (Later name seconds) quick = absurd quick

quick_judged : (operation : LineOperation) → IsQuick operation → IsNotSentAway operation
quick_judged (Quick operation) quick = tt
quick_judged (Whole r) quick = tt
quick_judged (Login name pw setting) quick = tt
quick_judged (Reset name pw setting) quick = tt
quick_judged (Forgive name) quick = tt
quick_judged (Later name seconds) quick = absurd quick

module _ (Before After : List Entry → List ℕ → Type 0) (t : ℕ) where
  pub quick_counts : (now : ℕ) (old new : Option Limits) (book : MarkedBook) → new ≡ old → AddsOne IsQuick t Before After → AddsOne (IsCountedAt now old new book) t Before After
  quick_counts now old new book same adds = one_weaker Before After IsQuick t (IsCountedAt now old new book) (λ operation quick. subst (λ l. IsCountedAt now old l book operation) (sym same) (quick_at now old book operation quick)) adds

  -- it is counted from a limiter and a book that are the same
  pub counted_from : (now : ℕ) (first old new : Option Limits) (here book : MarkedBook) → old ≡ first → book ≡ here → AddsOne (IsCountedAt now old new book) t Before After → AddsOne (IsCountedAt now first new here) t Before After
  counted_from now first old new here book same is adds = one_weaker Before After (IsCountedAt now old new book) t (IsCountedAt now first new here)
      (λ operation counts. subst (λ l. IsCountedAt now l new here operation) same (subst (λ b. IsCountedAt now old new b operation) is counts)) adds

  pub quick_some : AddsOne IsQuick t Before After → AddsSome IsNotSentAway t Before After
  quick_some adds = one_some Before After IsNotSentAway t (one_weaker Before After IsQuick t IsNotSentAway quick_judged adds)

-- ---- call after call

module _ (capacity : ℕ) (s : Service) (list : List Entry) (times : List ℕ) where
  here : (m : State) → answered_in capacity s m list times → StandsBehind capacity s list times m
  here m is = ∣ ([], [], refl, subst (answered_in capacity s m (list ++ [])) (sym (append-nil times)) (subst (λ l. answered_in capacity s m l times) (sym (append-nil list)) is)) ∣₁

  -- some lines more behind them
  module _ (m : State) (t : ℕ) where
    farther : (before : (more : List Entry) × (later : List ℕ) × (length later ≡ length more) × Unit {0})
        → (es : List Entry) → answered_in capacity s m ((list ++ before.0) ++ es) ((times ++ before.1) ++ map (λ _. t) es)
        → (more : List Entry) × (later : List ℕ) × (length later ≡ length more) × answered_in capacity s m (list ++ more) (times ++ later)
    farther before es is = (
      before.0 ++ es,
      before.1 ++ map (λ (e : Entry). t) es,
      length-append before.1 (map (λ (e : Entry). t) es) ∙ ap (λ n. n + length (map (λ (e : Entry). t) es)) before.2 ∙ ap (λ n. length before.0 + n) (length-map es (λ (e : Entry). t)) ∙ sym (length-append before.0 es),
      subst (answered_in capacity s m (list ++ (before.0 ++ es))) (append_assoc times before.1 (map (λ (e : Entry). t) es))
          (subst (λ l. answered_in capacity s m l ((times ++ before.1) ++ map (λ (e : Entry). t) es)) (append_assoc list before.0 es) is),
    )

  one_call : (old new : State) → IsCall capacity s old new → StandsBehind capacity s list times old → StandsBehind capacity s list times new
  one_call old new call stands = ∥∥₁_elim stands ∥∥₁_prop (λ before. some (adds call) before)
    where
      adds : IsCall capacity s old new → AddsSome (λ operation. Unit {0}) (passed_of new.limits) (answered_in capacity s old) (answered_in capacity s new)
      adds (inl one) = one_some (answered_in capacity s old) (answered_in capacity s new) (λ operation. Unit {0}) (passed_of new.limits)
          (one_weaker (answered_in capacity s old) (answered_in capacity s new) (IsCountedAt one.0 old.limits new.limits old.book) (passed_of new.limits) (λ operation. Unit {0}) (λ operation is. tt) one.1)
      adds (inr more) = some_weaker (answered_in capacity s old) (answered_in capacity s new) IsNotSentAway (passed_of new.limits) (λ operation. Unit {0}) (λ operation is. tt) more

      some : AddsSome (λ operation. Unit {0}) (passed_of new.limits) (answered_in capacity s old) (answered_in capacity s new)
          → (more : List Entry) × (later : List ℕ) × (length later ≡ length more) × answered_in capacity s old (list ++ more) (times ++ later) → StandsBehind capacity s list times new
      some more before = ∥∥₁_map (more (list ++ before.0) (times ++ before.1) before.3) (λ es. farther new (passed_of new.limits) (before.0, before.1, before.2, tt) es.0 es.2)

pub stand_behind : (capacity : ℕ) (s : Service) (states : ℕ → State) → AreCalls capacity s states → (list : List Entry) (times : List ℕ) → answered_in capacity s (states 0) list times → (calls : ℕ) → StandsBehind capacity s list times (states calls)
stand_behind capacity s states all list times is zero = here capacity s list times (states 0) is
stand_behind capacity s states all list times is (suc n) = one_call capacity s list times (states n) (states (suc n)) (all n) (stand_behind capacity s states all list times is n)
