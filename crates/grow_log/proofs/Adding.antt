-- The steps on the words behind a log keep their rule.
use Rattle.std.proofs.Common.{◌≡◌, ℕ, zero, suc, ◌<◌, ◌==◌, Bool, true, false, List, [], ◌∷◌, ◌++◌, length, slice_set, refl, ap, sym, subst, arith, inl, length-append, None, ◌∙◌}
use Rattle.std.proofs.{lemmas.List.append-nil, lemmas.List.get_or-set_same, lemmas.List.get_or_append_left, lemmas.List.length-set, lemmas.Bool.Decides.nat_tests}
use mathlib.Core.List.{IsPrefix}
use prog.Atomic.{either}
use Rattle.logbook.specs.Pages.{Cell, Nib, cell, keeps, adds, gives, no_nib, may_write, step, Moves, Goes}
use Rattle.grow_log.specs.declared.link.Link.{Link}
use Rattle.grow_log.specs.Links.{AreHome, Begins, Fills, IsKept, IsPenAfter, Looks, Reserves, first_place, is_home, place_after}
use Rattle.grow_log.proofs.Prefixes.{prefix_length, prefix_trans, prefix_whole}

abbrev pub shown : {T : Type 0} → List (Link T) → List (Link T)
shown links = []

abbrev pub moved : {T : Type 0} → List (Link T) → List (Link T) → ℕ → Type 0
moved xs ys n = Unit {0}

-- ---- words, of which one is set or one more is made

home_set : (cells : List Cell) (k x j : ℕ) → is_home cells j ≡ true → is_home (slice_set cells k (x, true)) j ≡ true
home_set [] k x j home = absurd (cc home)
home_set (c ∷ cells) zero x zero home = refl
home_set (c ∷ cells) zero x (suc j) home = home
home_set (c ∷ cells) (suc k) x zero home = home
home_set (c ∷ cells) (suc k) x (suc j) home = home_set cells k x j home

home_more : (cells : List Cell) (j : ℕ) → is_home cells j ≡ true → is_home (cells ++ (0, false) ∷ []) j ≡ true
home_more [] j home = absurd (cc home)
home_more (c ∷ cells) zero home = home
home_more (c ∷ cells) (suc j) home = home_more cells j home

away_set : (cells : List Cell) (k x : ℕ) → is_home cells 0 ≡ true → is_home cells k ≡ false → is_home (slice_set cells 0 (x, true)) k ≡ false
away_set [] k x home away = away
away_set (c ∷ cells) zero x home away = absurd (cc (home, away))
away_set (c ∷ cells) (suc k) x home away = away

number_here : (cells : List Cell) (x : ℕ) → 0 < length cells → (cell (slice_set cells 0 (x, true)) 0).0 ≡ x
number_here cells x some = ap (λ (c : Cell). c.0) (get_or-set_same cells 0 (x, true) (0, false) some)

number_other : (cells : List Cell) (k x : ℕ) → is_home cells 0 ≡ true → is_home cells k ≡ false → (cell (slice_set cells k (x, true)) 0).0 ≡ (cell cells 0).0
number_other [] k x home away = refl
number_other (c ∷ cells) zero x home away = absurd (cc (home, away))
number_other (c ∷ cells) (suc k) x home away = refl

-- ---- links whose words are at home

home_still : {T : Type 0} (cells others : List Cell) (place : ℕ) (links : List (Link T)) → ((j : ℕ) → is_home cells j ≡ true → is_home others j ≡ true) → AreHome cells place links → AreHome others place links
home_still cells others place [] still home = tt
home_still cells others place (l ∷ links) still home = (still place home.0, home_still cells others l.next links still home.1)

home_snoc : {T : Type 0} (cells : List Cell) (place : ℕ) (links : List (Link T)) (new : Link T) → AreHome cells place links → is_home cells (place_after place links) ≡ true → AreHome cells place (links ++ new ∷ [])
home_snoc cells place [] new home here = (here, tt)
home_snoc cells place (l ∷ links) new home here = (home.0, home_snoc cells l.next links new home.1 here)

-- links after which a word is away are all that there are
all_seen : {T : Type 0} (cells : List Cell) (place : ℕ) (xs links : List (Link T)) → IsPrefix xs links → AreHome cells place links → is_home cells (place_after place xs) ≡ false → xs ≡ links
all_seen cells place [] [] p home away = refl
all_seen cells place [] (l ∷ links) p home away = absurd (cc (home.0, away))
all_seen cells place (x ∷ xs) [] p home away = absurd (cc (p.1))
all_seen {T} cells place (x ∷ xs) (l ∷ links) p home away =
    let heads : x ≡ l = cc (p.1) in
    let rest = all_seen cells l.next xs links (p.0, cc (p.1)) home.1 (subst (λ (m : Link T). is_home cells (place_after m.next xs) ≡ false) heads away) in
    cc (heads, rest)

-- ---- the rule, where a word is set or one more is made

kept_set : {T : Type 0} (cells : List Cell) (links : List (Link T)) (x : ℕ) → (x ≡ 0 → links ≡ []) → IsKept cells links → IsKept (slice_set cells 0 (x, true)) links
kept_set cells links x begun kept = record {
  two = omega (arith, length-set cells 0 (x, true), kept.two);
  first = home_set cells 0 x 0 kept.first;
  second = home_set cells 0 x first_place kept.second;
  begun = λ z. begun (sym (number_here cells x (omega (arith, kept.two))) ∙ z);
  home = home_still cells (slice_set cells 0 (x, true)) first_place links (home_set cells 0 x) kept.home;
}

kept_more : {T : Type 0} (cells : List Cell) (links : List (Link T)) → IsKept cells links → IsKept (cells ++ (0, false) ∷ []) links
kept_more cells links kept = record {
  two = omega (arith, length-append cells ((0, false) ∷ []), kept.two);
  first = home_more cells 0 kept.first;
  second = home_more cells first_place kept.second;
  begun = λ z. kept.begun (sym (ap (λ (c : Cell). c.0) (get_or_append_left cells ((0, false) ∷ []) (0, false) 0 (omega (arith, kept.two)))) ∙ z);
  home = home_still cells (cells ++ (0, false) ∷ []) first_place links (home_more cells) kept.home;
}

-- ---- making a place

none_stays : (n : ℕ) (b : Bool) → (n == 0) ≡ b → either (n == 0) 0 n ≡ n
none_stays n true is = let none : n ≡ 0 = grind (arith, nat_tests) in rw is (sym none)
none_stays n false is = rw is refl

kept_same : {T : Type 0} (cells : List Cell) (links : List (Link T)) → IsKept cells links → IsKept (slice_set cells 0 (either ((cell cells 0).0 == 0) 0 (cell cells 0).0, true)) (links ++ [])
kept_same cells links kept =
    let n = (cell cells 0).0 in
    let same = none_stays n (n == 0) refl in
    subst (IsKept (slice_set cells 0 (either (n == 0) 0 n, true))) (sym (append-nil links)) (kept_set cells links (either (n == 0) 0 n) (λ z. kept.begun (sym same ∙ z)) kept)

pub reserves_moves : {T : Type 0} (v : List (Link T)) (ask : Link T)
    → Moves IsKept shown moved 0 (v, (no_nib, None)) (λ n. either (n == 0) 0 n) (Reserves (step 0 0 0 ask) (v, (no_nib, None)))
reserves_moves v ask cells links kept pre away = (
  omega (arith, kept.two),
  kept.first,
  (adds, [], None, tt, kept_more _ (links ++ []) (kept_same cells links kept), inl (refl, refl), refl),
)

-- ---- adding a link

one_at_least : (n : ℕ) (b : Bool) → (n == 0) ≡ b → either (n == 0) 1 n ≡ 0 → ⊥
one_at_least n true is none = let one : 1 ≡ 0 = rw is at none in absurd (omega (arith, one))
one_at_least n false is none =
    let same : n ≡ 0 = rw is at none in
    let apart : (n == 0) ≡ true = grind (arith, nat_tests) in
    absurd (cc (is, apart))

begins_goes : {T : Type 0} (cells : List Cell) (links v : List (Link T)) (ask : Link T) → IsKept cells links → (b : Bool) → ((cell cells 0).0 == 0) ≡ b
    → Goes IsKept shown moved 0 (v, (no_nib, None)) (λ n. either (n == 0) 1 n) (Begins (step 0 0 1 ask) (v, (no_nib, None))) cells links
begins_goes cells links v ask kept true is =
    let n = (cell cells 0).0 in
    let zero_is : n ≡ 0 = grind (arith, nat_tests) in
    let none : links ≡ [] = kept.begun zero_is in
    let empty : IsKept cells [] = subst (IsKept cells) none kept in
    let x = either (n == 0) 1 n in
    let set = kept_set cells [] x (λ z. refl) empty in
    let all : links ++ ask ∷ [] ≡ ask ∷ [] = ap (λ l. l ++ ask ∷ []) none in
    let new : IsKept (slice_set cells 0 (x, true)) (ask ∷ []) = record {
      two = set.two;
      first = set.first;
      second = set.second;
      begun = λ z. absurd (one_at_least n true is (sym (number_here cells x (omega (arith, kept.two))) ∙ z));
      home = (set.second, tt);
    } in (
      keeps,
      ask ∷ [],
      None,
      tt,
      subst (IsKept (slice_set cells 0 (x, true))) (sym all) new,
      inl (refl, refl),
      rw is all,
    )
begins_goes cells links v ask kept false is =
    let n = (cell cells 0).0 in
    let x = either (n == 0) 1 n in
    let some : x ≡ 0 → links ≡ [] = λ z. absurd (one_at_least n false is z) in (
      keeps,
      [],
      None,
      tt,
      subst (IsKept (slice_set cells 0 (x, true))) (sym (append-nil links)) (kept_set cells links x some kept),
      inl (refl, refl),
      rw is tt,
    )

pub begins_moves : {T : Type 0} (v : List (Link T)) (ask : Link T)
    → Moves IsKept shown moved 0 (v, (no_nib, None)) (λ n. either (n == 0) 1 n) (Begins (step 0 0 1 ask) (v, (no_nib, None)))
begins_moves v ask cells links kept pre away = (omega (arith, kept.two), kept.first, begins_goes cells links v ask kept ((cell cells 0).0 == 0) refl)

kept_snoc : {T : Type 0} (cells : List Cell) (links : List (Link T)) (new : Link T) (key value x : ℕ) → (x ≡ 0 → ⊥) → IsKept cells links → key < length cells → is_home cells key ≡ false → key ≡ place_after first_place links
    → IsKept (slice_set (slice_set cells 0 (x, true)) key (value, true)) (links ++ new ∷ [])
kept_snoc cells links new key value x some kept lt away at =
    let once = slice_set cells 0 (x, true) in
    let twice = slice_set once key (value, true) in
    let set = kept_set cells links x (λ z. absurd (some z)) kept in
    let long = length-set cells 0 (x, true) in
    let here : is_home twice key ≡ true = ap (λ (c : Cell). c.1) (get_or-set_same once key (value, true) (0, false) (omega (arith, lt, long))) in
    let number = number_other once key value set.first (away_set cells key x kept.first away) ∙ number_here cells x (omega (arith, kept.two)) in
    record {
      two = omega (arith, long, length-set once key (value, true), kept.two);
      first = home_set once key value 0 set.first;
      second = home_set once key value first_place set.second;
      begun = λ z. absurd (some (sym number ∙ z));
      home = home_snoc twice first_place links new (home_still once twice first_place links (home_set once key value) set.home) (subst (λ k. is_home twice k ≡ true) at here);
    }

pub fills_moves : {T : Type 0} (v : List (Link T)) (ask : Link T) (pen : Nib) → IsPenAfter v pen
    → Moves IsKept shown moved 0 (v, (pen, None)) (λ n. either (n == 0) 1 n) (Fills (step 0 0 1 ask) (v, (pen, None)))
fills_moves v ask pen after cells links kept pre away =
    let n = (cell cells 0).0 in
    let there = away after.0 in
    let same : v ≡ links = all_seen cells first_place v links pre kept.home (subst (λ k. is_home cells k ≡ false) after.1 there.1) in
    let at : pen.key ≡ place_after first_place links = after.1 ∙ ap (place_after first_place) same in (
      omega (arith, kept.two),
      kept.first,
      (
        gives,
        ask ∷ [],
        None,
        after.0,
        kept_snoc cells links ask pen.key pen.value (either (n == 0) 1 n) (one_at_least n (n == 0) refl) kept there.0 there.1 at,
        inl (refl, refl),
        ap (λ l. l ++ ask ∷ []) (sym same),
      ),
    )

-- ---- looking at all

looks_at_all : {T : Type 0} (cells : List Cell) (links v : List (Link T)) (key : ℕ) → IsKept cells links → IsPrefix v links → is_home cells key ≡ false
    → (u : List (Link T)) → IsPrefix u v → key ≡ place_after first_place u → u ≡ v
looks_at_all cells links v key kept pre away u p at =
    let all : u ≡ links = all_seen cells first_place u links (prefix_trans u v links p pre) kept.home (subst (λ k. is_home cells k ≡ false) at away) in
    prefix_whole u v p (omega (arith, prefix_length v links pre, ap length all))

pub looks_moves : {T : Type 0} (v : List (Link T)) (ask : Link T) (pen : Nib) → pen.right ≡ may_write
    → Moves IsKept shown moved 0 (v, (pen, None)) (λ n. either (n == 0) 0 n) (Looks (step 0 0 0 ask) (v, (pen, None)))
looks_moves v ask pen may cells links kept pre away = (
  omega (arith, kept.two),
  kept.first,
  (keeps, [], None, tt, kept_same cells links kept, inl (refl, refl), (refl, looks_at_all cells links v pen.key kept pre (away may).1)),
)
