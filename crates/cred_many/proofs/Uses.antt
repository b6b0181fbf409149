-- Lines that are answered together, or come back, have their turns.
use Rattle.std.proofs.Common.{◌≡◌, ◌⊎◌, inl, inr, ◌-◌, ◌≤◌, List, [], ◌∷◌, ◌++◌, length, refl, arith}
use Rattle.std.proofs.lemmas.List.Elements.{All-cons, All-contains, All-contains_itself, All-head, All-nil, All-push, All-tail, All-weaker, Contains-append_left, Contains-push}
use Rattle.std.specs.List.{All, Contains, remove}
use Rattle.cred_book.specs.Works.{Task}
use Rattle.cred_many.specs.{LineOperations.Entry, Scribe.AreClosed, Scribe.entries_of, declared.open.Open.Open}
use Rattle.cred_many.specs.Turns.{HaveTurns, KeepsTurns, UseTurns, UsesTurn, turns_left}
use Rattle.cred_many.proofs.Turns.{closed_turn, keeps_same}

-- ---- lines that have used their turns

abbrev pub IsFewer : List Open → List Open → Entry → Type 0
IsFewer old new e = turns_left e.number new ≤ turns_left e.number old - 1

fewer_on : (es : List Entry) (old new newer : List Open) → KeepsTurns new newer → All (IsFewer old new) es → All (IsFewer old newer) es
fewer_on es old new newer keeps all = All-weaker (IsFewer old new) (IsFewer old newer) (λ e h. let less = keeps e.number in omega (arith, less, h)) es all

fewer_before : (es : List Entry) (old new newer : List Open) → KeepsTurns old new → All (IsFewer new newer) es → All (IsFewer old newer) es
fewer_before es old new newer keeps all = All-weaker (IsFewer new newer) (IsFewer old newer) (λ e h. let less = keeps e.number in omega (arith, less, h)) es all

pub keeps_on : (old new newer : List Open) → KeepsTurns old new → KeepsTurns new newer → KeepsTurns old newer
keeps_on old new newer a b = λ m. let one = a m in let other = b m in omega (arith, one, other)

pub none_used : (old new : List Open) → new ≡ old → UseTurns [] old new
none_used old new is = record { fewer = All-nil (IsFewer old new); others = keeps_same old new is }

-- one more
pub use_more : (es : List Entry) (e : Entry) (old new newer : List Open) → UseTurns es old new → UsesTurn e.number new newer → UseTurns (es ++ e ∷ []) old newer
use_more es e old new newer all one = record {
  fewer = All-push (IsFewer old newer) es e (fewer_on es old new newer one.others all.fewer) (let less = one.fewer in let keeps = all.others e.number in omega (arith, less, keeps));
  others = keeps_on old new newer all.others one.others;
}

-- the lines of a group are closed
pub closed_all : (es : List Entry) (left rest : List Open) → AreClosed es left rest → UseTurns es left rest
closed_all [] left rest is = none_used left rest is
closed_all (e ∷ es) left rest (place, there, more) =
    let first = closed_turn left (remove left place) place e.number there refl in
    let others = closed_all es (remove left place) rest more in
    record {
      fewer = All-cons (IsFewer left rest) e es
          (let less = first.fewer in let keeps = others.others e.number in omega (arith, less, keeps))
          (fewer_before es left (remove left place) rest first.others others.fewer);
      others = keeps_on left (remove left place) rest first.others others.others;
    }

-- ---- works that come back, are gathered, or have used their turns

abbrev pub HasPlace : List (Entry × Task) → List (Entry × Task) → List Open → List Open → Entry × Task → Type 0
HasPlace back group old new w = Contains back w ⊎ (Contains group w ⊎ IsFewer old new w.0)

pub record Gathered (works back group : List (Entry × Task)) (old new : List Open) : Type 0 where
  pub each : All (HasPlace back group old new) works
  pub others : KeepsTurns old new

pub none_gathered : (back group : List (Entry × Task)) (old new : List Open) → new ≡ old → Gathered [] back group old new
none_gathered back group old new is = record { each = All-nil (HasPlace back group old new); others = keeps_same old new is }

pub gathered_back : (works back group : List (Entry × Task)) (w : Entry × Task) (old new : List Open) → Gathered works back group old new → Gathered (works ++ w ∷ []) (back ++ w ∷ []) group old new
gathered_back works back group w old new g = record {
  each = All-push (HasPlace (back ++ w ∷ []) group old new) works w
      (All-weaker (HasPlace back group old new) (HasPlace (back ++ w ∷ []) group old new) (λ v h. elim h [
        | inl is ↦ inl (Contains-append_left back (w ∷ []) v is)
        | inr is ↦ inr is
      ]) works g.each)
      (inl (Contains-push back w));
  others = g.others;
}

pub gathered_in : (works back group : List (Entry × Task)) (w : Entry × Task) (old new : List Open) → Gathered works back group old new → Gathered (works ++ w ∷ []) back (group ++ w ∷ []) old new
gathered_in works back group w old new g = record {
  each = All-push (HasPlace back (group ++ w ∷ []) old new) works w
      (All-weaker (HasPlace back group old new) (HasPlace back (group ++ w ∷ []) old new) (λ v h. elim h [
        | inl is ↦ inl is
        | inr is ↦ inr (elim is [
          | inl it ↦ inl (Contains-append_left group (w ∷ []) v it)
          | inr it ↦ inr it
        ])
      ]) works g.each)
      (inr (inl (Contains-push group w)));
  others = g.others;
}

pub gathered_starved : (works back group : List (Entry × Task)) (w : Entry × Task) (old new newer : List Open) → Gathered works back group old new → UsesTurn w.0.number new newer → Gathered (works ++ w ∷ []) back group old newer
gathered_starved works back group w old new newer g one = record {
  each = All-push (HasPlace back group old newer) works w
      (All-weaker (HasPlace back group old new) (HasPlace back group old newer) (λ v h. elim h [
        | inl is ↦ inl is
        | inr is ↦ inr (elim is [
          | inl it ↦ inl it
          | inr it ↦ inr (let less = one.others v.0.number in omega (arith, less, it))
        ])
      ]) works g.each)
      (inr (inr (let less = one.fewer in let keeps = g.others w.0.number in omega (arith, less, keeps))));
  others = keeps_on old new newer g.others one.others;
}

each_work : (P : Entry → Type 0) (ws : List (Entry × Task)) → All P (entries_of ws) → All (λ w. P w.0) ws
each_work P [] all = All-nil (λ w. P w.0)
each_work P (w ∷ ws) all = All-cons (λ w. P w.0) w ws (All-head P w.0 (entries_of ws) all) (each_work P ws (All-tail P w.0 (entries_of ws) all))

each_entry : (P : Entry → Type 0) (ws : List (Entry × Task)) → All (λ w. P w.0) ws → All P (entries_of ws)
each_entry P [] all = All-nil P
each_entry P (w ∷ ws) all = All-cons P w.0 (entries_of ws) (All-head (λ w. P w.0) w ws all) (each_entry P ws (All-tail (λ w. P w.0) w ws all))

-- nothing was gathered
pub all_back : (works back group : List (Entry × Task)) (old new : List Open) → length group ≡ 0 → Gathered works back group old new → HaveTurns works back old new
all_back works back group old new none g = record {
  each = All-weaker (HasPlace back group old new) (λ w. Contains back w ⊎ IsFewer old new w.0) (λ w h. elim h [
    | inl is ↦ inl is
    | inr is ↦ elim is [
      | inl it ↦ absurd (let within = it.1 in omega (arith, within, none))
      | inr it ↦ inr it
    ]
  ]) works g.each;
  others = g.others;
}

-- what was gathered is done
pub all_done : (works back group : List (Entry × Task)) (old new newer : List Open) → UseTurns (entries_of group) new newer → Gathered works back group old new → HaveTurns works back old newer
all_done works back group old new newer used g = record {
  each = All-weaker (HasPlace back group old new) (λ w. Contains back w ⊎ IsFewer old newer w.0) (λ w h. elim h [
    | inl is ↦ inl is
    | inr is ↦ inr (elim is [
      | inl it ↦ let less : IsFewer new newer w.0 = All-contains (λ w. IsFewer new newer w.0) group w (each_work (IsFewer new newer) group used.fewer) it in let keeps = g.others w.0.number in omega (arith, less, keeps)
      | inr it ↦ let less = used.others w.0.number in omega (arith, less, it)
    ])
  ]) works g.each;
  others = keeps_on old new newer g.others used.others;
}

-- those that come back have used their turns too
pub all_used : (works back : List (Entry × Task)) (old new newer : List Open) → HaveTurns works back old new → UseTurns (entries_of back) new newer → UseTurns (entries_of works) old newer
all_used works back old new newer had used = record {
  fewer = each_entry (IsFewer old newer) works (All-weaker (λ w. Contains back w ⊎ IsFewer old new w.0) (λ w. IsFewer old newer w.0) (λ w h. elim h [
    | inl it ↦ let less : IsFewer new newer w.0 = All-contains (λ w. IsFewer new newer w.0) back w (each_work (IsFewer new newer) back used.fewer) it in let keeps = had.others w.0.number in omega (arith, less, keeps)
    | inr it ↦ let less = used.others w.0.number in omega (arith, less, it)
  ]) works had.each);
  others = keeps_on old new newer had.others used.others;
}

-- ---- works that wait

-- one more waits
pub one_waits : (works : List (Entry × Task)) (w : Entry × Task) (old new : List Open) → new ≡ old → HaveTurns (works ++ w ∷ []) (works ++ w ∷ []) old new
one_waits works w old new same = record {
  each = All-weaker (Contains (works ++ w ∷ [])) (λ v. Contains (works ++ w ∷ []) v ⊎ IsFewer old new v.0) (λ v h. inl h) (works ++ w ∷ []) (All-contains_itself (works ++ w ∷ []));
  others = keeps_same old new same;
}

-- the others wait on, and the line of this one has used a turn
pub one_used : (works : List (Entry × Task)) (w : Entry × Task) (old new : List Open) → UsesTurn w.0.number old new → HaveTurns (works ++ w ∷ []) works old new
one_used works w old new one = record {
  each = All-push (λ v. Contains works v ⊎ IsFewer old new v.0) works w
      (All-weaker (Contains works) (λ v. Contains works v ⊎ IsFewer old new v.0) (λ v h. inl h) works (All-contains_itself works))
      (inr one.fewer);
  others = one.others;
}

-- the lines of all have used their turns
pub all_used_up : (works : List (Entry × Task)) (old new : List Open) → UseTurns (entries_of works) old new → HaveTurns works [] old new
all_used_up works old new used = record {
  each = All-weaker (λ v. IsFewer old new v.0) (λ v. Contains [] v ⊎ IsFewer old new v.0) (λ v h. inr h) works (each_work (IsFewer old new) works used.fewer);
  others = used.others;
}
