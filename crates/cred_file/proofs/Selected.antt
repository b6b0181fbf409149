-- The answer of the query of all rows, which changes nothing.
use Rattle.std.proofs.Common.{◌≡◌, ◌+◌, ◌<◌, inl, inr, arith, List, [], ◌∷◌, map, length, get_or, IsTrue, false, refl, sym, ap, subst, subst₂, ◌∙◌}
use Rattle.std.proofs.lemmas.{List.Concat.flat_map_single, List.length-map, List.get_or-map, List.Elements.All-map, List.Sorted.All-permutation, List.Sorted.IsPermutation-map, List.Sorted.IsPermutation-sym}
use Rattle.std.specs.{List.All, List.Sorted.IsPermutation, List.Sorted.IsSorted, Ordering.is_lt}
use Rattle.sqlite.specs.{declared.types.Value.TheVariants.Null, Order.Row, Order.column, Order.value_cmp, Query.IsAnswer, Query.output, Query.output_cmp, Query.Output, Program.overlay}
use Rattle.sqlite_trees.proofs.ListLemmas.{map-map}
use Rattle.sqlite_value.proofs.OrderLemmas.{then-Equal}
use Rattle.sqlite.specs.{Effect.Database, Effect.IsDatabase, State.State, State.Shown, State.IsUnchanged, State.CommitsShowing, State.Survives}
use Rattle.sqlite.proofs.Callers.{reads_as, never_commits}
use Rattle.cred_file.specs.Cells.{Cells}
use Rattle.cred_file.specs.{Schema.IsBookSchema, Table.StandsFor, Keeps.IsTableOf, Opening.rows_text, Opening.IsAsBefore}
use Rattle.cred_file.proofs.{Texts.all_rows, Texts.rows_is, Texts.rows_listed, Texts.rows_plain, Keeping.IsSettled, Keeping.holds, Shuffled.shown}

-- the rowids rise
abbrev pub IsRising : List Row → Type 0
IsRising = IsSorted (λ a b. value_cmp (column a 0) (column b 0))

-- what an output is sorted by is the rowid that it shows
abbrev IsKeyed : Output → Type 0
IsKeyed o = o.0 ≡ column o.1 0 ∷ []

keyed_cmp : (x y : Output) → IsKeyed x → IsKeyed y → output_cmp all_rows x y ≡ value_cmp (column x.1 0) (column y.1 0)
keyed_cmp x y p q =
    then-Equal (value_cmp (column x.0 0) (column y.0 0)) ∙ ap (λ r. value_cmp (column r 0) (column y.0 0)) p ∙ ap (λ r. value_cmp (column x.1 0) (column r 0)) q

shown_rises : (os : List Output) → All IsKeyed os → IsSorted (output_cmp all_rows) os → IsRising (map (λ (o : Output). o.1) os)
shown_rises os keyed sorted k d low lt =
    let e : Output = ([], d) in
    let within : k + 1 < length os = omega (arith, length-map os (λ (o : Output). o.1), lt) in
    let here = get_or-map (λ (o : Output). o.1) os k e d (omega arith) in
    let next = get_or-map (λ (o : Output). o.1) os (k + 1) e d within in
    subst₂ (λ a b. is_lt (value_cmp (column a 0) (column b 0)) ≡ false) (sym next) (sym here)
    (ap is_lt (sym (keyed_cmp (get_or os (k + 1) e) (get_or os k e) (keyed (k + 1) e within) (keyed k e (omega arith)))) ∙ sorted k e low within)

module _ (old new : State) (has : IsBookSchema old.now.schema) where
  -- the table's rows, in the order of their rowids
  pub selected : (rows : List Row) → Shown rows_text [] old new rows → IsPermutation rows (map shown (old.now.trees 0)) × IsRising rows
  selected rows h =
      let it = reads_as rows_text [] old new old.now.schema refl _ (rows_is _ has) (rows_plain _ has) (rows_listed _ has) rows h in
      let a : IsAnswer all_rows (overlay old.now.trees []) [] rows = it.answer Null in
      let envs = map (λ r. [] ∷ r ∷ []) (old.now.trees 0) in
      let staged : a.staged ≡ envs = a.grouped ∙ flat_map_single (λ (r : Row). [] ∷ r ∷ []) (old.now.trees 0) in
      let outs : a.kept ≡ map (output all_rows) envs = a.distinct ∙ ap (map (output all_rows)) staged in
      let kept : map (λ (o : Output). o.1) a.kept ≡ map shown (old.now.trees 0) = ap (map (λ (o : Output). o.1)) outs ∙ map-map (λ (o : Output). o.1) (output all_rows) envs ∙ map-map (λ e. (output all_rows e).1) (λ (r : Row). [] ∷ r ∷ []) (old.now.trees 0) in
      let shows : rows ≡ map (λ (o : Output). o.1) a.ordered = a.shown in
      let there : IsPermutation (map shown (old.now.trees 0)) rows = subst (λ ks. IsPermutation ks rows) kept
      (subst (λ rs. IsPermutation (map (λ (o : Output). o.1) a.kept) rs) (sym shows) (IsPermutation-map (λ (o : Output). o.1) a.kept a.ordered a.same)) in
      let keyed : All IsKeyed a.kept = subst (All IsKeyed) (sym outs) (All-map IsKeyed (output all_rows) envs (All-map (λ e. IsKeyed (output all_rows e)) (λ r. [] ∷ r ∷ []) (old.now.trees 0) (λ k d low. refl))) in
      (IsPermutation-sym _ _ there, subst IsRising (sym shows) (shown_rises a.ordered (All-permutation IsKeyed a.kept a.ordered a.same keyed) a.sorted))

  pub survived : Survives old new (CommitsShowing rows_text [] old) → Survives old new (λ _. ⊥)
  survived s = record {
    clean = s.clean;
    shield = s.shield;
    counts = s.counts;
    limit = s.limit;
    closes = s.closes;
    crash = λ clean db may. elim (s.crash clean db may) [
      | inl before ↦ inl before
      | inr commits ↦ absurd (never_commits rows_text [] old db (rows_plain _ has) commits)
    ];
  }

both_true : (a b : Rattle.std.proofs.Common.Bool) → IsTrue a → IsTrue b → b ≡ a
both_true a b p q = search

pub as_before : (old new : State) → IsUnchanged old new → IsAsBefore old new
as_before old new same = record { now = same.0.now_is; committed = same.0.committed_is; mode = same.0.mode; is_open = both_true old.is_open new.is_open same.0.was_open same.0.is_open }

-- a sound database at rest, whose table stands for the book
pub is_table : (s : State) (book : Cells) → IsSettled s → IsTrue s.is_open → s.in_transaction ≡ false → s.now ≡ s.committed → IsDatabase s.now → IsBookSchema s.now.schema
    → StandsFor (s.now.trees 0) book → IsTableOf s book
is_table s book settled is_open autocommit rest sound schema stands = record {
  schema = schema;
  stands = stands;
  sound = sound;
  autocommit = autocommit;
  left = λ db may. (book, refl, holds db book s.now schema sound stands (settled db is_open may ∙ ap (λ (d : Database). d.trees) (sym rest)));
}
