-- The effect of the statements that change an account on the table, at Ok and over a crash.
use Rattle.std.proofs.Common.{◌≡◌, ◌⊎◌, inl, inr, ℕ, ℤ, List, [], ◌∷◌, ◌++◌, map, filter, flat_map, Bool, true, false, cond, ◌&&◌, Some, None, Option, is_some, unwrap_or, IsTrue, Ok, Err, Result, refl, sym, ap, subst, ◌∙◌}
use Rattle.std.proofs.lemmas.Bool.{and_parts, cond_both, not-true}
use Rattle.std.specs.{List.list_all, List.Sorted.IsPermutation, Ordering.is_eq, Ordering.eq_by_cmp, Cmp.eq_by_cmp_equiv}
use Rattle.std.specs.Cmp.Lexicographic.{nat_list_cmp_total}
use Rattle.std.specs.FinMap as fin
use Rattle.sqlite.specs.declared.types.Value.{Value}
use Rattle.sqlite.specs.declared.types.Value.TheVariants.{Null, Int, Text}
use Rattle.sqlite.specs.{Order.Row, Order.column, Order.value_cmp, Term.Env, Term.Term, Term.col, Term.eval, Term.holds, Query.IsAnswer, Query.output, Query.page, Query.Output, Query.Query}
use Rattle.sqlite.specs.{Program.overlay, Kind.TheVariants.Integer, Source.TheVariants.Values}
use Rattle.sqlite.specs.{Command.TheVariants.Insert, Command.TheVariants.Update, Command.TheVariants.Delete, declared.run.Mode.Mode}
use Rattle.sqlite.specs.{Edit.Edit, Edit.edit_of, Edit.edited, Cast.cast, Rowids.TheVariants.Chosen, Rowids.TheVariants.Given, Does.Tally, Does.Does}
use Rattle.sqlite.specs.{Rows.Written, Tree.Trees, Effect.Database, Table.Table}
use Rattle.sqlite_sql.specs.Ops.{unary, binary, is_true, from_truth}
use Rattle.sqlite_rules.specs.{Edit.taken_by, Edit.put_all, Edit.next_rowid, Edit.is_taken, Edit.are_fresh, Cast.cast_row, Calls.ids_of, Action.works}
use Rattle.sqlite_trees.specs.Tree.{put_row, without_rowid}
use Rattle.sqlite.proofs.Callers.{one_step, one_permutation}
use Rattle.cred_file.specs.Cells.{Cell, Cells, blank}
use Rattle.cred_book.specs.{Names.is_name, Names.name_cmp}
use Rattle.sqlite_schema.specs.declared.schema.Keys.{Keys}
use Rattle.cred_file.specs.{Schema.account, Schema.book_schema, Changes.moved}
use Rattle.cred_file.specs.Table.{Line, Says, Tells, has_name, StandsFor}
use Rattle.std.specs.FinMap.{get-remove}
use Rattle.cred_book.proofs.Rows.{row_over}
use Rattle.cred_file.proofs.Shuffled.{row_of, stands_put, stands_without}
use Rattle.cred_file.proofs.Texts.{matched, terms, deleting, renaming}

cast_null : cast Integer Null ≡ Null
unfolding unary
cast_null = cond_both _ Null Null (λ v. v ≡ Null) (λ e. refl) (λ e. refl)

cast_int : (n : ℤ) → cast Integer (Int n) ≡ Int n
unfolding unary
cast_int n = cond_both _ (Int n) (Int n) (λ v. v ≡ Int n) (λ e. refl) (λ e. refl)

cast_told : (value : Value) (v : Cell) → Tells value v → cast Rattle.sqlite.specs.Kind.TheVariants.Text value ≡ value
cast_told Null v tells = refl
cast_told (Text t) v tells = refl
cast_told _ v tells = absurd tells

-- a part that gave a value did not stop on the way
pub went : {B E R : Type 0} {b : B} {Stops : E → Type 0} → ((stop : E) × Stops stop × (Ok b ≡ Err stop)) ⊎ R → R
went (inl stopped) = absurd (let e = stopped.2 in cc)
went (inr on) = on

pub same_value : {B E : Type 0} {a b : B} → ◌≡◌ {A = Result B E} (Ok a) (Ok b) → a ≡ b
same_value e = cc

fresh_is : (rows : List Row) (new : Row) → are_fresh rows (new ∷ []) ≡ true → is_taken rows new ≡ false
fresh_is rows new e = not-true _ (and_parts _ _ e).0

truth_back : (b : Bool) → (is_true (from_truth (Some b)) && true) ≡ b
unfolding binary
truth_back true = refl
truth_back false = refl

-- how WHERE judges the name of a row
abbrev judges : Row → Value → Bool
judges params x = list_all (holds (params ∷ (Null ∷ x ∷ []) ∷ [])) matched.filter

judges_name : (name : List ℕ) (more : Row) (other : List ℕ) → judges (Text name ∷ more) (Text other) ≡ eq_by_cmp name_cmp name other
unfolding binary value_cmp lib.Ieee.is_nan lib.Ieee.lt
judges_name name more other = truth_back (is_eq (name_cmp other name)) ∙ (eq_by_cmp_equiv nat_list_cmp_total).symm other name

abbrev passes : Row → Row → Bool
passes params r = list_all (holds (params ∷ r ∷ [])) matched.filter

finds : (name : List ℕ) (more : Row) (r : Row) (l : Line) → Says r l → passes (Text name ∷ more) r ≡ has_name name l
finds name more r l says = ap (judges (Text name ∷ more)) says.name ∙ judges_name name more l.name

abbrev matching : Row → Row → List Env
matching params r = cond (passes params r) ((params ∷ r ∷ []) ∷ []) []

-- WHERE keeps the rows that pass
matched_rows : (params : Row) (rows : List Row) → flat_map (matching params) rows ≡ map (λ r. params ∷ r ∷ []) (filter (passes params) rows)
matched_rows params [] = refl
matched_rows params (r ∷ rs) = elim (passes params r) as (λ b. cond b ((params ∷ r ∷ []) ∷ []) [] ++ flat_map (matching params) rs ≡ map (λ x. params ∷ x ∷ []) (cond b (r ∷ filter (passes params) rs) (filter (passes params) rs))) [
  | true ↦ ap (λ es. (params ∷ r ∷ []) ∷ es) (matched_rows params rs)
  | false ↦ matched_rows params rs
]

-- no row of these tables refers to an account
abbrev pub AreQuiet : List Table → Type 0
AreQuiet beside = (keys : Keys) (db : Trees) (edit : Edit) → works (book_schema beside) keys 0 edit.table.tree (taken_by db edit) edit.news ≡ []

pub absent_now : (book : Cells) (name : List ℕ) → fin.contains_key (fin.remove book name) name ≡ false
absent_now book name = ap is_some (get-remove nat_list_cmp_total book name name ∙ ap (λ b. cond b None (fin.get book name)) ((eq_by_cmp_equiv nat_list_cmp_total).refl name))

-- an UPDATE of the row of a name, by two terms for the name and the value
abbrev rewriting : Term → Term → Query
rewriting name value = record matched { project = col 1 0 ∷ col 1 0 ∷ name ∷ value ∷ [] }

module _ (beside : List Table) (quiet : AreQuiet beside) (limit : Option ℕ) (mode : Mode) (name : List ℕ) (db after : Database) (text : List ℕ) (tally : Tally) (book : Cells)
    (has : db.schema ≡ book_schema beside) (stands : StandsFor (db.trees 0) book) where
  abbrev trees : Trees
  trees = db.trees

  -- the row of the name is removed, and this row is put at that name or another
  rewrites : fin.contains_key book name ≡ true → (more : Row) (one two : Term) (other : List ℕ) (v : Cell) → fin.contains_key (fin.remove book name) other ≡ false
      → ((r : Row) (l : Line) → Says r l → l.name ≡ name → fin.get book name ≡ Some l.stored
      → (value : Value) × Tells value v × IsTrue (is_name other) × (◌≡◌ {A = Row} (eval one ((Text name ∷ more) ∷ r ∷ []) ∷ eval two ((Text name ∷ more) ∷ r ∷ []) ∷ []) (Text other ∷ value ∷ [])))
      → Does limit mode (Text name ∷ more) db text None (Update 0 (record { lets = []; body = rewriting one two })) (Ok (tally, after))
      → (after.schema ≡ book_schema beside) × StandsFor (after.trees 0) (fin.insert (fin.remove book name) other v)
  rewrites there more one two other v absent shows does =
      let params = Text name ∷ more in
      let body = rewriting one two in
      let found = row_of (passes params) name (finds name more) (trees 0) book stands there in
      let r = found.0 in
      let l = found.1 in
      let it = found.2 in
      let less = stands_without (passes params) (trees 0) book name stands r l it in
      let new = shows r l it.says it.named less.0 in
      let value = new.0 in
      let done = went (subst (λ s. Does limit mode params (record db { schema = s }) text None (Update 0 (record { lets = []; body = body })) (Ok (tally, after))) has does) in
      let now = ap (λ (p : Tally × Database). p.1) (same_value (went (went done.2).2).2) in
      let asked = went done.1 in
      let a : IsAnswer body (overlay trees []) params asked.0 = asked.1.answer Null in
      let staged : a.staged ≡ (params ∷ r ∷ []) ∷ [] = a.grouped ∙ matched_rows params (trees 0) ∙ ap (map (λ x. params ∷ x ∷ [])) it.alone in
      let o : Output = ([], column r 0 ∷ column r 0 ∷ eval one (params ∷ r ∷ []) ∷ eval two (params ∷ r ∷ []) ∷ []) in
      let kept : a.kept ≡ o ∷ [] = a.distinct ∙ ap (map (output body)) staged in
      let ordered = one_permutation o a.ordered (subst (λ k. IsPermutation k a.ordered) kept a.same) in
      let row : Row = Int l.id ∷ Text other ∷ value ∷ [] in
      let is : o.1 ≡ Int l.id ∷ row = (λ i. it.says.id i ∷ it.says.id i ∷ new.3 i) in
      let rows : asked.0 ≡ (Int l.id ∷ row) ∷ [] = a.shown ∙ ap (λ xs. page body params (map (λ (p : Output). p.1) xs)) ordered ∙ ap (λ (x : Row). x ∷ []) is in
      let written = went asked.2 in
      let edit = edit_of trees account (ids_of asked.0) Given 1 asked.0 in
      let step = one_step (book_schema beside) _ trees written.0 edit (quiet mode.keys trees edit) written.1 in
      let news : cast_row account row ≡ row = (λ i. cast_int l.id i ∷ Text other ∷ cast_told value v new.1 i ∷ []) in
      let changed : edited trees edit ≡ put_row row (without_rowid l.id (trees 0)) =
      ap (λ all. edited trees (edit_of trees account (ids_of all) Given 1 all)) rows ∙ ap (λ r. put_row r (without_rowid l.id (trees 0))) news in
      let made = stands_put (without_rowid l.id (trees 0)) (fin.remove book name) row (record { id = l.id; name = other; stored = v }) (record { id = refl; name = refl; is_name = new.2; stored = new.1 }) less.1 it.free absent in
      let is : after.trees 0 ≡ put_row row (without_rowid l.id (trees 0)) = ap (λ (d : Database). d.trees 0) now ∙ ap (λ (w : Written). w.trees 0) (same_value written.2) ∙ step.rows ∙ changed in
      (ap (λ (d : Database). d.schema) now, subst (λ rows. StandsFor rows (fin.insert (fin.remove book name) other v)) (sym is) made)

  pub does_update : (value : Value) (v : Cell) → Tells value v → fin.contains_key book name ≡ true
      → Does limit mode (Text name ∷ value ∷ []) db text None (Update 0 (record { lets = []; body = matched })) (Ok (tally, after))
      → (after.schema ≡ book_schema beside) × StandsFor (after.trees 0) (fin.insert book name v)
  does_update value v tells there does =
      let made = rewrites there (value ∷ []) (col 1 1) (col 0 1) name v (absent_now book name) (λ r l says is kept. (value, tells, subst (λ n. IsTrue (is_name n)) is says.is_name, λ i. (says.name ∙ ap Text is) i ∷ value ∷ [])) does in
      (made.0, subst (StandsFor (after.trees 0)) (row_over book name None (Some v)) made.1)

  pub does_rename : (other : List ℕ) → IsTrue (is_name other) → fin.contains_key book name ≡ true → fin.contains_key (fin.remove book name) other ≡ false
      → Does limit mode (Text name ∷ Text other ∷ []) db text None (Update 0 (record { lets = []; body = renaming })) (Ok (tally, after))
      → (after.schema ≡ book_schema beside) × StandsFor (after.trees 0) (moved book name other)
  does_rename other named there absent =
      rewrites there (Text other ∷ []) (col 0 1) (col 1 2) other (unwrap_or (fin.get book name) blank) absent
      (λ r l says is kept. (column r 2, subst (Tells (column r 2)) (sym (ap (λ o. unwrap_or o blank) kept)) says.stored, named, refl))

  pub does_insert : (named : IsTrue (is_name name)) (value : Value) (v : Cell) → Tells value v → fin.contains_key book name ≡ false
      → Does limit mode (Text name ∷ value ∷ []) db text None (Insert 0 (Values terms 3)) (Ok (tally, after))
      → (after.schema ≡ book_schema beside) × StandsFor (after.trees 0) (fin.insert book name v)
  does_insert named value v tells absent does =
      let params = Text name ∷ value ∷ [] in
      let done = went (subst (λ s. Does limit mode params (record db { schema = s }) text None (Insert 0 (Values terms 3)) (Ok (tally, after))) has does) in
      let now = ap (λ (p : Tally × Database). p.1) (same_value (went (went done.2).2).2) in
      let asked = went done.1 in
      let written = went (went asked.2).2 in
      let counted = went written.2 in
      let edit = edit_of trees account [] Chosen 0 asked.0 in
      let step = one_step (book_schema beside) _ trees written.0 edit (quiet mode.keys trees edit) written.1 in
      let line : Line = record { id = next_rowid (trees 0); name = name; stored = v } in
      let row : Row = Int line.id ∷ Text name ∷ value ∷ [] in
      let news : edit.news ≡ row ∷ [] = ap (λ all. (edit_of trees account [] Chosen 0 all).news) asked.1.1 ∙ rw (cast_null, cast_told value v tells) in
      let free = fresh_is (trees 0) row (subst (λ n. are_fresh (trees 0) n ≡ true) news step.fresh) in
      let made = stands_put (trees 0) book row line (record { id = refl; name = refl; is_name = named; stored = tells }) stands free absent in
      let is : after.trees 0 ≡ put_row row (trees 0) = ap (λ (d : Database). d.trees 0) now ∙ ap (λ (w : Written). w.trees 0) (same_value counted.2) ∙ ap (λ (t : Trees). t 0) (same_value counted.1)
      ∙ step.rows ∙ ap (put_all (trees 0)) news in
      (ap (λ (d : Database). d.schema) now, subst (λ rows. StandsFor rows (fin.insert book name v)) (sym is) made)

  pub does_delete : fin.contains_key book name ≡ true
      → Does limit mode (Text name ∷ []) db text None (Delete 0 (record { lets = []; body = deleting })) (Ok (tally, after))
      → (after.schema ≡ book_schema beside) × StandsFor (after.trees 0) (fin.remove book name)
  does_delete there does =
      let params = Text name ∷ [] in
      let found = row_of (passes params) name (finds name []) (trees 0) book stands there in
      let r = found.0 in
      let l = found.1 in
      let it = found.2 in
      let done = went (subst (λ s. Does limit mode params (record db { schema = s }) text None (Delete 0 (record { lets = []; body = deleting })) (Ok (tally, after))) has does) in
      let now = ap (λ (p : Tally × Database). p.1) (same_value (went (went done.2).2).2) in
      let asked = went done.1 in
      let a : IsAnswer deleting (overlay trees []) params asked.0 = asked.1.answer Null in
      let staged : a.staged ≡ (params ∷ r ∷ []) ∷ [] = a.grouped ∙ matched_rows params (trees 0) ∙ ap (map (λ x. params ∷ x ∷ [])) it.alone in
      let o : Output = ([], column r 0 ∷ []) in
      let kept : a.kept ≡ o ∷ [] = a.distinct ∙ ap (map (output deleting)) staged in
      let ordered = one_permutation o a.ordered (subst (λ k. IsPermutation k a.ordered) kept a.same) in
      let is : o.1 ≡ Int l.id ∷ [] = (λ i. it.says.id i ∷ []) in
      let rows : asked.0 ≡ (Int l.id ∷ []) ∷ [] = a.shown ∙ ap (λ xs. page deleting params (map (λ (p : Output). p.1) xs)) ordered ∙ ap (λ (x : Row). x ∷ []) is in
      let written = went asked.2 in
      let edit = edit_of trees account (ids_of asked.0) Given 0 [] in
      let step = one_step (book_schema beside) _ trees written.0 edit (quiet mode.keys trees edit) written.1 in
      let changed : edited trees edit ≡ without_rowid l.id (trees 0) = ap (λ all. edited trees (edit_of trees account (ids_of all) Given 0 [])) rows in
      let is : after.trees 0 ≡ without_rowid l.id (trees 0) = ap (λ (d : Database). d.trees 0) now ∙ ap (λ (w : Written). w.trees 0) (same_value written.2) ∙ step.rows ∙ changed in
      (ap (λ (d : Database). d.schema) now, subst (λ rows. StandsFor rows (fin.remove book name)) (sym is) (stands_without (passes params) (trees 0) book name stands r l it).1)
