-- The consequences of a row that is left out for all rows.
use Rattle.std.proofs.Common.{◌≡◌, inl, inr, ℤ, List, [], ◌∷◌, ◌++◌, append_assoc, length, filter, get_or, Bool, true, false, cond, not, Some, None, Option, ◌||◌, ◌&&◌, refl, sym, ap, subst, subst₂, ◌∙◌, ◌≤◌, ◌+◌, arith, length-append}
use Rattle.std.proofs.{lemmas.Bool.and_from, lemmas.Bool.or_left, lemmas.Bool.or_parts, lemmas.Bool.or_right, lemmas.List.get_or_at}
use Rattle.std.proofs.{lemmas.List.Elements.filter-append, lemmas.List.Folds.list_any-append}
use Rattle.std.specs.{List.list_any, Ordering.int_cmp, Ordering.is_eq, Ordering.is_lt, Ordering.ordering_reverse, Cmp.eq_by_cmp_equiv, Cmp.int_cmp_total, declared.cmp.Ordering.Ordering}
use Rattle.std.specs.declared.cmp.Ordering.TheVariants.{Less, Equal, Greater}
use Rattle.sqlite.specs.{declared.types.Value.TheVariants.Int, Order.Row, Order.column, Order.value_cmp}
use Rattle.sqlite_trees.specs.{Tree.has_rowid, View.is_int}
use Rattle.sqlite_value.proofs.OrderLemmas.{value_cmp_total, value_cmp-Int}
use Rattle.cred_file.specs.Cells.{Cells}
use Rattle.cred_file.specs.declared.fault.OpenFault.{OpenFault}
use Rattle.cred_file.specs.declared.fault.OpenFault.TheVariants as fault
use Rattle.cred_file.specs.Table.{Line, has_id, has_name}
use Rattle.cred_file.specs.Opening.{is_no_name, is_no_record, is_repeated, AreAtFault}
use Rattle.cred_file.specs.Drafts.{EndsAt, IsDraftOf, IsNotAdded, is_past}
use Rattle.cred_file.proofs.{NoFault.as_lines, NoFault.as_many, NoFault.namesakes, NoFault.repeats, Selected.IsRising, TableLemmas.any_known, TableLemmas.any_rows, TableLemmas.id_symm}

numbered : (row : Row) (id : ℤ) → column row 0 ≡ Int id → has_rowid id row ≡ true
numbered row id e = ap (λ v. is_eq (value_cmp v (Int id))) e ∙ (eq_by_cmp_equiv value_cmp_total).refl (Int id)

-- of lines with other ids, one that has the name repeats it
other_names : (l : Line) (ls : List Line) → list_any (has_id l.id) ls ≡ false → list_any (repeats l) ls ≡ list_any (has_name l.name) ls
other_names l [] ids = refl
other_names l (m ∷ ls) ids =
    let apart = or_parts (has_id l.id m) (list_any (has_id l.id) ls) ids in
    ap (λ b. (not b && has_name l.name m) || list_any (repeats l) ls) (id_symm l.id m.id ∙ apart.0) ∙ ap (λ b. has_name l.name m || b) (other_names l ls apart.1)

counts : (test : Row → Bool) (rows : List Row) → list_any test rows ≡ true → 1 ≤ length (filter test rows)
counts test [] h = absurd cc
counts test (r ∷ rows) h = elim (test r) as (λ b. (b || list_any test rows) ≡ true → 1 ≤ length (cond b (r ∷ filter test rows) (filter test rows))) [
  | true ↦ λ e. omega arith
  | false ↦ λ e. counts test rows e
] h

neither : (o : Ordering) → is_lt o ≡ false → is_lt (ordering_reverse o) ≡ false → o ≡ Equal
neither Less p q = absurd cc
neither Equal p q = refl
neither Greater p q = absurd cc

-- two rows next to each other
next_rises : (front tail : List Row) (r row : Row) → IsRising ((front ++ r ∷ []) ++ row ∷ tail) → is_lt (value_cmp (column row 0) (column r 0)) ≡ false
next_rises front tail r row rises =
    let rows = (front ++ r ∷ []) ++ row ∷ tail in
    let first : get_or rows (length front) r ≡ r = ap (λ rows. get_or rows (length front) r) (append_assoc front (r ∷ []) (row ∷ tail)) ∙ get_or_at front r (row ∷ tail) r (length front) refl in
    let second : get_or rows (length front + 1) r ≡ row = get_or_at (front ++ r ∷ []) row tail r (length front + 1) (length-append front (r ∷ [])) in
    subst₂ (λ a b. is_lt (value_cmp (column a 0) (column b 0)) ≡ false) second first (rises (length front) r (omega arith) (omega (arith, length-append (front ++ r ∷ []) (row ∷ tail), length-append front (r ∷ []))))

module _ (prior tail : List Row) (row : Row) (book : Cells) (last : Option ℤ) (draft : IsDraftOf prior book last) (rises : IsRising (prior ++ row ∷ tail)) where
  abbrev rows : List Row
  rows = prior ++ row ∷ tail

  early : (test : Row → Bool) → list_any test prior ≡ true → list_any test rows ≡ true
  early test h = list_any-append test prior (row ∷ tail) ∙ or_left _ _ h

  here : (test : Row → Bool) → test row ≡ true → list_any test rows ≡ true
  here test h = list_any-append test prior (row ∷ tail) ∙ or_right (list_any test prior) _ (or_left _ _ h)

  -- one that is met early and once more is met twice
  twice : (test : Row → Bool) → list_any test prior ≡ true → test row ≡ true → 2 ≤ length (filter test rows)
  twice test met is =
      omega (arith, counts test prior met, counts test (row ∷ tail) (or_left _ _ is), ap length (filter-append test prior (row ∷ tail)), length-append (filter test prior) (filter test (row ∷ tail)))

  -- an id that isn't past the last is the last one's
  last_again : (last : Option ℤ) (id : ℤ) → EndsAt prior last → column row 0 ≡ Int id → is_past last id ≡ false → list_any (has_rowid id) prior ≡ true
  last_again None id ends is past = absurd cc
  last_again (Some i) id ends is past =
      let r = ends.1 in
      let up = next_rises ends.0 tail r row (subst (λ p. IsRising (p ++ row ∷ tail)) ends.2 rises) in
      let cmp : ordering_reverse (int_cmp i id) ≡ value_cmp (column row 0) (column r 0) =
      sym (int_cmp_total.antisymm id i) ∙ sym (value_cmp-Int id i) ∙ ap (λ v. value_cmp v (Int i)) (sym is) ∙ ap (value_cmp (column row 0)) (sym ends.3) in
      let same = neither (int_cmp i id) past (ap is_lt cmp ∙ up) in
      let hit : has_rowid id r ≡ true = ap (λ v. is_eq (value_cmp v (Int id))) ends.3 ∙ ap is_eq (value_cmp-Int i id ∙ same) in
      ap (list_any (has_rowid id)) ends.2 ∙ list_any-append (has_rowid id) ends.0 (r ∷ []) ∙ or_right (list_any (has_rowid id) ends.0) _ (or_left _ false hit)

  pub left_out : (fault : OpenFault) → IsNotAdded row book last fault → AreAtFault rows fault
  left_out (fault.NoName id) h = here (λ r. has_rowid id r && is_no_name (column r 1)) (and_from _ _ (numbered row id h.0) h.1)
  left_out (fault.NoRecord id why) h = here (λ r. has_rowid id r && is_no_record why (column r 2)) (and_from _ _ (numbered row id h.0) h.1)
  left_out (fault.Twice id) h =
      let l = h.0 in
      let s = draft.stands in
      let new_id = sym (any_rows l.id prior s.lines s.each) ∙ draft.below l.id (ap (is_past last) h.2 ∙ h.3) in
      let old_name = any_known l.name prior book s ∙ h.4 in
      here (λ r. has_rowid id r && is_repeated rows r)
      (and_from _ _ (numbered row id (h.1.id ∙ ap Int h.2)) (early (namesakes row) (as_lines row l h.1 prior s.lines s.each ∙ other_names l s.lines new_id ∙ old_name)))
  left_out fault.TooMany h = omega (arith, h, as_many prior book draft.stands, length-append prior (row ∷ tail))
  left_out fault.Memory h = tt
  left_out (fault.Database e) h = (
    h.0,
    elim h.1 [
      | inl no_id ↦ inl (here (λ r. not (is_int (column r 0))) (ap not no_id))
      | inr again ↦ inr (again.0, twice (has_rowid again.0) (last_again last again.0 draft.ends again.1 again.2) (numbered row again.0 again.1))
    ],
  )
  left_out _ h = h
