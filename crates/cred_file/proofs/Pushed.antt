-- One more row of a draft.
use Rattle.std.proofs.Common.{◌≡◌, ℤ, List, [], ◌∷◌, ◌++◌, true, false, Some, None, Option, refl, sym, ap, subst, ◌∙◌}
use Rattle.std.proofs.lemmas.{Bool.or_from, List.Folds.list_any-append, List.Sorted.IsPermutation-sym, List.Sorted.IsPermutation-to_front}
use Rattle.std.specs.{List.list_any, Ordering.is_eq, Ordering.is_lt, Ordering.int_cmp, Cmp.int_cmp_total, declared.cmp.Ordering.Ordering}
use Rattle.std.specs.declared.cmp.Ordering.TheVariants.{Less, Equal, Greater}
use Rattle.std.specs.FinMap as fin
use Rattle.sqlite.specs.{declared.types.Value.TheVariants.Int, Order.Row, Order.value_cmp}
use Rattle.sqlite_trees.specs.Tree.{has_rowid}
use Rattle.sqlite_value.proofs.OrderLemmas.{value_cmp-Int}
use Rattle.cred_file.specs.Cells.{Cells}
use Rattle.cred_file.specs.Table.{StandsFor}
use Rattle.cred_file.specs.Drafts.{IsDraftOf, IsAdded, is_past}
use Rattle.cred_file.proofs.Shuffled.{shuffled, stands_more}

pub no_rows : (book : Cells) (last : Option ℤ) → book ≡ fin.empty → last ≡ None → IsDraftOf [] book last
no_rows book last empty none = subst (IsDraftOf [] book) (sym none) (record { stands = record { lines = []; each = tt; apart = tt; book_is = sym empty }; below = λ id past. refl; ends = refl })

is_less : (o : Ordering) → is_lt o ≡ true → o ≡ Less
is_less Less e = refl
is_less Equal e = absurd cc
is_less Greater e = absurd cc

-- what is past a later id is past an earlier one
further : (last : Option ℤ) (a b : ℤ) → is_past last a ≡ true → int_cmp a b ≡ Less → is_past last b ≡ true
further None a b past less = refl
further (Some id) a b past less = ap is_lt (int_cmp_total.trans id a b (is_less _ past) less)

pub draft_push : (rows : List Row) (book : Cells) (last : Option ℤ) (row : Row) (after : Cells) (next : Option ℤ) → IsDraftOf rows book last → IsAdded row book last after next
    → IsDraftOf (rows ++ row ∷ []) after next
draft_push rows book last row after next d a =
    let l = a.line in
    let free : list_any (has_rowid l.id) rows ≡ false = d.below l.id a.past in
    let more : StandsFor (row ∷ rows) (fin.insert book l.name l.stored) = stands_more rows book row l a.says d.stands free a.new_name in
    subst (IsDraftOf (rows ++ row ∷ []) after) (sym a.next_is) (record {
      stands = shuffled (row ∷ rows) (rows ++ row ∷ []) after (IsPermutation-sym _ _ (IsPermutation-to_front rows row)) (subst (StandsFor (row ∷ rows)) (sym a.book_is) more);
      below = λ id past.
          let less = is_less (int_cmp l.id id) past in
          let other : has_rowid id row ≡ false = ap (λ v. is_eq (value_cmp v (Int id))) a.says.id ∙ ap is_eq (value_cmp-Int l.id id ∙ less) in
          list_any-append (has_rowid id) rows (row ∷ []) ∙ or_from _ _ (d.below id (further last l.id id a.past less)) (or_from _ _ other refl);
      ends = (rows, row, refl, a.says.id);
    })
