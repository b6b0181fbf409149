-- A lock stays whatever records the account gets.
use Rattle.std.proofs.Common.{◌≡◌, ℕ, List, Bool, true, false, cond, ◌||◌, Option, Some, None, is_some, unwrap_or, refl, sym, ap, ◌∙◌}
use Rattle.std.specs.{Option.option_map, Option.option_or, Ordering.eq_by_cmp, Cmp.Equal-is, Cmp.Lexicographic.nat_list_cmp_total}
use Rattle.std.specs.FinMap as fin
use Rattle.std.specs.FinMap.{get-insert}
use Rattle.cred_phc.specs.Values.{RecordValue}
use Rattle.cred_book.proofs.Rows.{same_names}
use Rattle.cred_book.specs.{Accounts.Accounts, Names.name_cmp}
use Rattle.cred_file.specs.declared.fault.Attempt.{Attempt}
use Rattle.cred_file.specs.declared.fault.Attempt.TheVariants as attempt
use Rattle.cred_file.specs.Cells.{Cell, Cells, Marks, blank, cell, cells_of, mark_at, mark_in, renewal, renewed_with}
use Rattle.cred_file.specs.{Changes.AreApart, Changes.IsOfRecords, Changes.after_attempt, Changes.taken_cells, Changes.with_added}
use Rattle.cred_file.proofs.CellLaws.{get_cells}
use Rattle.cred_file.proofs.JoinedCells.{get_both}

abbrev locked_at : Option Cell → Bool
locked_at o = (unwrap_or o blank).mark.locked

put_stays : (cells : Cells) (n q : List ℕ) (v : Option RecordValue) → (mark_in cells q).locked ≡ true → (mark_in (fin.insert cells n (renewal cells n v)) q).locked ≡ true
put_stays cells n q v is =
    ap locked_at (get-insert nat_list_cmp_total cells n (renewal cells n v) q)
    ∙ elim (eq_by_cmp name_cmp q n) as (λ b. eq_by_cmp name_cmp q n ≡ b → locked_at (cond b (Some (renewal cells n v)) (fin.get cells q)) ≡ true) [
      | true ↦ λ tie. ap (λ k. (mark_in cells k).locked) (sym (same_names q n ((Equal-is (name_cmp q n)).0 tie))) ∙ is
      | false ↦ λ tie. is
    ] refl

either_locked : (a b : Bool) → b ≡ true → (a || b) ≡ true
either_locked true b e = refl
either_locked false b e = e

absent_if : (cells : Cells) (q : List ℕ) (o : Option (Option RecordValue)) → (is_some o ≡ true → fin.contains_key cells q ≡ false) → (mark_in cells q).locked ≡ true → o ≡ None
absent_if cells q None apart is = refl
absent_if cells q (Some v) apart is = absurd (of_none (fin.get cells q) (apart refl) is)
  where
    of_none : (o : Option Cell) → is_some o ≡ false → locked_at o ≡ true → ⊥
    of_none None absent is = cc
    of_none (Some c) absent is = cc

added_stays : (cells : Cells) (added : Accounts) (given : Marks) (q : List ℕ) → AreApart cells added → (mark_in cells q).locked ≡ true → (mark_in (with_added cells added given) q).locked ≡ true
added_stays cells added given q apart is =
    ap locked_at (get_both cells (cells_of added (mark_at given)) q ∙ ap (λ o. option_or o (fin.get cells q)) (get_cells (mark_at given) added q ∙ ap (option_map (λ v. cell v (mark_at given q))) (absent_if cells q (fin.get added q) (apart q) is))) ∙ is

changed_stays : (first : Cells) (changed : Accounts) (given : Marks) (q : List ℕ) (o : Option (Option RecordValue)) → (mark_in first q).locked ≡ true
    → locked_at (option_or (option_map (λ v. cell v (renewed_with (mark_at given q) (mark_in first q))) o) (fin.get first q)) ≡ true
changed_stays first changed given q None is = is
changed_stays first changed given q (Some v) is = either_locked (mark_at given q).locked (mark_in first q).locked is

taken_stays : (cells : Cells) (added changed : Accounts) (given : Marks) (q : List ℕ) → AreApart cells added → (mark_in cells q).locked ≡ true → (mark_in (taken_cells cells added changed given) q).locked ≡ true
taken_stays cells added changed given q apart is =
    let first = with_added cells added given in
    ap locked_at (get_both first (cells_of changed (λ n. renewed_with (mark_at given n) (mark_in first n))) q ∙ ap (λ o. option_or o (fin.get first q)) (get_cells (λ n. renewed_with (mark_at given n) (mark_in first n)) changed q))
    ∙ changed_stays first changed given q (fin.get changed q) (added_stays cells added given q apart is)

pub lock_stays : (cells : Cells) (change : Attempt) (q : List ℕ) → IsOfRecords cells change → (mark_in cells q).locked ≡ true → (mark_in (after_attempt cells change) q).locked ≡ true
lock_stays cells (attempt.Put name stored) q of is = put_stays cells name q stored is
lock_stays cells (attempt.TakeIn added changed marks) q of is = taken_stays cells added changed marks q of is
lock_stays cells (attempt.Mark name mark) q of is = absurd of
lock_stays cells (attempt.Delete name) q of is = absurd of
lock_stays cells (attempt.Rename name other) q of is = absurd of
