-- The rest of a book after the removal or the renaming of a name.
use Rattle.std.proofs.Common.{◌≡◌, ◌≤◌, ◌+◌, ◌-◌, ℕ, List, Bool, true, false, cond, Option, Some, None, is_some, unwrap_or, refl, sym, ap, subst, ◌∙◌, arith}
use Rattle.std.specs.Ordering.{eq_by_cmp}
use Rattle.std.specs.Cmp.{Equal-is, eq_by_cmp_equiv}
use Rattle.std.specs.FinMap as fin
use Rattle.std.specs.{FinMap.len-insert, FinMap.len-remove, FinMap.get-remove, FinMap.get-insert, Cmp.Lexicographic.nat_list_cmp_total}
use Rattle.cred_phc.specs.Values.{RecordValue}
use Rattle.cred_book.specs.{Accounts.Accounts, Accounts.register_capacity, Names.name_cmp}
use Rattle.cred_file.specs.Changes.{renamed}
use Rattle.cred_book.proofs.Rows.{no_some, same_rows}

less : (b : Bool) (n m : ℕ) → m ≡ cond b (n - 1) n → n ≤ register_capacity → m ≤ register_capacity
less true n m e low = omega (arith, e, low)
less false n m e low = omega (arith, e, low)

still_absent : {X : Type 0} (b : Bool) (o : Option X) → is_some o ≡ false → is_some (cond b None o) ≡ false
still_absent true o e = refl
still_absent false o e = e

-- of any rows by names: of accounts, and of accounts with marks
module _ {V : Type 0} (book : fin.FinMap name_cmp V) where
  pub len_less : (name : List ℕ) → fin.len book ≤ register_capacity → fin.len (fin.remove book name) ≤ register_capacity
  len_less name low = less (fin.contains_key book name) (fin.len book) _ (len-remove nat_list_cmp_total book name) low

  pub absent_less : (name other : List ℕ) → fin.contains_key book other ≡ false → fin.contains_key (fin.remove book name) other ≡ false
  absent_less name other absent = ap is_some (get-remove nat_list_cmp_total book name other) ∙ still_absent (eq_by_cmp name_cmp other name) (fin.get book other) absent

  -- a row put at another name, and taken away at its own
  abbrev pub moved_row : V → List ℕ → List ℕ → fin.FinMap name_cmp V
  moved_row default name other = fin.insert (fin.remove book name) other (unwrap_or (fin.get book name) default)

  pub len_moved : (default : V) (name other : List ℕ) → fin.contains_key book name ≡ true → fin.contains_key book other ≡ false → fin.len book ≤ register_capacity → fin.len (moved_row default name other) ≤ register_capacity
  len_moved default name other there absent low =
      let shorter : fin.len (fin.remove book name) ≡ fin.len book - 1 = len-remove nat_list_cmp_total book name ∙ ap (λ b. cond b (fin.len book - 1) (fin.len book)) there in
      let grown : fin.len (moved_row default name other) ≡ fin.len (fin.remove book name) + 1 = len-insert nat_list_cmp_total (fin.remove book name) other _ ∙ ap (λ b. cond b (fin.len (fin.remove book name)) (fin.len (fin.remove book name) + 1)) (absent_less name other absent) in
      omega (arith, grown, shorter, low)

  tied_row : (key q : List ℕ) → eq_by_cmp name_cmp q key ≡ true → fin.get book q ≡ fin.get book key
  tied_row key q e = fin.get_tied nat_list_cmp_total book key q ((Equal-is _).0 (sym ((eq_by_cmp_equiv nat_list_cmp_total).symm q key) ∙ e))

  pub moved_is : (default : V) (name other : List ℕ) (stored : V) → fin.get book name ≡ Some stored → fin.contains_key book other ≡ false → fin.remove (fin.insert book other stored) name ≡ moved_row default name other
  moved_is default name other stored is absent = same_rows _ _ (λ q.
      get-remove nat_list_cmp_total (fin.insert book other stored) name q
      ∙ ap (cond (ties name q) None) (get-insert nat_list_cmp_total book other stored q)
      ∙ swapped q (ties name q) (ties other q) refl refl
      ∙ sym (get-insert nat_list_cmp_total (fin.remove book name) other _ q
      ∙ ap (cond (ties other q) (Some (unwrap_or (fin.get book name) default))) (get-remove nat_list_cmp_total book name q)
      ∙ ap (λ o. cond (ties other q) (Some (unwrap_or o default)) (cond (ties name q) None (fin.get book q))) is))
    where
      ties : List ℕ → List ℕ → Bool
      ties key q = eq_by_cmp name_cmp q key

      swapped : (q : List ℕ) (a b : Bool) → ties name q ≡ a → ties other q ≡ b → cond a None (cond b (Some stored) (fin.get book q)) ≡ cond b (Some stored) (cond a None (fin.get book q))
      swapped q false b e f = refl
      swapped q true false e f = refl
      swapped q true true e f = absurd (let both = sym is ∙ sym (tied_row name q e) ∙ tied_row other q f ∙ no_some _ absent in cc)

-- the record is put at the other name, and then the name is removed
pub renamed_is : (book : Accounts) (name other : List ℕ) (stored : Option RecordValue) → fin.get book name ≡ Some stored → fin.contains_key book other ≡ false → fin.remove (fin.insert book other stored) name ≡ renamed book name other
renamed_is book = moved_is book None

absent_now : (book : Accounts) (name : List ℕ) → fin.contains_key (fin.remove book name) name ≡ false
absent_now book name = ap is_some (get-remove nat_list_cmp_total book name name ∙ ap (λ b. cond b None (fin.get book name)) ((eq_by_cmp_equiv nat_list_cmp_total).refl name))

its_own : (o : Option (Option RecordValue)) → is_some o ≡ true → o ≡ Some (unwrap_or o None)
its_own None there = absurd cc
its_own (Some x) there = refl

-- where the name was, there is none
pub gone : (book : Accounts) (name other : List ℕ) → fin.contains_key book name ≡ true → fin.contains_key book other ≡ false → fin.contains_key (renamed book name other) name ≡ false
gone book name other there absent =
    subst (λ (b : Accounts). fin.contains_key b name ≡ false) (renamed_is book name other _ (its_own _ there) absent) (absent_now (fin.insert book other _) name)
