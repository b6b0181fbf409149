-- Beginnings of one list, and books after entries.
use Rattle.std.proofs.Common.{◌≡◌, ℕ, ◌+◌, ◌<◌, List, [], ◌∷◌, ◌++◌, length, Bool, false, Option, Some, None, inl, inr, refl, ap, subst, arith, length-append, get_or, sym}
use Rattle.std.proofs.{lemmas.Bool.cases_eq, lemmas.List.get_or_read}
use mathlib.Core.List.{IsPrefix}
use Rattle.cred_book.specs.Accounts.{Accounts}
use Rattle.cred_desk.specs.{declared.entry.Entry.Entry, Commits.list_after, Commits.weight}
use Rattle.cred_desk.specs.Histories.{put, after, IsAllowed, IsLegal, IsListed, IsMade}
use Rattle.grow_log.specs.Beginnings.{IsLonger}

-- a longer list is no beginning of a shorter one
pub longer_ends : (xs ys : List Entry) → IsLonger xs ys → IsPrefix ys xs → ⊥
longer_ends xs ys longer p = omega (arith, longer.1, ap length (p.1), length-append ys p.0)

-- the book after one entry more
pub after_snoc : (book : Accounts) (list : List Entry) (entry : Entry) → after book (list ++ entry ∷ []) ≡ put (after book list) entry
after_snoc book [] entry = refl
after_snoc book (e ∷ list) entry = after_snoc (put book e) list entry

-- a list goes on with what is allowed after it
pub listed_snoc : (loads : Bool) (book : Accounts) (list : List Entry) (entry : Entry) → IsListed loads book list → IsAllowed loads (after book list) entry → IsListed loads book (list ++ entry ∷ [])
listed_snoc loads book [] entry listed allowed = (allowed, tt)
listed_snoc loads book (e ∷ list) entry listed allowed = (listed.0, listed_snoc loads (put book e) list entry listed.1 allowed)

-- a list that operations alone made goes on with an entry that one of them makes
pub legal_snoc : (book : Accounts) (list new : List Entry) (entry : Entry) → new ≡ list ++ entry ∷ [] → IsMade (after book list) entry → IsLegal book list → IsLegal book new
legal_snoc book list new entry is made legal = subst (IsLegal book) (sym is) (listed_snoc false book list entry legal made)

-- if a list may have no loads, operations alone made it
pub legal_if : (loads : Bool) (book : Accounts) (list : List Entry) → loads ≡ false → IsListed loads book list → IsLegal book list
legal_if loads book list none listed = subst (λ b. IsListed b book list) none listed

-- a change makes the list longer by one
pub length_list_after : (list : List Entry) (change : Option Entry) → length (list_after list change) ≡ length list + weight change
length_list_after list None = omega arith
length_list_after list (Some entry) = length-append list (entry ∷ [])

-- a fact of the elements before a place, and of the one there
pub all_more : {A : Type 0} (P : A → Type 0) (xs : List A) (i : ℕ) (x : A) → i < length xs → x ≡ get_or xs i x → P x → ((k : ℕ) (d : A) → k < i → P (get_or xs k d)) → (k : ℕ) (d : A) → k < i + 1 → P (get_or xs k d)
all_more P xs i x within is here before k d lt = elim (cases_eq k i) [
  | inl same ↦ rw same (subst P (get_or_read xs i x within is d) here)
  | inr apart ↦ before k d (omega arith)
]
