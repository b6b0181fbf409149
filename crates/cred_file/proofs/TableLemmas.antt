-- The facts about a table's rows and its book from the table's lines.
use Rattle.std.proofs.Common.{◌≡◌, ℕ, ℤ, List, [], ◌∷◌, map, Bool, true, ◌||◌, is_some, refl, sym, ap, ◌∙◌}
use Rattle.std.specs.{List.AllZip, List.list_any, Ordering.is_eq, Ordering.eq_by_cmp, Cmp.Equal-is, Cmp.eq_by_cmp_equiv, Cmp.Lexicographic.nat_list_cmp_total}
use Rattle.std.specs.FinMap as fin
use Rattle.std.specs.FinMap.{get-from_entries}
use Rattle.std.specs.FinMap.Entries.{is_some-find}
use Rattle.sqlite.specs.declared.types.Value.{Value}
use Rattle.sqlite.specs.declared.types.Value.TheVariants.{Null, Int, Text}
use Rattle.sqlite.specs.Order.{Row, value_cmp}
use Rattle.sqlite_trees.specs.Tree.{has_rowid}
use Rattle.sqlite_value.proofs.OrderLemmas.{value_cmp_total}
use Rattle.cred_book.proofs.Rows.{same_names}
use Rattle.cred_file.specs.Cells.{Cell, Cells}
use Rattle.cred_book.specs.{Names.name_cmp}
use Rattle.cred_file.specs.Table.{Line, Says, Tells, entry_of, has_id, has_name, StandsFor}

pub id_symm : (a b : ℤ) → is_eq (value_cmp (Int a) (Int b)) ≡ is_eq (value_cmp (Int b) (Int a))
id_symm a b = (eq_by_cmp_equiv value_cmp_total).symm (Int a) (Int b)

pub name_symm : (a b : List ℕ) → eq_by_cmp name_cmp a b ≡ eq_by_cmp name_cmp b a
name_symm = (eq_by_cmp_equiv nat_list_cmp_total).symm

pub same_name : (a b : List ℕ) → eq_by_cmp name_cmp a b ≡ true → a ≡ b
same_name a b e = same_names a b ((Equal-is (name_cmp a b)).0 e)

-- what a row says it says once
told_once : (v : Value) (a b : Cell) → Tells v a → Tells v b → a ≡ b
told_once Null a b p q = p ∙ sym q
told_once (Text t) a b p q = let same = sym p ∙ q in cc
told_once _ a b p q = absurd p

pub said_once : (row : Row) (l m : Line) → Says row l → Says row m → l ≡ m
said_once row l m p q =
    let names = sym p.name ∙ q.name in
    let name : l.name ≡ m.name = cc in
    let ids = sym p.id ∙ q.id in
    let id : l.id ≡ m.id = cc in
    let stored = told_once _ l.stored m.stored p.stored q.stored in
    λ i. record { id = id i; name = name i; stored = stored i }

-- so rows say their lines once
pub all_once : {A B : Type 0} (R : A → B → Type 0) → ((a : A) (b c : B) → R a b → R a c → b ≡ c) → (xs : List A) (ys zs : List B) → AllZip R xs ys → AllZip R xs zs → ys ≡ zs
all_once R one [] [] [] p q = refl
all_once R one [] [] (z ∷ zs) p q = absurd q
all_once R one (x ∷ xs) (y ∷ ys) [] p q = absurd q
all_once R one (x ∷ xs) (y ∷ ys) (z ∷ zs) p q = λ i. one x y z p.0 q.0 i ∷ all_once R one xs ys zs p.1 q.1 i
all_once R one _ _ zs p q = absurd p

-- a test of rows is one of their lines
pub any_line : (test : Row → Bool) (wide : Line → Bool) → ((r : Row) (l : Line) → Says r l → test r ≡ wide l) → (rows : List Row) (ls : List Line) → AllZip Says rows ls → list_any test rows ≡ list_any wide ls
any_line test wide same [] [] all = refl
any_line test wide same (r ∷ rows) (l ∷ ls) all = ap (λ b. b || list_any test rows) (same r l all.0) ∙ ap (λ b. wide l || b) (any_line test wide same rows ls all.1)
any_line test wide same _ _ all = absurd all

pub numbered : (id : ℤ) (r : Row) (l : Line) → Says r l → has_rowid id r ≡ has_id id l
numbered id r l says = ap (λ v. is_eq (value_cmp v (Int id))) says.id

pub any_rows : (id : ℤ) (rows : List Row) (ls : List Line) → AllZip Says rows ls → list_any (has_rowid id) rows ≡ list_any (has_id id) ls
any_rows id = any_line (has_rowid id) (has_id id) (numbered id)

pub any_map : {A B : Type 0} (test : B → Bool) (f : A → B) (xs : List A) → list_any test (map f xs) ≡ list_any (λ x. test (f x)) xs
any_map test f [] = refl
any_map test f (x ∷ xs) = ap (λ b. test (f x) || b) (any_map test f xs)

-- the names of the lines, as the book has them
pub any_known : (name : List ℕ) (rows : List Row) (book : Cells) (s : StandsFor rows book) → list_any (has_name name) s.lines ≡ fin.contains_key book name
any_known name rows book s =
    sym (any_map (eq_by_cmp name_cmp name) (λ (e : List ℕ × Cell). e.0) (map entry_of s.lines) ∙ any_map (λ (e : List ℕ × Cell). eq_by_cmp name_cmp name e.0) entry_of s.lines)
    ∙ sym (is_some-find name_cmp name (map entry_of s.lines)) ∙ ap is_some (sym (get-from_entries nat_list_cmp_total (map entry_of s.lines) name)) ∙ ap (λ b. fin.contains_key b name) s.book_is
