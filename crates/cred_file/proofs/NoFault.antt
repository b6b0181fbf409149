-- Nothing is wrong with the rows of a table that stands for a book.
use Rattle.std.proofs.Common.{◌≡◌, inl, inr, ◌+◌, ◌≤◌, arith, List, [], ◌∷◌, length, map, cond, Bool, true, false, not, ◌&&◌, ◌||◌, Option, Some, None, refl, sym, ap, subst, ◌∙◌}
use Rattle.std.proofs.lemmas.{Bool.and_right, Bool.or_from, Bool.or_parts, Bool.true≢false, List.Folds.list_any_none}
use Rattle.std.specs.FinMap as fin
use Rattle.std.specs.FinMap.{len-empty, len-insert}
use Rattle.std.specs.{Cmp.Lexicographic.nat_list_cmp_total, List.AllZip, List.list_any, Ordering.is_eq}
use Rattle.std.specs.Cmp.{eq_by_cmp_equiv}
use Rattle.sqlite.specs.declared.types.Value.{Value}
use Rattle.sqlite.specs.declared.types.Value.TheVariants.{Null, Int, Text}
use Rattle.sqlite.specs.{Order.Row, Order.column, Order.value_cmp, State.State, Effect.IsDatabase}
use Rattle.sqlite_value.proofs.OrderLemmas.{value_cmp_total, value_cmp-Text}
use Rattle.cred_phc.specs.{declared.error.PhcError.PhcError}
use Rattle.cred_file.specs.Cells.{Cell, Cells}
use Rattle.cred_book.specs.Accounts.{register_capacity}
use Rattle.cred_file.specs.declared.fault.OpenFault.{OpenFault}
use Rattle.cred_file.specs.declared.fault.OpenFault.TheVariants as fault
use Rattle.cred_book.specs.Names.{name_cmp}
use Rattle.cred_file.specs.{Table.Line, Table.Says, Table.Tells, Table.entry_of, Table.has_name, Table.AreApart, Table.StandsFor, Keeps.HoldsBook}
use Rattle.cred_file.specs.Opening.{agree, is_no_name, is_no_record, is_refused, is_repeated, AreAtFault, IsUnopened, IsForWant}
use Rattle.cred_file.proofs.{TableLemmas.any_known, TableLemmas.any_line, TableLemmas.name_symm, Catalogued.still_book}

-- what a wider test doesn't pass, a narrower one doesn't
narrower : {X : Type 0} (test wide : X → Bool) → ((x : X) → wide x ≡ false → test x ≡ false) → (xs : List X) → list_any wide xs ≡ false → list_any test xs ≡ false
narrower test wide fails [] e = refl
narrower test wide fails (x ∷ xs) e = let parts = or_parts (wide x) (list_any wide xs) e in or_from _ _ (fails x parts.0) (narrower test wide fails xs parts.1)

-- a test that no row passes
none_pass : (test : Row → Bool) → ((row : Row) (l : Line) → Says row l → test row ≡ false) → (rows : List Row) (ls : List Line) → AllZip Says rows ls → list_any test rows ≡ false
none_pass test fails rows ls all = any_line test (λ l. false) fails rows ls all ∙ list_any_none (λ l. false) ls (λ k d low. refl)

told : (why : Option PhcError) (v : Value) (stored : Cell) → Tells v stored → is_no_record why v ≡ false
told None Null stored tells = refl
told (Some e) Null stored tells = refl
told None (Text t) stored tells = refl
told (Some e) (Text t) stored tells = ap (is_refused e) tells
told _ _ _ tells = absurd tells

-- ---- no name twice

-- the lines are two, of one name
abbrev pub repeats : Line → Line → Bool
repeats l m = not (is_eq (value_cmp (Int l.id) (Int m.id))) && has_name l.name m

-- two tests that none passes
neither : (f g : Line → Bool) (ls : List Line) → list_any f ls ≡ false → list_any g ls ≡ false → list_any (λ l. f l || g l) ls ≡ false
neither f g [] p q = refl
neither f g (l ∷ ls) p q =
    let fs = or_parts (f l) (list_any f ls) p in
    let gs = or_parts (g l) (list_any g ls) q in
    or_from _ _ (or_from _ _ fs.0 gs.0) (neither f g ls fs.1 gs.1)

none_repeated : (ls : List Line) → AreApart ls → list_any (λ l. list_any (repeats l) ls) ls ≡ false
none_repeated [] apart = refl
none_repeated (x ∷ ls) apart =
    let itself : repeats x x ≡ false = ap (λ b. not b && has_name x.name x) ((eq_by_cmp_equiv value_cmp_total).refl (Int x.id)) in
    let back = narrower (λ l. repeats l x) (has_name x.name) (λ l other. and_right _ _ (name_symm l.name x.name ∙ other)) ls apart.1 in
    or_from _ _ (or_from _ _ itself (narrower (repeats x) (has_name x.name) (λ l other. and_right _ _ other) ls apart.1)) (neither (λ l. repeats l x) (λ l. list_any (repeats l) ls) ls back (none_repeated ls apart.2))

-- another row with the name
abbrev pub namesakes : Row → Row → Bool
namesakes row other = not (agree 0 row other) && agree 1 row other

pub as_lines : (row : Row) (l : Line) → Says row l → (rows : List Row) (ls : List Line) → AllZip Says rows ls → list_any (namesakes row) rows ≡ list_any (repeats l) ls
as_lines row l says = any_line (namesakes row) (repeats l) (λ r m said.
    ap (λ b. not b && agree 1 row r) (ap (λ v. is_eq (value_cmp v (column r 0))) says.id ∙ ap (λ v. is_eq (value_cmp (Int l.id) v)) said.id)
    ∙ ap (λ b. not (is_eq (value_cmp (Int l.id) (Int m.id))) && b) (ap (λ v. is_eq (value_cmp v (column r 1))) says.name ∙ ap (λ v. is_eq (value_cmp (Text l.name) v)) said.name ∙ ap is_eq (value_cmp-Text l.name m.name)))

-- each row in turn, against all of them
each_as_line : (rows : List Row) (ls : List Line) → AllZip Says rows ls → list_any (is_repeated rows) rows ≡ list_any (λ l. list_any (repeats l) ls) ls
each_as_line rows ls whole = any_line (is_repeated rows) (λ l. list_any (repeats l) ls) (λ r l says. as_lines r l says rows ls whole) rows ls whole

never : {X : Type 0} {b : Bool} → b ≡ true → b ≡ false → X
never is isnt = absurd (true≢false (sym is ∙ isnt))

-- a table has as many rows as its book has accounts
as_many_of : (rows : List Row) (ls : List Line) → AllZip Says rows ls → AreApart ls → length rows ≡ fin.len (fin.from_entries {R = name_cmp} (map entry_of ls))
as_many_of [] [] all apart = sym (len-empty name_cmp Cell)
as_many_of (r ∷ rows) (l ∷ ls) all apart =
    let rest = fin.from_entries {R = name_cmp} (map entry_of ls) in
    let absent = sym (any_known l.name rows rest (record { lines = ls; each = all.1; apart = apart.2; book_is = refl })) ∙ apart.1 in
    let grown : fin.len (fin.insert rest l.name l.stored) ≡ fin.len rest + 1 = len-insert nat_list_cmp_total rest l.name l.stored ∙ ap (λ b. cond b (fin.len rest) (fin.len rest + 1)) absent in
    omega (arith, grown, as_many_of rows ls all.1 apart.2)
as_many_of _ _ all apart = absurd all

pub as_many : (rows : List Row) (book : Cells) → StandsFor rows book → length rows ≡ fin.len book
as_many rows book s = as_many_of rows s.lines s.each s.apart ∙ ap (λ (b : Cells). fin.len b) s.book_is

pub no_fault : (rows : List Row) (book : Cells) → fin.len book ≤ register_capacity → StandsFor rows book → (why : OpenFault) → AreAtFault rows why → IsForWant why
no_fault rows book few s (fault.NoName id) h =
    never h (narrower _ (λ row. is_no_name (column row 1)) (λ row other. and_right _ _ other) rows (none_pass (λ row. is_no_name (column row 1)) (λ row l says. ap is_no_name says.name ∙ ap not says.is_name) rows s.lines s.each))
no_fault rows book few s (fault.NoRecord id why) h =
    never h (narrower _ (λ row. is_no_record why (column row 2)) (λ row other. and_right _ _ other) rows (none_pass (λ row. is_no_record why (column row 2)) (λ row l says. told why (column row 2) l.stored says.stored) rows s.lines s.each))
no_fault rows book few s (fault.Twice id) h = never h (narrower _ (is_repeated rows) (λ row other. and_right _ _ other) rows (each_as_line rows s.lines s.each ∙ none_repeated s.lines s.apart))
no_fault rows book few s fault.TooMany h = absurd (omega (arith, h, as_many rows book s, few))
no_fault rows book few s fault.Memory h = tt
no_fault rows book few s (fault.Database e) h = tt
no_fault rows book few s _ h = absurd h

-- a sound database that a crash left of a book is refused for want alone
pub for_want : (old new : State) (book : Cells) → fin.len book ≤ register_capacity → HoldsBook old.now.trees book → IsDatabase old.now → (why : OpenFault) → IsUnopened old new why → IsForWant why
for_want old new book few holds sound why (inl no_book) = absurd (no_book.1 (still_book old.now.trees holds.schema old.now.schema holds.of_book holds.sound sound))
for_want old new book few holds sound why (inr (inl rows)) = no_fault (old.now.trees 0) book few holds.stands why rows.0
for_want old new book few holds sound why (inr (inr failed)) = subst IsForWant (sym failed.1) tt
