-- The number of changes of a record that a line saw.
use Rattle.std.proofs.Common.{◌≡◌, ℕ, suc, ◌+◌, ◌<◌, ◌≤◌, List, [], ◌∷◌, ◌++◌, Option, Some, None, IfSome, subst, Bool, true, false, if◌then◌else◌, refl, sym, ap, ◌∙◌, append_assoc, arith, length, option_map, set, slice_get}
use Rattle.std.proofs.{lemmas.Bool.cond_both, lemmas.List.get_or-set_same, lemmas.List.length-set, lemmas.List.map-set, lemmas.List.set-get_or, lemmas.Option.IfSome_then, lemmas.Option.get_or_from_slice_get, lemmas.Option.slice_get-get_or, lemmas.Option.slice_get-map, lemmas.Option.slice_get_within, lemmas.Slice.Eq.bytes_eq-Decides}
use Rattle.std.proofs.lemmas.List.Elements.{All-append, All-drop, All-get_or, All-same, All-set, All-take, All-weaker}
use Rattle.std.specs.{List.All, List.remove, Str.bytes_eq}
use Rattle.cred_phc.specs.Values.{RecordValue}
use Rattle.cred_book.specs.Works.{same}
use Rattle.cred_admin.specs.Marked.{MarkedBook}
use Rattle.cred_book.proofs.Equality.{same-Decides}
use Rattle.cred_many.specs.{declared.line_operation.LineOperation.LineOperation, declared.open.Open.Open, declared.open.Sight.Sight, declared.fault.ServiceFault.ServiceFault, LineOperations.Entry, Served.answers, Served.book_after, Served.change_from, Served.changes, Served.done, Served.line_at, Served.name_asked, Served.record_at, Served.tries}
use Rattle.cred_many.specs.Scribe.{AreClosed, IsBusy, IsReady, Notes, SightHolds, counted, numbers}

-- ---- how often a record changed

small : (b : Bool) → (if b then 0 else 1) ≤ 1
small true = omega arith
small false = omega arith

alike : (old : Option RecordValue) → change_from old old ≡ 0
alike old = rw ((same-Decides old old).1 refl) refl

one_by_one : (a b c : Option RecordValue) (is_same : Bool) → same a b ≡ is_same → change_from a c ≤ (if is_same then 0 else 1) + change_from b c
one_by_one a b c true is = let one : a ≡ b = (same-Decides a b).0 is in rw one (omega arith)
one_by_one a b c false is = let few = small (same a c) in omega (arith, few)

module _ (capacity : ℕ) (name : List ℕ) where
  changes-append : (book : MarkedBook) (xs ys : List Entry) → changes capacity book name (xs ++ ys) ≡ changes capacity book name xs + changes capacity (book_after capacity book xs) name ys
  unfolding changes book_after
  changes-append book [] ys = omega arith
  changes-append book (x ∷ xs) ys = let r = changes-append (done capacity book x.operation).1 xs ys in omega (arith, r)

  -- a record that differs now has changed
  noticed : (book : MarkedBook) (xs : List Entry) → change_from (record_at book name) (record_at (book_after capacity book xs) name) ≤ changes capacity book name xs
  unfolding changes book_after
  noticed book [] = let none = alike (record_at book name) in omega (arith, none)
  noticed book (x ∷ xs) =
      let later = (done capacity book x.operation).1 in
      let first = one_by_one (record_at book name) (record_at later name) (record_at (book_after capacity later xs) name) _ refl in
      let rest = noticed later xs in
      omega (arith, first, rest)

pub book_after-append : (capacity : ℕ) (book : MarkedBook) (xs ys : List Entry) → book_after capacity book (xs ++ ys) ≡ book_after capacity (book_after capacity book xs) ys
unfolding book_after
book_after-append capacity book [] ys = refl
book_after-append capacity book (x ∷ xs) ys = book_after-append capacity (done capacity book x.operation).1 xs ys

pub answers-append : (capacity : ℕ) (book : MarkedBook) (xs ys : List Entry)
    → answers capacity book (xs ++ ys) ≡ answers capacity book xs ++ answers capacity (book_after capacity book xs) ys
unfolding answers book_after
answers-append capacity book [] ys = refl
answers-append capacity book (x ∷ xs) ys =
    ap (λ l. line_at capacity book x ++ l) (answers-append capacity (done capacity book x.operation).1 xs ys)
    ∙ sym (append_assoc (line_at capacity book x) (answers capacity (done capacity book x.operation).1 xs) (answers capacity (book_after capacity (done capacity book x.operation).1 xs) ys))

-- ---- what was seen

at_place : {A : Type 0} (P : A → Type 0) (xs : List A) (i : ℕ) (x : A) → All P xs → slice_get xs i ≡ Some x → P x
at_place P xs i x all is = subst P (get_or_from_slice_get xs i x x is) (All-get_or P xs i x (slice_get_within xs i x is) all)

numbers_set : (left : List Open) (place : ℕ) (x y : Open) → slice_get left place ≡ Some x → y.number ≡ x.number → numbers (set left place y) ≡ numbers left
numbers_set left place x y is same =
    let there = slice_get-map (λ (o : Open). o.number) left place ∙ ap (option_map (λ (o : Open). o.number)) is in
    map-set (λ (o : Open). o.number) left place y ∙ ap (set (numbers left) place) (same ∙ sym (get_or_from_slice_get (numbers left) place x.number 0 there)) ∙ set-get_or (numbers left) place 0

module _ (capacity : ℕ) (opening : MarkedBook) (list : List Entry) where
  abbrev Holds : Open → Type 0
  Holds = SightHolds capacity opening list

  pub watched_on : (more : List Entry) (left : List Open) → All Holds left → All (SightHolds capacity opening (list ++ more)) left
  watched_on more left all = All-weaker Holds (SightHolds capacity opening (list ++ more)) (λ o h. IfSome_then o.sight h (λ s few.
      let book = book_after capacity opening list in
      let many = changes-append capacity s.name opening list more in
      let between = noticed capacity s.name book more in
      let apart = one_by_one s.stored (record_at book s.name) (record_at (book_after capacity book more) s.name) _ refl in
      let later = ap (λ b. change_from s.stored (record_at b s.name)) (book_after-append capacity opening list more) in
      omega (arith, few, many, between, apart, later))) left all

  pub watched_rest : (es : List Entry) (left rest : List Open) → AreClosed es left rest → All Holds left → All Holds rest
  watched_rest [] left rest is all = All-same Holds rest left is all
  watched_rest (e ∷ es) left rest (place, there, more) all =
      watched_rest es (remove left place) rest more (All-append Holds _ _ (All-take Holds place left all) (All-drop Holds (suc place) left all))

  counted_few : (name : List ℕ) (line : Open) → Holds line → counted line.sight name (record_at (book_after capacity opening list) name) ≤ changes capacity opening name list
  counted_few name line = of line.sight
    where
      of : (o : Option Sight) → IfSome o (λ s. s.changes + change_from s.stored (record_at (book_after capacity opening list) s.name) ≤ changes capacity opening s.name list)
          → counted o name (record_at (book_after capacity opening list) name) ≤ changes capacity opening name list
      of None h = omega arith
      of (Some s) h =
          cond_both (bytes_eq s.name name) (s.changes + change_from s.stored (record_at (book_after capacity opening list) name)) 0 (λ n. n ≤ changes capacity opening name list)
          (λ is. rw ((bytes_eq-Decides s.name name).0 is) at h) (λ other. omega arith)

  -- a line that has seen often enough that its record changed
  pub worn : (left : List Open) (place : ℕ) (operation : LineOperation) → All Holds left → IsBusy left place operation → tries ≤ changes capacity opening (name_asked operation) list
  worn left place operation all w =
      let few = rw w.seen at (at_place Holds left place w.line all w.there) in
      let name = ap (λ n. changes capacity opening n list) w.name_is in
      omega (arith, few, name, w.often)

  pub watched_looked : (left rest : List Open) (place : ℕ) (name : List ℕ) (stored : Option RecordValue) (count : ℕ) → Notes left place name stored rest count
      → stored ≡ record_at (book_after capacity opening list) name → All Holds left → All Holds rest
  watched_looked left rest place name stored count l is all =
      let most = counted_few name l.line (at_place Holds left place l.line all l.there) in
      let at = ap (counted l.line.sight name) is in
      let none = ap (change_from stored) (sym is) ∙ alike stored in
      All-same Holds _ _ l.new_is (All-set Holds left place _ (omega (arith, l.few, most, at, none)) all)

pub looked_numbers : (left rest : List Open) (place : ℕ) (name : List ℕ) (stored : Option RecordValue) (count : ℕ) → Notes left place name stored rest count → numbers rest ≡ numbers left
looked_numbers left rest place name stored count l = ap numbers l.new_is ∙ numbers_set left place l.line _ l.there refl

-- the line may still get an answer
pub looked_ready : (why : Option ServiceFault) (left rest : List Open) (place : ℕ) (name : List ℕ) (stored : Option RecordValue) (count number : ℕ) → Notes left place name stored rest count
    → IsReady why left place number → IsReady why rest place number
looked_ready why left rest place name stored count number l ready = record {
  going = ready.going;
  within = rw (l.new_is, length-set) ready.within;
  there = ap (λ ns. slice_get ns place) (looked_numbers left rest place name stored count l) ∙ ready.there;
}

set_here : {A : Type 0} (xs : List A) (i : ℕ) (x : A) → i < length xs → slice_get (set xs i x) i ≡ Some x
set_here xs i x within = slice_get-get_or (set xs i x) i x (rw length-set within) ∙ ap Some (get_or-set_same xs i x x within)

-- the line may have seen enough changes
pub looked_worn : (left rest : List Open) (place : ℕ) (name : List ℕ) (stored : Option RecordValue) (count : ℕ) (operation : LineOperation) → Notes left place name stored rest count
    → name ≡ name_asked operation → tries ≤ count → IsBusy rest place operation
looked_worn left rest place name stored count operation l is often = record {
  line = record { number = l.line.number; sight = Some (record { name = name; stored = stored; changes = count }) };
  sight = record { name = name; stored = stored; changes = count };
  there = ap (λ r. slice_get r place) l.new_is ∙ set_here left place _ (slice_get_within left place l.line l.there);
  seen = refl;
  name_is = is;
  often = often;
}
