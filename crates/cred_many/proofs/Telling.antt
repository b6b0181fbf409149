-- What the answers to lines tell of tries, also for a line more.
use Rattle.std.proofs.Common.{◌≡◌, ℕ, IfSome, option_map, suc, ◌+◌, is_some, append-nil, append_assoc, Bool, true, false, List, [], ◌∷◌, ◌++◌, Option, Some, None, length, refl, sym, ap, ◌∙◌, arith, subst}
use Rattle.std.proofs.lemmas.List.{length-append}
use Rattle.std.specs.Prelude.{map}
use Rattle.cred_admin.specs.Marked.{MarkedBook}
use Rattle.cred_tries.specs.{Answers.with_told, Histories.Event, Limits.IsLimit, Limits.Limits, Limits.new_limits}
use Rattle.std.specs.FinMap.{contains_key}
use Rattle.cred_many.specs.{LineOperations.Entry, Served.book_after, Served.done, Served.forgiven_line, Served.name_asked, Served.told_at, Served.told_by, Served.told_on, declared.line_operation.LineOperation.LineOperation}
use Rattle.cred_many.specs.declared.line_operation.QuickOperation.{QuickOperation}
use Rattle.cred_many.specs.declared.line_operation.LineOperation.TheVariants.{Quick, Whole, Login, Reset, Forgive, Later}
use Rattle.cred_many.specs.{Scribe.AreCounted, Scribe.HasEffect, Scribe.IsCounted, Scribe.IsCountedAt, Scribe.IsSentAway, Scribe.KeepsCount, Scribe.passed_of, Tries.forgiving_effect}
use Rattle.cred_many.specs.declared.tries.Effect.TheVariants as effect
use Rattle.cred_many.proofs.Seen.{book_after-append}
use Rattle.cred_many.proofs.Limiting.{counted_none, keeps_away, keeps_effect, nothing_held}

module _ (capacity : ℕ) (name : List ℕ) where
  on_append : (book : MarkedBook) (es more : List Entry) (ts us : List ℕ) (before : List Event) → length ts ≡ length es
      → told_on capacity book name (es ++ more) (ts ++ us) before ≡ told_on capacity (book_after capacity book es) name more us (told_on capacity book name es ts before)
  unfolding told_on book_after
  on_append book [] more [] us before same = refl
  on_append book [] more (t ∷ ts) us before same = absurd (omega (arith, same))
  on_append book (e ∷ es) more [] us before same = absurd (omega (arith, same))
  on_append book (e ∷ es) more (t ∷ ts) us before same = on_append (done capacity book e.operation).1 es more ts us _ (omega (arith, same))

  on_one : (book : MarkedBook) (e : Entry) (t : ℕ) (before : List Event) → told_on capacity book name (e ∷ []) (t ∷ []) before ≡ with_told (told_by book name e.operation t) before
  unfolding told_on
  on_one book e t before = refl

-- one line more
pub told_more : (capacity : ℕ) (opening : MarkedBook) (list : List Entry) (times : List ℕ) (e : Entry) (t : ℕ) → length times ≡ length list
    → told_at capacity opening (list ++ e ∷ []) (times ++ t ∷ []) ≡ (λ name. with_told (told_by (book_after capacity opening list) name e.operation t) (told_at capacity opening list times name))
told_more capacity opening list times e t same =
    let at : (name : List ℕ) → told_at capacity opening (list ++ e ∷ []) (times ++ t ∷ []) name ≡ with_told (told_by (book_after capacity opening list) name e.operation t) (told_at capacity opening list times name) =
    λ name. on_append capacity name opening list (e ∷ []) times (t ∷ []) [] same ∙ on_one capacity name (book_after capacity opening list) e t _ in
    λ i name. at name i

module _ (tries : Option ℕ) (times : List ℕ) (told : List ℕ → List Event) (old new : Option Limits) (book : MarkedBook) where
  -- an answer is counted
  pub counts_one : (operation : LineOperation) → KeepsCount tries old times told → IsCounted old new book operation → KeepsCount tries new (times ++ passed_of new ∷ []) (λ name. with_told (told_by book name operation (passed_of new)) (told name))
  counts_one (Forgive name) k (now, is) = keeps_effect times told name now tries old new _ k is
  counts_one (Later name seconds) k (now, is) = keeps_away times told name now tries old new seconds k is
  counts_one (Quick operation) k (now, is) = keeps_effect times told (name_asked (Quick operation)) now tries old new _ k is
  counts_one (Whole r) k (now, is) = keeps_effect times told (name_asked (Whole r)) now tries old new _ k is
  counts_one (Login name pw setting) k (now, is) = keeps_effect times told (name_asked (Login name pw setting)) now tries old new _ k is
  counts_one (Reset name pw setting) k (now, is) = keeps_effect times told (name_asked (Reset name pw setting)) now tries old new _ k is

-- the answers to several lines, by which nothing changes in the limiter
module _ (capacity : ℕ) (tries : Option ℕ) (limits : Option Limits) (opening : MarkedBook) where
  abbrev pub now_of : List Entry → List ℕ
  now_of es = map (λ _. passed_of limits) es

  pub length-now_of : (es : List Entry) → length (now_of es) ≡ length es
  length-now_of [] = refl
  length-now_of (e ∷ es) = ap suc (length-now_of es)

  after_one : (list : List Entry) (e : Entry) → book_after capacity opening (list ++ e ∷ []) ≡ (done capacity (book_after capacity opening list) e.operation).1
  unfolding book_after
  after_one list e = book_after-append capacity opening list (e ∷ [])

  pub counts_all : (list es : List Entry) (times : List ℕ) → length times ≡ length list → KeepsCount tries limits times (told_at capacity opening list times) → AreCounted capacity limits (book_after capacity opening list) es
      → KeepsCount tries limits (times ++ now_of es) (told_at capacity opening (list ++ es) (times ++ now_of es))
  counts_all list [] times same k is = rw (append-nil list, append-nil times) k
  counts_all list (e ∷ es) times same k is =
      let at = passed_of limits in
      let one = subst (KeepsCount tries limits (times ++ at ∷ [])) (sym (told_more capacity opening list times e at same)) (counts_one tries times (told_at capacity opening list times) limits limits (book_after capacity opening list) e.operation k is.0) in
      let rest = subst (λ b. AreCounted capacity limits b es) (sym (after_one list e)) is.1 in
      let all = counts_all (list ++ e ∷ []) es (times ++ at ∷ []) (length-append times (at ∷ []) ∙ ap (λ n. n + 1) same ∙ sym (length-append list (e ∷ []))) one rest in
      rw (append_assoc list (e ∷ []) es, append_assoc times (at ∷ []) (now_of es)) at all

-- nothing is counted of an answer that tells nothing
pub nothing_counted : (limits : Option Limits) (name : List ℕ) → (now : ℕ) × HasEffect now limits limits name effect.Nothing
nothing_counted None name = (0, refl)
nothing_counted (Some l) name = (0, (tt, refl))

-- there is a limit where a try is sent away
pub has_limit : (tries : Option ℕ) (old new : Option Limits) (times : List ℕ) (told : List ℕ → List Event) (name : List ℕ) (now seconds : ℕ) → KeepsCount tries old times told → IsSentAway now old new name seconds → is_some tries ≡ true
has_limit None None new times told name now seconds k is = absurd is
has_limit None (Some l) new times told name now seconds k is = absurd k
has_limit (Some limit) old new times told name now seconds k is = refl

-- a line that needs no hash tells nothing
pub quick_counted : (limits : Option Limits) (book : MarkedBook) (quick : QuickOperation) (operation : LineOperation) → Quick quick ≡ operation → IsCounted limits limits book operation
quick_counted limits book quick operation is = subst (λ a. IsCounted limits limits book a) is (nothing_counted limits [])

-- a forgiving is counted so
pub forgiving_at : (now : ℕ) (b : Bool) (old new : Option Limits) (book : MarkedBook) (name : List ℕ) (operation : LineOperation) → Forgive name ≡ operation → contains_key book.accounts name ≡ b → HasEffect now old new name (forgiving_effect b) → IsCountedAt now old new book operation
forgiving_at now b old new book name operation is there has =
    subst (λ a. IsCountedAt now old new book a) is (subst (λ b. HasEffect now old new name (forgiving_effect b)) (sym there) has)

pub forgiving_counted : (now : ℕ) (b : Bool) (old new : Option Limits) (book : MarkedBook) (name : List ℕ) (operation : LineOperation) → Forgive name ≡ operation → contains_key book.accounts name ≡ b → HasEffect now old new name (forgiving_effect b) → IsCounted old new book operation
forgiving_counted now b old new book name operation is there has = (now, forgiving_at now b old new book name operation is there has)

-- nothing is forgiven at a name that isn't there
pub nobody_at : (now : ℕ) (limits : Option Limits) (book : MarkedBook) (name : List ℕ) (operation : LineOperation) → Forgive name ≡ operation → contains_key book.accounts name ≡ false → IsCountedAt now limits limits book operation
nobody_at now limits book name operation is there = forgiving_at now false limits limits book name operation is there (nothing_held now limits name)

pub nobody_forgiven : (limits : Option Limits) (book : MarkedBook) (name : List ℕ) (operation : LineOperation) → Forgive name ≡ operation → contains_key book.accounts name ≡ false → IsCounted limits limits book operation
nobody_forgiven limits book name operation is there = (0, nobody_at 0 limits book name operation is there)

-- its answer is of the book alone, which stays
pub forgiving_line : (capacity : ℕ) (b : Bool) (book : MarkedBook) (name : List ℕ) (operation : LineOperation) → Forgive name ≡ operation → contains_key book.accounts name ≡ b → forgiven_line b ≡ (done capacity book operation).0
forgiving_line capacity b book name operation is there = ap forgiven_line (sym there) ∙ ap (λ a. (done capacity book a).0) is

pub forgiving_stays : (capacity : ℕ) (book : MarkedBook) (name : List ℕ) (operation : LineOperation) → Forgive name ≡ operation → book ≡ (done capacity book operation).1
forgiving_stays capacity book name operation is = ap (λ a. (done capacity book a).1) is

-- before the first line
none_told : (capacity : ℕ) (opening : MarkedBook) (name : List ℕ) → told_at capacity opening [] [] name ≡ []
unfolding told_on
none_told capacity opening name = refl

pub first_counted : (capacity : ℕ) (opening : MarkedBook) (tries limit : Option ℕ) (limits : Option Limits) → limits ≡ option_map new_limits limit → limit ≡ tries → IfSome limit IsLimit → KeepsCount tries limits [] (told_at capacity opening [] [])
first_counted capacity opening tries limit limits is same some =
    subst (λ l. KeepsCount tries l [] (told_at capacity opening [] [])) (sym is)
    (subst (λ t. KeepsCount t (option_map new_limits limit) [] (told_at capacity opening [] [])) same (counted_none limit some (told_at capacity opening [] []) (none_told capacity opening)))

-- a history counts the same where the limiter is the same
pub counted_same : (tries : Option ℕ) (old new : Option Limits) (times : List ℕ) (told : List ℕ → List Event) → new ≡ old → KeepsCount tries old times told → KeepsCount tries new times told
counted_same tries old new times told is = subst (λ l. KeepsCount tries l times told) (sym is)
