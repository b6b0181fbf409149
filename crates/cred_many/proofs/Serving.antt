-- A history that goes on: the written text, the lines that it may have, the reasons why no more
-- lines are answered, and what is told of it.
use Rattle.std.proofs.Common.{◌≡◌, ◌≢◌, ◌⊎◌, inl, inr, true, ℕ, suc, ◌+◌, ◌-◌, ◌<◌, ◌≤◌, List, [], ◌∷◌, ◌++◌, Bool, Option, Some, None, IfSome, get_or, subst, refl, sym, ap, ◌∙◌, append_assoc, append-nil, arith, take, drop, slice_get, length, take-append-drop}
use Rattle.std.proofs.{Math.Seq.take-append-add, lemmas.Bool.cases_lt, lemmas.Option.IfSome_then, lemmas.Option.get_or_from_slice_get, lemmas.Option.slice_get_within, lemmas.List.Elements.All-nil, lemmas.List.Elements.All-push, lemmas.List.Elements.All-same}
use Rattle.std.proofs.{lemmas.List.drop-map, lemmas.List.get_or-append-add, lemmas.List.get_or_append_left, lemmas.List.length-append, lemmas.List.map-append, lemmas.List.map-id, lemmas.List.take-append-le, lemmas.List.take-map, lemmas.List.take_all, lemmas.List.FromFn.map-range_with_len_more}
use Rattle.std.proofs.lemmas.List.Sorted.{IsPermutation-append_left, IsPermutation-append_right, IsPermutation-cons, IsPermutation-refl, IsPermutation-remove, IsPermutation-sym, IsPermutation-trans}
use Rattle.std.specs.{List.All, List.range_with_len, List.remove, List.Sorted.IsPermutation, Option.option_or}
use Rattle.cred_phc.specs.Values.{RecordValue}
use Rattle.cred_admin.specs.Marked.{MarkedBook}
use Rattle.cred_cli.specs.{History.Refused, Script.lines_of, Texts.line_of}
use Rattle.cred_cli.proofs.Readings.{if_known}
use Rattle.cred_many.specs.{LineOperations.Entry, LineOperations.entry, LineOperations.refused, Served.AreFor, Served.HasCause, Served.IsFor, Served.IsGivenUp, Served.IsWritten, Served.Moment, Served.NeedsMemory, Served.Stands, Served.StandsAtEnd, Served.answers, Served.book_after, Served.done, Served.entry_numbers, Served.line_at, Served.most_together, Served.record_at}
use Rattle.cred_many.specs.{declared.line_operation.LineOperation.LineOperation, declared.fault.ServiceFault.ServiceFault, declared.open.Open.Open, Scribe.AddsNone, Scribe.AddsOne, Scribe.AreClosed, Scribe.HasAnswered, Scribe.History, Scribe.IsAnswered, Scribe.IsBusy, Scribe.IsConcluded, Scribe.IsReady, Scribe.Notes, Scribe.SightHolds, Scribe.numbers, Scribe.unseen, Transcript.TakesMore, Transcript.Written}
use Rattle.cred_many.specs.Service.{IsLine, Service, asked, asked_from, cut_line}
use Rattle.cred_many.proofs.{Unended.length-unended, Seen.answers-append, Seen.book_after-append, Seen.looked_numbers, Seen.watched_looked, Seen.watched_on, Seen.watched_rest, Seen.worn, Transcripts.takes_both, Transcripts.takes_none}
use Rattle.cred_tries.specs.Limits.{Limits}
use Rattle.cred_many.specs.{Scribe.IsCounted, Scribe.IsCountedAt, Scribe.IsQuick, Scribe.IsSentAway, Scribe.KeepsCount, Scribe.passed_of, Served.later_line, Served.name_asked, Served.told_at, Tries.is_try, declared.line_operation.LineOperation.TheVariants.Later}
use Rattle.cred_many.specs.Answered.{KeepsLimit, State, answered_in}
use Rattle.cred_many.proofs.{Adding.goes_on, Adding.stays_so}
use Rattle.cred_many.proofs.{Limiting.limit_kept, Telling.counts_one, Telling.has_limit, Telling.nothing_counted, Telling.told_more}
use Rattle.cred_cli.specs.declared.refusal.Refusal.{Refusal}
use Rattle.cred_book.specs.declared.error.BookError.TheVariants as error
use Rattle.cred_cli.specs.declared.refusal.Refusal.TheVariants as refusal
use Rattle.cred_many.specs.declared.fault.ServiceFault.TheVariants as fault

-- ---- what is written

-- the writer has the whole text, unless it failed
written : (text : List ℕ) (old now : Written) (failed : Bool) (why : Option ServiceFault) → IsConcluded text old now failed why
    → (n : ℕ) × TakesMore old now (take n text) × (why ≢ Some fault.Write → n ≡ length text)
written text old now failed why told = elim told [
  | inl w ↦ (length text, subst (TakesMore old now) (sym (take_all (length text) text (omega arith))) w.1, λ _. refl)
  | inr w ↦ (w.1.0, w.1.2, λ other. absurd (other w.0))
]

module _ (capacity : ℕ) (s : Service) (now : Written) (list : List Entry) (was : IsWritten capacity s now list None) where
  all_bytes : was.bytes ≡ length (answers capacity s.opening list)
  all_bytes = was.whole (λ is. absurd cc)

  -- so it is whatever is told
  written_still : (why : Option ServiceFault) → IsWritten capacity s now list why
  written_still why = record { bytes = was.bytes; front = was.front; whole = λ _. all_bytes; most = was.most }

  -- and with a few lines more, in which the writer may have failed
  written_on : (es : List Entry) → length es ≤ most_together → (next : Written) (failed : Bool) (why : Option ServiceFault)
      → IsConcluded (answers capacity (book_after capacity s.opening list) es) now next failed why → IsWritten capacity s next (list ++ es) why
  written_on es few next failed why told =
      let first = answers capacity s.opening list in
      let rest = answers capacity (book_after capacity s.opening list) es in
      let cut = answers-append capacity s.opening list es in
      let (n, text, whole) = written rest now next failed why told in
      let kept = length (list ++ es) - most_together in
      let within : kept ≤ length list = let long = length-append list es in omega (arith, long, few) in
      let split = ap (answers capacity s.opening) (sym (take-append-drop kept list)) ∙ answers-append capacity s.opening (take kept list) (drop kept list) in
      let fewer = ap length split ∙ length-append (answers capacity s.opening (take kept list)) _ in
      let same = ap (λ l. length (answers capacity s.opening l)) (take-append-le kept list es within) in
      let all : TakesMore s.before now first = subst (TakesMore s.before now) (ap (λ n. take n first) all_bytes ∙ take_all (length first) first (omega arith)) was.front in
      record {
        bytes = length first + n;
        front = subst (λ xs. TakesMore s.before next (take (length first + n) xs)) (sym cut)
            (subst (TakesMore s.before next) (sym (take-append-add first rest n)) (takes_both s.before now next first (take n rest) all text));
        whole = λ other. let all = whole other in let long = ap length cut ∙ length-append first rest in omega (arith, all, long);
        most = omega (arith, same, fewer);
      }

-- ---- what may stand in the list

module _ (capacity : ℕ) (s : Service) (bytes : List ℕ) (list es : List Entry) (all : AreFor capacity s bytes list)
    (more : (i : ℕ) (d : Entry) → i < length es → IsFor capacity s bytes (list ++ take i es) (get_or es i d)) where
  owed_more : AreFor capacity s bytes (list ++ es)
  owed_more i d within = elim (cases_lt i (length list)) [
    | inl here ↦ rw (take-append-le i list es (omega (arith, here)), get_or_append_left list es d i here) (all i d here)
    | inr behind ↦
        let at : i ≡ length list + (i - length list) = omega (arith, behind) in
        let long = length-append list es in
        rw (at, take-append-add list es (i - length list), get_or-append-add list es (i - length list) d) (more (i - length list) d (omega (arith, within, long, behind)))
  ]

-- ---- each number once

-- an open line is removed
numbers_without : (left : List Open) (place : ℕ) → numbers (remove left place) ≡ remove (numbers left) place
numbers_without left place = simp (map-append, take-map, drop-map)

pub answered_at : (left rest : List Open) (place n : ℕ) → slice_get (numbers left) place ≡ Some n → rest ≡ remove left place → IsAnswered n (numbers left) (numbers rest)
answered_at left rest place n there is = (place, there, ap numbers is ∙ numbers_without left place)

removal : (n : ℕ) (left : List Open) (place : ℕ) → slice_get (numbers left) place ≡ Some n → IsPermutation (n ∷ numbers (remove left place)) (numbers left)
removal n left place is =
    IsPermutation-sym _ _ (rw (sym (numbers_without left place)) at (IsPermutation-remove (numbers left) place n (slice_get_within (numbers left) place n is) (sym (get_or_from_slice_get (numbers left) place n n is))))

-- so are several
closed_once : (es : List Entry) (left rest : List Open) → AreClosed es left rest → IsPermutation (entry_numbers es ++ numbers rest) (numbers left)
closed_once [] left rest is = subst (λ o. IsPermutation (numbers o) (numbers left)) (sym is) (IsPermutation-refl (numbers left))
closed_once (e ∷ es) left rest (place, there, more) =
    IsPermutation-trans _ (e.number ∷ numbers (remove left place)) _ (IsPermutation-cons e.number _ _ (closed_once es (remove left place) rest more)) (removal e.number left place there)

once_closed : (list es : List Entry) (left rest : List Open) (all : List ℕ) → AreClosed es left rest
    → IsPermutation (entry_numbers list ++ numbers left) all → IsPermutation (entry_numbers (list ++ es) ++ numbers rest) all
once_closed list es left rest all closed once =
    let cut = ap (λ ns. ns ++ numbers rest) (map-append (λ (e : Entry). e.number) list es) ∙ append_assoc (entry_numbers list) (entry_numbers es) (numbers rest) in
    subst (λ ns. IsPermutation ns all) (sym cut) (IsPermutation-trans _ _ all (IsPermutation-append_right (entry_numbers list) _ _ (closed_once es left rest closed)) once)

once_opened : (ns left : List ℕ) (came : ℕ) → IsPermutation (ns ++ left) (range_with_len 0 came) → IsPermutation (ns ++ (left ++ came ∷ [])) (range_with_len 0 (came + 1))
once_opened ns left came once =
    let more : range_with_len 0 came ++ came ∷ [] ≡ range_with_len 0 (came + 1) =
    sym (sym (map-id (range_with_len 0 (came + 1))) ∙ map-range_with_len_more (λ m. m) 0 came came (omega arith) ∙ ap (λ l. l ++ came ∷ []) (map-id (range_with_len 0 came))) in
    subst (IsPermutation (ns ++ (left ++ came ∷ []))) more (subst (λ xs. IsPermutation xs (range_with_len 0 came ++ came ∷ [])) (append_assoc ns left (came ∷ [])) (IsPermutation-append_left (came ∷ []) _ _ once))

-- ---- a history that goes on

pub served_none : (capacity : ℕ) (s : Service) (now : Written) (book : MarkedBook) (left : List Open) (limits : Option Limits) → left ≡ [] → book ≡ s.opening → now ≡ s.before → KeepsCount s.tries limits [] (told_at capacity s.opening [] [])
    → HasAnswered capacity s now book None left 0 limits [] []
unfolding answers book_after
served_none capacity s now book left limits none is same counted = rw none (record {
  each = if_known s.input _ (λ bytes known i d within. absurd (omega (arith, within)));
  once = IsPermutation-refl [];
  seen = All-nil (SightHolds capacity s.opening []);
  book_is = is;
  text = record { bytes = 0; front = rw same (takes_none s.before); whole = λ _. refl; most = omega arith };
  timed = refl;
  counted = counted;
})

module _ (capacity : ℕ) (s : Service) (old now : Written) (book later : MarkedBook) (es : List Entry) (us : List ℕ) (left rest : List Open) (came : ℕ) (limits later_limits : Option Limits) (failed : Bool) (f : Option ServiceFault) where
  -- by a few lines, whether their answers were written whole or the writer failed
  pub served_on : (list : List Entry) (times : List ℕ) (h : HasAnswered capacity s old book None left came limits list times)
      → IfSome s.input (λ bytes. (i : ℕ) (d : Entry) → i < length es → IsFor capacity s bytes (list ++ take i es) (get_or es i d))
      → length es ≤ most_together → AreClosed es left rest → later ≡ book_after capacity book es → IsConcluded (answers capacity book es) old now failed f
      → length us ≡ length es → KeepsCount s.tries later_limits (times ++ us) (told_at capacity s.opening (list ++ es) (times ++ us))
      → HasAnswered capacity s now later f rest came later_limits (list ++ es) (times ++ us)
  served_on list times h owed few closed later_is told timed counted = record {
    each = each s.input h.each owed;
    once = once_closed list es left rest _ closed h.once;
    seen = watched_rest capacity s.opening (list ++ es) es left rest closed (watched_on capacity s.opening list es left h.seen);
    book_is = later_is ∙ ap (λ b. book_after capacity b es) h.book_is ∙ sym (book_after-append capacity s.opening list es);
    text = written_on capacity s old list h.text es few now failed f (rw h.book_is at told);
    timed = length-append times us ∙ ap (λ n. n + length us) h.timed ∙ ap (λ n. length list + n) timed ∙ sym (length-append list es);
    counted = counted;
  }
    where
      each : (input : Option (List ℕ)) → IfSome input (λ bytes. AreFor capacity s bytes list)
          → IfSome input (λ bytes. (i : ℕ) (d : Entry) → i < length es → IsFor capacity s bytes (list ++ take i es) (get_or es i d))
          → IfSome input (λ bytes. AreFor capacity s bytes (list ++ es))
      each None all more = tt
      each (Some bytes) all more = owed_more capacity s bytes list es all more

-- ---- a step

module _ (capacity : ℕ) (s : Service) (old now : Written) (book later : MarkedBook) (line : Entry) (left rest : List Open) (place came : ℕ) (limits later_limits : Option Limits) (answer : List ℕ) (failed : Bool) (was f : Option ServiceFault)
    (ready : IsReady was left place line.number) (came_is : IfSome s.input (λ bytes. IsLine s bytes line))
    (closed : rest ≡ remove left place) (told : IsConcluded (line.tag ++ 32 ∷ answer) old now failed f) where
  abbrev Before : List Entry → List ℕ → Type 0
  Before = HasAnswered capacity s old book was left came limits

  abbrev After : List Entry → List ℕ → Type 0
  After = HasAnswered capacity s now later f rest came later_limits

  not_counted : (why : Refusal) → later_limits ≡ limits → IsCounted limits later_limits book (refused why)
  not_counted why idle = subst (λ l. IsCounted limits l book (refused why)) (sym idle) (nothing_counted limits [])

  -- the line is answered as what it asks for, or as it is given up
  goes_as : (operation : LineOperation) → later ≡ (done capacity book operation).1 → answer ≡ (done capacity book operation).0
      → ((list : List Entry) (times : List ℕ) → HasAnswered capacity s old book None left came limits list times → (operation ≡ line.operation) ⊎ IsGivenUp capacity s list line.operation operation)
      → IsCounted limits later_limits book operation
      → (list : List Entry) (times : List ℕ) → Before list times → After (list ++ entry line.number line.tag operation ∷ []) (times ++ passed_of later_limits ∷ [])
  unfolding answers book_after
  goes_as operation later_is answer_is owed counts list times before = on (rw ready.going at before)
    where
      on : HasAnswered capacity s old book None left came limits list times → After (list ++ entry line.number line.tag operation ∷ []) (times ++ passed_of later_limits ∷ [])
      on h =
          let text : line.tag ++ 32 ∷ answer ≡ answers capacity book (entry line.number line.tag operation ∷ []) = ap (λ text. line.tag ++ 32 ∷ text) answer_is ∙ sym (append-nil (line_at capacity book (entry line.number line.tag operation))) in
          served_on capacity s old now book later (entry line.number line.tag operation ∷ []) (passed_of later_limits ∷ []) left rest came limits later_limits failed f list times h
          (IfSome_then s.input came_is (λ bytes is i d within. one bytes is i (omega (arith, within)) d)) (omega arith) (place, ready.there, closed) later_is (rw text at told)
          refl counted_one
        where
          counted_one : KeepsCount s.tries later_limits (times ++ passed_of later_limits ∷ []) (told_at capacity s.opening (list ++ entry line.number line.tag operation ∷ []) (times ++ passed_of later_limits ∷ []))
          counted_one =
              subst (KeepsCount s.tries later_limits (times ++ passed_of later_limits ∷ [])) (sym (told_more capacity s.opening list times (entry line.number line.tag operation) (passed_of later_limits) h.timed))
              (counts_one s.tries times (told_at capacity s.opening list times) limits later_limits (book_after capacity s.opening list) operation h.counted (subst (λ b. IsCounted limits later_limits b operation) h.book_is counts))

          one : (bytes : List ℕ) → IsLine s bytes line → (i : ℕ) → i ≡ 0 → (d : Entry)
              → IsFor capacity s bytes (list ++ take i (entry line.number line.tag operation ∷ [])) (get_or (entry line.number line.tag operation ∷ []) i d)
          one bytes here i first d = rw (first, append-nil list) (record { line = line; came = here; tag = refl; operation = owed list times h })

  adds_as : (IsSo : LineOperation → Type 0) (operation : LineOperation) → IsSo operation → later ≡ (done capacity book operation).1 → answer ≡ (done capacity book operation).0
      → ((list : List Entry) (times : List ℕ) → HasAnswered capacity s old book None left came limits list times → (operation ≡ line.operation) ⊎ IsGivenUp capacity s list line.operation operation)
      → IsCounted limits later_limits book operation → AddsOne IsSo (passed_of later_limits) Before After
  adds_as IsSo operation so later_is answer_is owed counts list times before =
      ∣ inr (entry line.number line.tag operation, so, goes_as operation later_is answer_is owed counts list times before) ∣₁

  -- the line is answered
  pub adds_answer : (IsSo : LineOperation → Type 0) → IsSo line.operation → later ≡ (done capacity book line.operation).1 → answer ≡ (done capacity book line.operation).0 → IsCounted limits later_limits book line.operation → AddsOne IsSo (passed_of later_limits) Before After
  adds_answer IsSo so later_is answer_is counts = adds_as IsSo line.operation so later_is answer_is (λ list times h. inl refl) counts

  -- the line is given up for want of memory
  pub adds_starved : later ≡ book → answer ≡ line_of (Refused (refusal.Book error.Memory)) → NeedsMemory capacity book line.operation → later_limits ≡ limits → AddsOne IsQuick (passed_of later_limits) Before After
  adds_starved same is needs idle = adds_as IsQuick (refused (refusal.Book error.Memory)) tt same is
      (λ list times h. inr (inl (refl, subst (λ b. NeedsMemory capacity b line.operation) h.book_is needs))) (not_counted (refusal.Book error.Memory) idle)

  -- or because other lines were always faster
  pub adds_busy : later ≡ book → answer ≡ line_of (Refused refusal.Busy) → IsBusy left place line.operation → later_limits ≡ limits → AddsOne IsQuick (passed_of later_limits) Before After
  adds_busy same is busy idle = adds_as IsQuick (refused refusal.Busy) tt same is
      (λ list times h. inr (inr (inl (refl, worn capacity s.opening list left place line.operation h.seen busy)))) (not_counted refusal.Busy idle)

  -- or because its try is too early
  pub adds_sent : (clock seconds : ℕ) → later ≡ book → answer ≡ later_line seconds → is_try line.operation ≡ true → IsSentAway clock limits later_limits (name_asked line.operation) seconds
      → AddsOne (IsCountedAt clock limits later_limits book) (passed_of later_limits) Before After
  adds_sent clock seconds same is tries early = adds_as (IsCountedAt clock limits later_limits book) (Later (name_asked line.operation) seconds) early same is
      (λ list times h. inr (inr (inr ((seconds, refl), tries, has_limit s.tries limits later_limits times (told_at capacity s.opening list times) (name_asked line.operation) clock seconds h.counted early)))) (clock, early)

  -- ---- so a history goes on

  module _ (served : ∥ History capacity s old book was left came limits ∥₁) where
    pub answered : later ≡ (done capacity book line.operation).1 → answer ≡ (done capacity book line.operation).0 → IsCounted limits later_limits book line.operation → ∥ History capacity s now later f rest came later_limits ∥₁
    answered later_is answer_is counts = goes_on Before After (λ operation. Unit {0}) (passed_of later_limits) (adds_answer (λ operation. Unit {0}) tt later_is answer_is counts) served

    pub starved : later ≡ book → answer ≡ line_of (Refused (refusal.Book error.Memory)) → NeedsMemory capacity book line.operation → later_limits ≡ limits → ∥ History capacity s now later f rest came later_limits ∥₁
    starved same is needs idle = goes_on Before After IsQuick (passed_of later_limits) (adds_starved same is needs idle) served

    pub given_up : later ≡ book → answer ≡ line_of (Refused refusal.Busy) → IsBusy left place line.operation → later_limits ≡ limits → ∥ History capacity s now later f rest came later_limits ∥₁
    given_up same is busy idle = goes_on Before After IsQuick (passed_of later_limits) (adds_busy same is busy idle) served

    pub sent_away : (clock seconds : ℕ) → later ≡ book → answer ≡ later_line seconds → is_try line.operation ≡ true → IsSentAway clock limits later_limits (name_asked line.operation) seconds → ∥ History capacity s now later f rest came later_limits ∥₁
    sent_away clock seconds same is tries early = goes_on Before After (IsCountedAt clock limits later_limits book) (passed_of later_limits) (adds_sent clock seconds same is tries early) served

module _ (capacity : ℕ) (s : Service) (now : Written) (book : MarkedBook) (left : List Open) (came : ℕ) (limits : Option Limits) (was : Option ServiceFault) where
  -- the lines stay
  on_same : (list : List Entry) (times : List ℕ) (h : HasAnswered capacity s now book was left came limits list times) (why : Option ServiceFault) (rest : List Open) (next : ℕ) → IsPermutation (entry_numbers list ++ numbers rest) (range_with_len 0 next)
      → All (SightHolds capacity s.opening list) rest → IsWritten capacity s now list why → HasAnswered capacity s now book why rest next limits list times
  on_same list times h why rest next once seen text = record { each = h.each; once = once; seen = seen; book_is = h.book_is; text = text; timed = h.timed; counted = h.counted }

  -- nothing was done, and perhaps nothing more is answered
  pub none_still : (f : Option ServiceFault) → was ≡ None → AddsNone (HasAnswered capacity s now book was left came limits) (HasAnswered capacity s now book f left came limits)
  none_still f none list times h = on_same list times h f left came h.once h.seen (written_still capacity s now list (rw none at h.text) f)

  pub still : (f : Option ServiceFault) → was ≡ None → ∥ History capacity s now book was left came limits ∥₁ → ∥ History capacity s now book f left came limits ∥₁
  still f none served = stays_so (HasAnswered capacity s now book was left came limits) (HasAnswered capacity s now book f left came limits) (none_still f none) served

  -- a line comes
  pub none_opened : (rest : List Open) (n next : ℕ) → rest ≡ left ++ unseen n ∷ [] → n ≡ came → next ≡ came + 1
      → AddsNone (HasAnswered capacity s now book was left came limits) (HasAnswered capacity s now book was rest next limits)
  none_opened rest n next more is next_is list times h = on_same list times h was rest next
      (rw (more, next_is, is, map-append (λ (o : Open). o.number) left (unseen came ∷ [])) (once_opened (entry_numbers list) (numbers left) came h.once))
      (All-same (SightHolds capacity s.opening list) rest _ more (All-push (SightHolds capacity s.opening list) left (unseen n) h.seen tt)) h.text

  pub opened : (rest : List Open) (n next : ℕ) → rest ≡ left ++ unseen n ∷ [] → n ≡ came → next ≡ came + 1
      → ∥ History capacity s now book was left came limits ∥₁ → ∥ History capacity s now book was rest next limits ∥₁
  opened rest n next more is next_is served = stays_so (HasAnswered capacity s now book was left came limits) (HasAnswered capacity s now book was rest next limits) (none_opened rest n next more is next_is) served

  -- a record is copied
  pub none_looked : (rest : List Open) (place : ℕ) (name : List ℕ) (stored : Option RecordValue) (count : ℕ) → Notes left place name stored rest count → stored ≡ record_at book name
      → AddsNone (HasAnswered capacity s now book was left came limits) (HasAnswered capacity s now book was rest came limits)
  none_looked rest place name stored count l is list times h = on_same list times h was rest came
      (rw (looked_numbers left rest place name stored count l) h.once)
      (watched_looked capacity s.opening list left rest place name stored count l (is ∙ ap (λ b. record_at b name) h.book_is) h.seen) h.text

  pub looked : (rest : List Open) (place : ℕ) (name : List ℕ) (stored : Option RecordValue) (count : ℕ) → Notes left place name stored rest count → stored ≡ record_at book name
      → ∥ History capacity s now book was left came limits ∥₁ → ∥ History capacity s now book was rest came limits ∥₁
  looked rest place name stored count l is served = stays_so (HasAnswered capacity s now book was left came limits) (HasAnswered capacity s now book was rest came limits) (none_looked rest place name stored count l is) served

-- ---- why nothing more is answered

length-asked : (s : Service) (n : ℕ) (lines : List (List ℕ)) → length (asked_from s n lines) ≡ length lines
unfolding asked_from
length-asked s n [] = refl
length-asked s n (line ∷ lines) = ap suc (length-asked s (suc n) lines)

-- a line that comes is one of the input
pub line_missing : (s : Service) (input : Option (List ℕ)) (e : Entry) (came : ℕ) → IfSome input (λ bytes. IsLine s bytes e) → came ≤ e.number
    → IfSome input (λ bytes. came ≢ length (lines_of bytes))
line_missing s input e came h behind = IfSome_then input h (λ bytes is all.
    let many = slice_get_within (asked s bytes) e.number e is in
    let long = length-unended (λ e. cut_line e.number) bytes (asked_from s 0 (lines_of bytes)) ∙ length-asked s 0 (lines_of bytes) in
    absurd (omega (arith, all, many, long, behind)))

-- ---- the whole

module _ (capacity : ℕ) (s : Service) (now : Written) (book : MarkedBook) (left : List Open) (came : ℕ) (limits : Option Limits) (source writer keeper : Bool) where
  abbrev moment_of : Option ServiceFault → Moment
  moment_of f = record { book = book; written = now; source_failed = source; writer_failed = writer; keeper_failed = keeper; fault = f; pending = numbers left; came = came; passed = passed_of limits }

  pub stands : (why : Option ServiceFault) → History capacity s now book why left came limits → HasCause s.input (moment_of why) why → Stands capacity s (moment_of why)
  stands why (list, times, h) cause = record { list = list; times = times; each = h.each; once = h.once; book = h.book_is; text = h.text; timed = h.timed; limited = limit_kept s.tries limits times (told_at capacity s.opening list times) h.counted; cause = cause }

  -- what ends the reading has its cause once it is told
  is_told : (why : Option ServiceFault) → HasCause s.input (moment_of None) why → HasCause s.input (moment_of why) why
  is_told (Some fault.Read) cause = cause
  is_told _ cause = cause

  -- what is told at the end is told already, or it ends the reading
  pub ended : (told why : Option ServiceFault) → (told ≡ None → numbers left ≡ []) → History capacity s now book told left came limits → HasCause s.input (moment_of told) told → HasCause s.input (moment_of told) why
      → StandsAtEnd capacity s (λ pending. record { book = book; written = now; source_failed = source; writer_failed = writer; keeper_failed = keeper; fault = option_or told why; pending = pending; came = came; passed = passed_of limits })
  ended (Some f) why idle h was cause = record { pending = numbers left; stands = stands (Some f) h was; none_pending = λ none. absurd cc }
  ended None why idle (list, times, h) was cause = record {
    pending = numbers left;
    stands = stands why (list, times, on_same capacity s now book left came limits None list times h why left came h.once h.seen (written_still capacity s now list h.text why)) (is_told why cause);
    none_pending = λ _. idle refl;
  }

-- the answers keep the limit by their moments
pub limit_of : (capacity : ℕ) (s : Service) (m : State) (list : List Entry) (times : List ℕ) → answered_in capacity s m list times → KeepsLimit capacity s m list times
limit_of capacity s m list times h = limit_kept s.tries m.limits times (told_at capacity s.opening list times) h.counted
