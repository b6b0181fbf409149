-- Changes of different accounts that are made together.
use Rattle.std.proofs.Common.{◌≡◌, ℕ, ◌<◌, List, [], ◌∷◌, ◌++◌, length, get_or, Option, Some, None, IfSome, subst, Result, Ok, Err, OnErr, OnOk, Bool, true, false, cond, is_some, refl, sym, ap, ◌∙◌, append_assoc, append-nil, arith, inl}
use Rattle.std.proofs.{lemmas.List.length-append, lemmas.List.length-map, lemmas.List.map-append, lemmas.Option.IfSome_then, lemmas.List.Elements.All-get_or, lemmas.List.Elements.All-nil, lemmas.List.Elements.All-push}
use Rattle.std.specs.{Cmp.Lexicographic.nat_list_cmp_total, List.All, Option.option_or, Ordering.eq_by_cmp, FinMap.get-empty, FinMap.get-insert, FinMap.same_map}
use Rattle.cred_phc.specs.Values.{RecordValue}
use Rattle.cred_book.specs.{Accounts.Accounts, Commits.judgement, Commits.judgement_at, Commits.judgement_if, Names.name_cmp, Works.Task, Works.makes_change, Works.name_of, Works.same, Works.whole, declared.request.Reply.Reply}
use Rattle.cred_cli.specs.Texts.{reply_line}
use Rattle.cred_cli.proofs.Readings.{if_known}
use Rattle.cred_file.specs.{Cells.marked, Cells.renewed, Cells.unmarked, Changes.joined, Changes.taken_in, Transactions.changed_marks, declared.marks.Mark.Mark}
use Rattle.cred_file.proofs.{Joined.deeper, Joined.get_joined, Marked.marked_same, TableLemmas.same_name}
use Rattle.cred_admin.specs.Marked.{MarkedBook, barred, is_outdated, marked_book, marks_after, tried, tried_at, tried_if, with_replaced}
use Rattle.cred_admin.specs.declared.verdict.Verdict.{Verdict}
use Rattle.cred_admin.specs.declared.verdict.Verdict.TheVariants.{Told}
use Rattle.cred_admin.proofs.Heeding.{book_is}
use Rattle.cred_many.specs.{LineOperations.Entry, LineOperations.hashed_for, LineOperations.is_reset, declared.fault.ServiceFault.ServiceFault, declared.open.Open.Open}
use Rattle.cred_many.specs.{Scribe.AddsSome, Scribe.AreClosed, Scribe.AreReplaced, Scribe.HasAnswered, Scribe.History, Scribe.IsConcluded, Scribe.IsGroup, Scribe.entries_of, Served.answers, Served.book_after, Served.done, Served.line_at, Served.most_together, Served.told_reply, Service.IsLine, Service.Service, Transcript.Written}
use Rattle.cred_tries.specs.{Answers.IsSettled, Limits.Limits}
use Rattle.cred_many.proofs.Limiting.{settled}
use Rattle.cred_many.specs.Scribe.{AreCounted, IsNotSentAway, is_clear, passed_of}
use Rattle.cred_many.proofs.Adding.{goes_far}
use Rattle.std.specs.Prelude.{map}
use Rattle.cred_many.proofs.{Clear.are_counted_push, Clear.change_counted, Telling.counts_all, Telling.length-now_of, Telling.now_of}
use Rattle.cred_many.proofs.{Commits.done_whole, Commits.hash_judged, Commits.tried_current, Seen.answers-append, Seen.book_after-append, Serving.served_on}
use Rattle.std.specs.FinMap as fin

-- ---- a change that is judged, at an account with no mark

judged_alike : (book later : Accounts) (work : Task) → fin.get later (name_of work.0) ≡ fin.get book (name_of work.0) → judgement later work ≡ judgement book work
unfolding judgement
judged_alike book later work same = ap (judgement_at work) same

module _ (book : MarkedBook) (work : Task) (found : Reply) (stored : Option RecordValue) (plain : book.marks (name_of work.0) ≡ unmarked) where
  abbrev made : MarkedBook
  made = marked_book (fin.insert book.accounts (name_of work.0) stored) book.marks

  marks_stay : marked book.marks (name_of work.0) (renewed (book.marks (name_of work.0))) ≡ book.marks
  marks_stay = marked_same book.marks (name_of work.0) _ (plain ∙ sym (ap renewed plain))

  -- the answer and the book after this reply and this record
  abbrev out : Reply × Option RecordValue → Bool → Verdict × MarkedBook
  out o changes = (Told o.0, marked_book (fin.insert book.accounts (name_of work.0) o.1) (marks_after book (name_of work.0) changes))

  tried_if_judged : (now : Option RecordValue) (is_copy : Bool) → judgement_if work now is_copy ≡ (found, stored, true) → (Told found, made) ≡ tried_at book work.0 (Some now)
  tried_if_judged now true is =
      let pair : whole work.0 now ≡ (found, stored) = ap (λ (j : Reply × Option RecordValue × Bool). (j.0, j.1)) is in
      let changes : makes_change (whole work.0 now).0 ≡ true = ap (λ (j : Reply × Option RecordValue × Bool). j.2) is in
      sym (ap (λ k. tried_if book work.0 now (barred k work.0 now)) plain ∙ ap (out (whole work.0 now)) changes ∙ ap (λ o. out o true) pair
      ∙ ap (λ m. (Told found, marked_book (fin.insert book.accounts (name_of work.0) stored) m)) marks_stay)
  tried_if_judged now false is = let not : false ≡ true = ap (λ j. j.2) is in absurd cc

  tried_at_judged : (o : Option (Option RecordValue)) → judgement_at work o ≡ (found, stored, true) → (Told found, made) ≡ tried_at book work.0 o
  tried_at_judged None is = let not : false ≡ true = ap (λ j. j.2) is in absurd cc
  tried_at_judged (Some now) is = tried_if_judged now (same now work.1) is

  judged_tried : judgement book.accounts work ≡ (found, stored, true) → (Told found, made) ≡ tried book work.0
  unfolding judgement tried
  judged_tried is = tried_at_judged (fin.get book.accounts (name_of work.0)) is

-- ---- records in place of others

pub replaced : (book changed later : Accounts) → later ≡ taken_in book fin.empty changed → AreReplaced book changed later
replaced book changed later is q =
    ap (λ (b : Accounts). fin.get b q) is ∙ get_joined (joined book fin.empty) changed q
    ∙ ap (option_or (fin.get changed q)) (get_joined book fin.empty q ∙ ap (λ o. option_or o (fin.get book q)) (get-empty name_cmp q))

-- ---- one change more

pub none_together : (capacity : ℕ) (s : Service) (limits : Option Limits) (book : MarkedBook) → IsGroup capacity s limits book fin.empty [] []
unfolding answers book_after
none_together capacity s limits book = record {
  came = if_known s.input _ (λ bytes known. All-nil (IsLine s bytes));
  few = omega arith;
  after = λ q. ap (λ o. option_or o (fin.get book.accounts q)) (sym (get-empty name_cmp q));
  marks = refl;
  plain = λ q there. let never : false ≡ true = sym (ap is_some (get-empty name_cmp q)) ∙ there in absurd cc;
  text_is = refl;
  counted = λ settled. tt;
  judged = All-nil (λ (e : Entry). IsNotSentAway e.operation);
}

module _ (capacity : ℕ) (s : Service) (limits : Option Limits) (book : MarkedBook) (changed : Accounts) (list : List Entry) (text : List ℕ) (e : Entry) (work : Task) (found : Reply) (stored : Option RecordValue)
    (g : IsGroup capacity s limits book changed list text) (job : hashed_for e.operation ≡ Some work.0) (kept : is_reset e.operation ≡ false) (is : judgement book.accounts work ≡ (found, stored, true))
    (first : fin.get changed (name_of work.0) ≡ None) (plain : book.marks (name_of work.0) ≡ unmarked) (clear : is_clear limits (name_of work.0) ≡ true) where
  abbrev here : MarkedBook
  here = book_after capacity book list

  abbrev next : MarkedBook
  next = marked_book (fin.insert here.accounts (name_of work.0) stored) here.marks

  tries : (Told found, next) ≡ tried here work.0
  tries =
      let same = g.after (name_of work.0) ∙ ap (λ o. option_or o (fin.get book.accounts (name_of work.0))) first in
      judged_tried here work found stored (ap (λ m. m (name_of work.0)) g.marks ∙ plain) (judged_alike book.accounts here.accounts work same ∙ is)

  is_done : (reply_line (told_reply e.operation found), next) ≡ done capacity here e.operation
  is_done = done_whole e.operation capacity here next work (Told found) job kept (inl tries) (ap (λ o. is_outdated o.0) tries ∙ tried_current here work.0)

  more_is : book_after capacity book (list ++ e ∷ []) ≡ next
  unfolding book_after
  more_is = book_after-append capacity book list (e ∷ []) ∙ sym (ap (λ o. o.1) is_done)

  after_more : AreReplaced book.accounts (fin.insert changed (name_of work.0) stored) (book_after capacity book (list ++ e ∷ [])).accounts
  after_more q =
      ap (λ (b : MarkedBook). fin.get b.accounts q) more_is
      ∙ get-insert nat_list_cmp_total here.accounts (name_of work.0) stored q
      ∙ ap (cond (eq_by_cmp name_cmp q (name_of work.0)) (Some stored)) (g.after q)
      ∙ deeper (eq_by_cmp name_cmp q (name_of work.0)) stored (fin.get changed q) (fin.get book.accounts q)
      ∙ ap (λ o. option_or o (fin.get book.accounts q)) (sym (get-insert nat_list_cmp_total changed (name_of work.0) stored q))

  plain_if : (q : List ℕ) (b : Bool) → eq_by_cmp name_cmp q (name_of work.0) ≡ b → is_some (cond b (Some stored) (fin.get changed q)) ≡ true → book.marks q ≡ unmarked
  plain_if q true tie there = ap book.marks (same_name q (name_of work.0) tie) ∙ plain
  plain_if q false tie there = g.plain q there

  plain_more : (q : List ℕ) → fin.contains_key (fin.insert changed (name_of work.0) stored) q ≡ true → book.marks q ≡ unmarked
  plain_more q there = plain_if q _ refl (sym (ap is_some (get-insert nat_list_cmp_total changed (name_of work.0) stored q)) ∙ there)

  text_more : text ++ (e.tag ++ 32 ∷ reply_line (told_reply e.operation found)) ≡ answers capacity book (list ++ e ∷ [])
  unfolding answers
  text_more =
      ap (λ t. t ++ (e.tag ++ 32 ∷ reply_line (told_reply e.operation found))) g.text_is
      ∙ ap (λ t. answers capacity book list ++ t) (ap (λ o. e.tag ++ 32 ∷ o.0) is_done ∙ sym (append-nil (line_at capacity here e)))
      ∙ sym (answers-append capacity book list (e ∷ []))

  came_more : (input : Option (List ℕ)) → IfSome input (λ bytes. All (IsLine s bytes) list) → IfSome input (λ bytes. IsLine s bytes e) → IfSome input (λ bytes. All (IsLine s bytes) (list ++ e ∷ []))
  came_more None all one = tt
  came_more (Some bytes) all one = All-push (IsLine s bytes) list e all one

  -- nothing of the line is counted, since nothing was counted at its name
  counted_more : IfSome limits IsSettled → AreCounted capacity limits book (list ++ e ∷ [])
  counted_more settled = are_counted_push capacity limits book list e (g.counted settled)
      (change_counted limits here e.operation work found stored settled job kept (ap (λ o. o.0) (sym tries)) book.accounts is clear)

  -- a line more, which changes an account that the others don't
  pub one_together : length list < most_together → IfSome s.input (λ bytes. IsLine s bytes e)
      → IsGroup capacity s limits book (fin.insert changed (name_of work.0) stored) (list ++ e ∷ []) (text ++ (e.tag ++ 32 ∷ reply_line (told_reply e.operation found)))
  one_together short came = record {
    came = came_more s.input g.came came;
    few = omega (arith, short, length-append list (e ∷ []));
    after = after_more;
    marks = ap (λ (b : MarkedBook). b.marks) more_is ∙ g.marks;
    plain = plain_more;
    text_is = text_more;
    counted = counted_more;
    judged = All-push (λ (e : Entry). IsNotSentAway e.operation) list e g.judged (hash_judged e.operation work.0 job);
  }

-- replacing a record changes no mark if there was none
marks_kept : (marks : List ℕ → Mark) (changed : Accounts) → ((q : List ℕ) → fin.contains_key changed q ≡ true → marks q ≡ unmarked) → changed_marks renewed marks changed ≡ marks
marks_kept marks changed plain =
    let at : (q : List ℕ) → changed_marks renewed marks changed q ≡ marks q = λ q. by_there q (fin.contains_key changed q) refl in
    λ i q. at q i
  where
    by_there : (q : List ℕ) (b : Bool) → fin.contains_key changed q ≡ b → cond b (renewed (marks q)) (marks q) ≡ marks q
    by_there q true there = ap renewed (plain q there) ∙ sym (plain q there)
    by_there q false there = refl

-- all lines of a group are answered, once the records stand
pub adds_together : (capacity : ℕ) (s : Service) (old now : Written) (book later : MarkedBook) (changed : Accounts) (es lines : List Entry) (left rest : List Open) (came : ℕ) (limits : Option Limits) (text written : List ℕ) (failed : Bool) (was f : Option ServiceFault)
    → was ≡ None → IsGroup capacity s limits book changed es text → later ≡ with_replaced book changed → AreClosed lines left rest → lines ≡ es → IsConcluded written old now failed f → written ≡ text
    → AddsSome IsNotSentAway (passed_of limits) (HasAnswered capacity s old book was left came limits) (HasAnswered capacity s now later f rest came limits)
adds_together capacity s old now book later changed es lines left rest came limits text written failed was f none g whole closed same told is list times served = ∣ (es, g.judged, on (rw none at served)) ∣₁
  where
    accounts_are : later.accounts ≡ (book_after capacity book es).accounts
    accounts_are = same_map nat_list_cmp_total (fin.slice_cmp-IsAntisymmetric fin.nat_cmp-IsAntisymmetric) _ _
        (λ q. replaced book.accounts changed later.accounts (ap (λ (b : MarkedBook). b.accounts) whole) q ∙ sym (g.after q))

    is_after : later ≡ book_after capacity book es
    is_after = book_is later _ _ accounts_are (ap (λ (b : MarkedBook). b.marks) whole ∙ marks_kept book.marks changed g.plain ∙ sym g.marks)

    on : HasAnswered capacity s old book None left came limits list times → HasAnswered capacity s now later f rest came limits (list ++ es) (times ++ map (λ _. passed_of limits) es)
    on h =
        served_on capacity s old now book later es (now_of capacity s.tries limits s.opening es) left rest came limits limits failed f list times h
        (IfSome_then s.input g.came (λ bytes all i d within. record { line = get_or es i d; came = All-get_or (IsLine s bytes) es i d within all; tag = refl; operation = inl refl })) g.few (rw same at closed)
        is_after (rw (is, g.text_is) at told) (length-now_of capacity s.tries limits s.opening es)
        (counts_all capacity s.tries limits s.opening list es times h.timed h.counted (subst (λ b. AreCounted capacity limits b es) h.book_is (g.counted (settled s.tries limits times _ h.counted))))

pub answered_together : (capacity : ℕ) (s : Service) (old now : Written) (book later : MarkedBook) (changed : Accounts) (es lines : List Entry) (left rest : List Open) (came : ℕ) (limits : Option Limits) (text written : List ℕ) (failed : Bool) (was f : Option ServiceFault)
    → was ≡ None → IsGroup capacity s limits book changed es text → later ≡ with_replaced book changed → AreClosed lines left rest → lines ≡ es → IsConcluded written old now failed f → written ≡ text
    → ∥ History capacity s old book was left came limits ∥₁ → ∥ History capacity s now later f rest came limits ∥₁
answered_together capacity s old now book later changed es lines left rest came limits text written failed was f none g whole closed same told is served =
    goes_far (HasAnswered capacity s old book was left came limits) (HasAnswered capacity s now later f rest came limits) IsNotSentAway (passed_of limits)
    (adds_together capacity s old now book later changed es lines left rest came limits text written failed was f none g whole closed same told is) served

-- a line joins a group, or doesn't
pub pushed_together : {E : Type 0} (capacity : ℕ) (s : Service) (limits : Option Limits) (book : MarkedBook) (changed now : Accounts) (works more : List (Entry × Task)) (text longer : List ℕ) (w : Entry × Task) (found : Reply) (stored : Option RecordValue) (name : List ℕ) (r : Result (Unit {0}) E)
    → IsGroup capacity s limits book changed (entries_of works) text → is_clear limits name ≡ true → hashed_for w.0.operation ≡ Some w.1.0 → is_reset w.0.operation ≡ false → judgement book.accounts w.1 ≡ (found, stored, true)
    → name ≡ name_of w.1.0 → book.marks name ≡ unmarked → length works < most_together → IfSome s.input (λ bytes. IsLine s bytes w.0)
    → OnOk r (more ≡ works ++ w ∷ []) → OnOk r (fin.get changed name ≡ None) → OnOk r (now ≡ fin.insert changed name stored) → OnOk r (longer ≡ (text ++ w.0.tag) ++ (32 ∷ reply_line (told_reply w.0.operation found)))
    → OnErr r (more ≡ works) → OnErr r (now ≡ changed) → OnErr r (longer ≡ text)
    → IsGroup capacity s limits book now (entries_of more) longer
pushed_together capacity s limits book changed now works more text longer w found stored name (Ok x) g clear job kept is name_is plain short came more_is first now_is longer_is a b c =
    let few = length-map works (λ (v : Entry × Task). v.0) in
    let one = one_together capacity s limits book changed (entries_of works) text w.0 w.1 found stored g job kept is (rw name_is at first) (rw name_is at plain) (rw name_is at clear) (omega (arith, short, few)) came in
    rw (now_is, more_is, longer_is, name_is, map-append (λ (v : Entry × Task). v.0) works (w ∷ []), append_assoc text w.0.tag (32 ∷ reply_line (told_reply w.0.operation found))) one
pushed_together capacity s limits book changed now works more text longer w found stored name (Err e) g clear job kept is name_is plain short came h i j k more_is now_is longer_is = rw (now_is, more_is, longer_is) g
