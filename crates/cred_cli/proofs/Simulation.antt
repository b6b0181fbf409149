-- One event on the present book and the open tickets does what the history says at its place.
use Rattle.std.proofs.Common.{◌≡◌, ◌≢◌, ℕ, suc, ◌-◌, ◌≤◌, List, take, Option, Some, None, Bool, true, false, not, ◌&&◌, if◌then◌else◌, is_none, is_some, nat_lt, refl, sym, ap, ◌∙◌, slice_get, set, arith, inl, inr, eq-eqb}
use Rattle.std.proofs.{Math.ListN.length-set, lemmas.Bool.cond_both, lemmas.Bool.ne_eqb, lemmas.Bool.Decides.eqb_tells, lemmas.List.get_or-set_same, lemmas.List.get_or-set_other}
use Rattle.cred_phc.specs.Values.{RecordValue}
use Rattle.cred_book.specs.{Accounts.Accounts, Commits.commit_outcome, Commits.commit_outcome_at, declared.request.Reply.Reply, declared.request.Request.Request, declared.error.BookError.TheVariants.Exists, declared.error.BookError.TheVariants.Full, declared.error.BookError.TheVariants.NoAccount}
use Rattle.cred_book.specs.Works.{Task, name_of, right, same, same_scheme, seq, seq_at, whole}
use Rattle.cred_book.proofs.Commitments.{committed_found}
use Rattle.cred_cli.specs.{Events.IsSound, Tickets.HoldTickets, Tickets.IsTicketOf, declared.event.Event.Event}
use Rattle.cred_cli.specs.History.{Answer, Done, Replied, Refused, Deed, Admission, Loading, Whole, Opened, open_after, open_at, answer_of, answer_at, book_at, book_after, names_at, deed_of, deeds_before, after, commit_deed, commit_answer, is_stale, is_among, same_entry}
use Rattle.cred_cli.specs.{Steps.Step, Steps.step, Steps.stay, Steps.slot, Steps.begin_step, Steps.begin_step_at, Steps.commit_step, Steps.commit_step_at, Steps.reply_answer, declared.refusal.Refusal.TheVariants.Book, declared.refusal.Refusal.TheVariants.Busy, declared.refusal.Refusal.TheVariants.Idle}
use Rattle.cred_cli.specs.declared.event.Event.TheVariants.{Account, Load, Show, Begin, Commit, Bad}
use Rattle.cred_cli.proofs.{Names.same_names, Names.book_at-suc, Names.take_done, Openings.known_at, Openings.open_at-suc}
use Rattle.std.specs.FinMap as map
use Rattle.cred_book.specs.declared.request.Reply.TheVariants as reply
use Rattle.cred_book.specs.declared.request.Request.TheVariants as request

-- a step at place i of a history
pub record IsStep (capacity : ℕ) (book : Accounts) (events : List Event) (i : ℕ) (step : Step) : Type 0 where
  pub answer : step.answer ≡ answer_at capacity book events i
  pub book_is : step.book ≡ book_at capacity book events (suc i)
  pub tickets : HoldTickets capacity book events (suc i) step.slots

-- ---- a whole operation never answers that it was changed

abbrev pub IsReplied : Reply × Option RecordValue → Type 0
IsReplied outcome = reply_answer outcome.0 ≡ Replied outcome.0

pub whole_replies : (request : Request) (now : Option RecordValue) → IsReplied (whole request now)
whole_replies (request.Verify name pw) (Some stored) = cond_both (right stored pw) reply.Yes reply.No (λ r. reply_answer r ≡ Replied r) (λ e. refl) (λ e. refl)
whole_replies (request.Change name pw new setting) (Some stored) = cond_both (right stored pw) _ _ IsReplied (λ e. refl) (λ e. refl)
whole_replies (request.Upgrade name pw setting) (Some stored) =
    cond_both (not (right stored pw)) _ _ IsReplied (λ e. refl) (λ e. cond_both (same_scheme stored.setting.scheme setting.scheme) _ _ IsReplied (λ e. refl) (λ e. refl))
whole_replies (request.Remove name pw) (Some stored) = cond_both (right stored pw) _ _ IsReplied (λ e. refl) (λ e. refl)
whole_replies (request.Enrol name pw setting) (Some stored) = refl
whole_replies _ _ = refl

-- ---- slots

module _ (capacity : ℕ) (book : Accounts) (events : List Event) (i : ℕ) (slots : List (Option Task)) (held : HoldTickets capacity book events i slots) (event : Event) (here : slice_get events i ≡ Some event) where
  open_next : (key : ℕ) → open_at capacity book events (suc i) key ≡ open_after (names_at capacity book events i) i key (open_at capacity book events i key) (Some event)
  open_next key = open_at-suc capacity book events i key ∙ ap (open_after (names_at capacity book events i) i key (open_at capacity book events i key)) here

  -- where no number opens or closes
  tickets_stay : ((key : ℕ) → open_after (names_at capacity book events i) i key (open_at capacity book events i key) (Some event) ≡ open_at capacity book events i key) → HoldTickets capacity book events (suc i) slots
  tickets_stay same = record { size = held.size; each = λ key low high. rw (open_next key ∙ same key) (held.each key low high) }

  -- a slot is written, as its number opens or closes
  tickets_set : (key : ℕ) → 1 ≤ key → key ≤ 64 → (task : Option Task) → IsTicketOf capacity book events (open_at capacity book events (suc i) key) task →
      ((k : ℕ) → key ≢ k → open_at capacity book events (suc i) k ≡ open_at capacity book events i k) → HoldTickets capacity book events (suc i) (set slots (key - 1) task)
  tickets_set key low high task this others = record {
    size = rw length-set held.size;
    each = λ k k_low k_high. elim (eqb_tells key k) [
      | inl w ↦ rw (← w.1, get_or-set_same slots (key - 1) task None (omega (arith, held.size))) this
      | inr w ↦ rw (others k w.1, get_or-set_other slots (key - 1) (k - 1) task None (λ e. w.1 (omega (arith, e, low, k_low)))) (held.each k k_low k_high)
    ];
  }

  moves : (step : Step) → step.answer ≡ answer_of capacity book events i (Some event) → step.book ≡ after (book_at capacity book events i) (deed_of capacity book events i (deeds_before capacity book events i) (Some event)) → HoldTickets capacity book events (suc i) step.slots → IsStep capacity book events i step
  moves step said put tickets = record {
    answer = said ∙ ap (answer_of capacity book events i) (sym here);
    book_is = put ∙ ap (λ e. after (book_at capacity book events i) (deed_of capacity book events i (deeds_before capacity book events i) e)) (sym here) ∙ sym (book_at-suc capacity book events i);
    tickets = tickets;
  }

  stays : (answer : Answer) → answer ≡ answer_of capacity book events i (Some event) → deed_of capacity book events i (deeds_before capacity book events i) (Some event) ≡ None → HoldTickets capacity book events (suc i) slots → IsStep capacity book events i (stay answer (book_at capacity book events i) slots)
  stays answer said none tickets =
      moves (stay answer (book_at capacity book events i) slots) said (sym (ap (after (book_at capacity book events i)) none)) tickets

-- ---- the events that leave the tickets

-- a step, and the same step of the history
abbrev Agree : Accounts → List (Option Task) → Step → Answer → Option Deed → Type 0
Agree book slots step said deed = (step.answer ≡ said) × (step.book ≡ after book deed) × (step.slots ≡ slots)

admission : (book : Accounts) (slots : List (Option Task)) (name : List ℕ) (b b' : Bool) → b ≡ b' → (c c' : Bool) → c ≡ c' →
    Agree book slots (if b then stay (Refused (Book Exists)) book slots else if c then stay Done (map.insert book name None) slots else stay (Refused (Book Full)) book slots)
    (if b' then Refused (Book Exists) else if c' then Done else Refused (Book Full))
    (if b' then None else if c' then Some (Admission name) else None)
admission book slots name true true e c c' d = (refl, refl, refl)
admission book slots name false false e true true d = (refl, refl, refl)
admission book slots name false false e false false d = (refl, refl, refl)
admission book slots name _ _ e _ _ d = (cc, cc, cc)

loading : (book : Accounts) (slots : List (Option Task)) (name : List ℕ) (stored : RecordValue) (b b' : Bool) → b ≡ b' →
    Agree book slots (if b then stay Done (map.insert book name (Some stored)) slots else stay (Refused (Book NoAccount)) book slots)
    (if b' then Done else Refused (Book NoAccount))
    (if b' then Some (Loading name stored) else None)
loading book slots name stored true true e = (refl, refl, refl)
loading book slots name stored false false e = (refl, refl, refl)
loading book slots name stored _ _ e = (cc, cc, cc)

-- ---- begins

pub begun-at : (book : Accounts) (slots : List (Option Task)) (key : ℕ) (request : Request) (task : Option Task) (entry : Option (Option RecordValue)) →
    slot slots key ≡ task → map.get book (name_of request) ≡ entry → begin_step book slots key request ≡ begin_step_at book slots key request task entry
unfolding begin_step
begun-at book slots key request task entry is found = ap (λ t. begin_step_at book slots key request t (map.get book (name_of request))) is ∙ ap (begin_step_at book slots key request task) found

-- a begin that isn't accepted opens nothing
abbrev Refuses : ℕ → Accounts → List Event → ℕ → ℕ → Request → Type 0
Refuses capacity book events i key request = (is_none (open_at capacity book events i key) && is_among (names_at capacity book events i) (name_of request)) ≡ false

opens_nothing : (capacity : ℕ) (book : Accounts) (events : List Event) (i key : ℕ) (request : Request) → Refuses capacity book events i key request → (k : ℕ) →
    open_after (names_at capacity book events i) i k (open_at capacity book events i k) (Some (Begin key request)) ≡ open_at capacity book events i k
opens_nothing capacity book events i key request refuses k = elim (eqb_tells key k) [
  | inl w ↦ rw (w.0, ← w.1, refuses) refl
  | inr w ↦ rw w.0 refl
]

module _ (capacity : ℕ) (book : Accounts) (events : List Event) (i : ℕ) (slots : List (Option Task)) (held : HoldTickets capacity book events i slots) (key : ℕ) (low : 1 ≤ key) (high : key ≤ 64) (request : Request)
    (here : slice_get events i ≡ Some (Begin key request)) where
  among : is_among (names_at capacity book events i) (name_of request) ≡ is_some (map.get (book_at capacity book events i) (name_of request))
  among = sym ((same_names capacity book events i).among (name_of request))

  begin_refused : (answer : Answer) → answer ≡ answer_of capacity book events i (Some (Begin key request)) → Refuses capacity book events i key request → IsStep capacity book events i (stay answer (book_at capacity book events i) slots)
  begin_refused answer said refuses =
      stays capacity book events i slots held (Begin key request) here answer said refl
      (tickets_stay capacity book events i slots held (Begin key request) here (opens_nothing capacity book events i key request refuses))

  begin_done : (copy : Option RecordValue) → open_at capacity book events i key ≡ None → map.get (book_at capacity book events i) (name_of request) ≡ Some copy →
      IsStep capacity book events i (begin_step_at (book_at capacity book events i) slots key request None (Some copy))
  begin_done copy is found =
      let there : is_among (names_at capacity book events i) (name_of request) ≡ true = among ∙ ap is_some found in
      let opens : open_at capacity book events (suc i) key ≡ Some (record { place = i; request = request }) =
      open_next capacity book events i slots held (Begin key request) here key ∙ rw (eq-eqb key key refl, is, there) refl in
      moves capacity book events i slots held (Begin key request) here (begin_step_at (book_at capacity book events i) slots key request None (Some copy)) (rw (is, there) refl) refl
      (tickets_set capacity book events i slots held (Begin key request) here key low high (Some (request, copy)) (rw opens (refl, found))
      (λ k apart. open_next capacity book events i slots held (Begin key request) here k ∙ rw (ne_eqb key k apart) refl))

  begins : IsStep capacity book events i (begin_step (book_at capacity book events i) slots key request)
  begins = by_case (open_at capacity book events i key) refl (slot slots key) refl (held.each key low high) (map.get (book_at capacity book events i) (name_of request)) refl
    where
      by_case : (opened : Option Opened) → open_at capacity book events i key ≡ opened → (task : Option Task) → slot slots key ≡ task → IsTicketOf capacity book events opened task →
          (entry : Option (Option RecordValue)) → map.get (book_at capacity book events i) (name_of request) ≡ entry → IsStep capacity book events i (begin_step (book_at capacity book events i) slots key request)
      by_case None is None none h None found =
          rw (begun-at (book_at capacity book events i) slots key request None None none found) (begin_refused (Refused (Book NoAccount)) (rw (is, among, found) refl) (rw (is, among, found) refl))
      by_case None is None none h (Some copy) found = rw (begun-at (book_at capacity book events i) slots key request None (Some copy) none found) (begin_done copy is found)
      by_case (Some opened) is (Some task) some h entry found =
          rw (begun-at (book_at capacity book events i) slots key request (Some task) entry some found) (begin_refused (Refused Busy) (rw is refl) (rw is refl))
      by_case _ is _ some h entry found = absurd h

-- ---- commits

pub committing-at : (book : Accounts) (slots : List (Option Task)) (key : ℕ) (task : Option Task) → slot slots key ≡ task → commit_step book slots key ≡ commit_step_at book slots key task
unfolding commit_step
committing-at book slots key task is = ap (commit_step_at book slots key) is

stale-at : (book : Accounts) (past : List (Option Deed)) (opened : Opened) (now copy : Option RecordValue) → map.get (book_after book past) (name_of opened.request) ≡ Some now →
    map.get (book_after book (take opened.place past)) (name_of opened.request) ≡ Some copy → is_stale book past opened ≡ not (same now copy)
unfolding is_stale
stale-at book past opened now copy found began = ap (λ e. not (same_entry e (map.get (book_after book (take opened.place past)) (name_of opened.request)))) found ∙ ap (λ e. not (same_entry (Some now) e)) began

module _ (capacity : ℕ) (book : Accounts) (events : List Event) (i : ℕ) (slots : List (Option Task)) (held : HoldTickets capacity book events i slots) (key : ℕ) (low : 1 ≤ key) (high : key ≤ 64)
    (here : slice_get events i ≡ Some (Commit key)) where
  closes : open_at capacity book events (suc i) key ≡ None
  closes = open_next capacity book events i slots held (Commit key) here key ∙ rw (eq-eqb key key refl) refl

  others : (k : ℕ) → key ≢ k → open_at capacity book events (suc i) k ≡ open_at capacity book events i k
  others k apart = open_next capacity book events i slots held (Commit key) here k ∙ rw (ne_eqb key k apart) refl

  closed_tickets : HoldTickets capacity book events (suc i) (set slots (key - 1) None)
  closed_tickets = tickets_set capacity book events i slots held (Commit key) here key low high None (rw closes tt) others

  commit_idle : open_at capacity book events i key ≡ None → IsStep capacity book events i (stay (Refused Idle) (book_at capacity book events i) slots)
  commit_idle is =
      stays capacity book events i slots held (Commit key) here (Refused Idle) (rw is refl) (rw is refl) (tickets_stay capacity book events i slots held (Commit key) here none_closes)
    where
      none_closes : (k : ℕ) → open_after (names_at capacity book events i) i k (open_at capacity book events i k) (Some (Commit key)) ≡ open_at capacity book events i k
      none_closes k = elim (eqb_tells key k) [
        | inl w ↦ rw (w.0, ← w.1, is) refl
        | inr w ↦ rw w.0 refl
      ]

  module _ (opened : Opened) (task : Task) (is : open_at capacity book events i key ≡ Some opened) (asked : task.0 ≡ opened.request)
      (copied : map.get (book_at capacity book events opened.place) (name_of opened.request) ≡ Some task.1) (now : Option RecordValue) (found : map.get (book_at capacity book events i) (name_of opened.request) ≡ Some now) where
    began : map.get (book_after book (take opened.place (deeds_before capacity book events i))) (name_of opened.request) ≡ Some task.1
    began = ap (λ past. map.get (book_after book past) (name_of opened.request)) (take_done capacity book events opened.place i (omega (arith, (known_at capacity book events i key opened is).earlier))) ∙ copied

    pub stale : is_stale book (deeds_before capacity book events i) opened ≡ not (same now task.1)
    stale = stale-at book (deeds_before capacity book events i) opened now task.1 found began

    commits : commit_outcome (book_at capacity book events i) task ≡ commit_outcome_at (book_at capacity book events i) task (Some now)
    commits = committed_found (book_at capacity book events i) task (name_of opened.request) (sym (ap name_of asked)) (Some now) found

    told : answer_of capacity book events i (Some (Commit key)) ≡ commit_answer book (deeds_before capacity book events i) (Some opened)
    told = ap (commit_answer book (deeds_before capacity book events i)) is

    deed : deed_of capacity book events i (deeds_before capacity book events i) (Some (Commit key)) ≡ commit_deed book (deeds_before capacity book events i) (Some opened)
    deed = ap (commit_deed book (deeds_before capacity book events i)) is

    seq_now : seq (book_at capacity book events i) opened.request ≡ seq_at (book_at capacity book events i) opened.request (Some now)
    unfolding seq
    seq_now = ap (seq_at (book_at capacity book events i) opened.request) found

    commit_at : IsStep capacity book events i (commit_step_at (book_at capacity book events i) slots key (Some task))
    commit_at = by_case (same now task.1) refl
      where
        by_case : (b : Bool) → same now task.1 ≡ b → IsStep capacity book events i (commit_step_at (book_at capacity book events i) slots key (Some task))
        by_case false e =
            let done : commit_outcome (book_at capacity book events i) task ≡ (reply.Changed now, book_at capacity book events i) = commits ∙ rw e refl in
            let none : deed_of capacity book events i (deeds_before capacity book events i) (Some (Commit key)) ≡ None = deed ∙ rw (stale, e) refl in
            moves capacity book events i slots held (Commit key) here (commit_step_at (book_at capacity book events i) slots key (Some task))
            (ap (λ c. reply_answer c.0) done ∙ sym (told ∙ rw (stale, e) refl))
            (ap (λ c. c.1) done ∙ sym (ap (after (book_at capacity book events i)) none))
            closed_tickets
        by_case true e =
            let done : commit_outcome (book_at capacity book events i) task ≡ seq (book_at capacity book events i) opened.request = commits ∙ rw (e, asked) (sym seq_now) in
            let whole : deed_of capacity book events i (deeds_before capacity book events i) (Some (Commit key)) ≡ Some (Whole opened.request) = deed ∙ rw (stale, e) refl in
            let replied : reply_answer (seq (book_at capacity book events i) opened.request).0 ≡ Replied (seq (book_at capacity book events i) opened.request).0 = rw seq_now (whole_replies opened.request now) in
            moves capacity book events i slots held (Commit key) here (commit_step_at (book_at capacity book events i) slots key (Some task))
            (ap (λ c. reply_answer c.0) done ∙ replied ∙ sym (told ∙ rw (stale, e) refl))
            (ap (λ c. c.1) done ∙ sym (ap (after (book_at capacity book events i)) whole))
            closed_tickets

  -- an open number's name is there
  entry_there : (opened : Opened) → open_at capacity book events i key ≡ Some opened → is_some (map.get (book_at capacity book events i) (name_of opened.request)) ≡ true
  entry_there opened is = (same_names capacity book events i).among (name_of opened.request) ∙ (known_at capacity book events i key opened is).there

  commits_all : IsStep capacity book events i (commit_step (book_at capacity book events i) slots key)
  commits_all = by_opened (open_at capacity book events i key) refl (slot slots key) refl (held.each key low high)
    where
      by_entry : (opened : Opened) (task : Task) → open_at capacity book events i key ≡ Some opened → slot slots key ≡ Some task → IsTicketOf capacity book events (Some opened) (Some task) →
          (entry : Option (Option RecordValue)) → map.get (book_at capacity book events i) (name_of opened.request) ≡ entry → is_some entry ≡ true → IsStep capacity book events i (commit_step (book_at capacity book events i) slots key)
      by_entry opened task is some h None found there = cc
      by_entry opened task is some h (Some now) found there = rw (committing-at (book_at capacity book events i) slots key (Some task) some) (commit_at opened task is h.0 h.1 now found)

      by_opened : (opened : Option Opened) → open_at capacity book events i key ≡ opened → (task : Option Task) → slot slots key ≡ task → IsTicketOf capacity book events opened task →
          IsStep capacity book events i (commit_step (book_at capacity book events i) slots key)
      by_opened None is None none h = rw (committing-at (book_at capacity book events i) slots key None none) (commit_idle is)
      by_opened (Some opened) is (Some task) some h = by_entry opened task is some h (map.get (book_at capacity book events i) (name_of opened.request)) refl (entry_there opened is)
      by_opened _ is _ some h = absurd h

-- ---- any event

stepped : (capacity : ℕ) (book : Accounts) (events : List Event) (i : ℕ) (slots : List (Option Task)) → HoldTickets capacity book events i slots → (event : Event) → IsSound event → slice_get events i ≡ Some event →
    IsStep capacity book events i (step capacity (book_at capacity book events i) slots event)
stepped capacity book events i slots held (Account name) sound here =
    let same = same_names capacity book events i in
    let told = admission (book_at capacity book events i) slots name _ _ (same.among name) _ _ (ap (λ n. nat_lt n capacity) same.count) in
    moves capacity book events i slots held (Account name) here _ told.0 told.1 (rw told.2 (tickets_stay capacity book events i slots held (Account name) here (λ k. refl)))
stepped capacity book events i slots held (Load name stored) sound here =
    let told = loading (book_at capacity book events i) slots name stored _ _ ((same_names capacity book events i).among name) in
    moves capacity book events i slots held (Load name stored) here _ told.0 told.1 (rw told.2 (tickets_stay capacity book events i slots held (Load name stored) here (λ k. refl)))
stepped capacity book events i slots held (Show name) sound here =
    stays capacity book events i slots held (Show name) here _ refl refl (tickets_stay capacity book events i slots held (Show name) here (λ k. refl))
stepped capacity book events i slots held (Begin key request) sound here = begins capacity book events i slots held key sound.0 sound.1 request here
stepped capacity book events i slots held (Commit key) sound here = commits_all capacity book events i slots held key sound.0 sound.1 here
stepped capacity book events i slots held (Bad why) sound here =
    stays capacity book events i slots held (Bad why) here _ refl refl (tickets_stay capacity book events i slots held (Bad why) here (λ k. refl))

pub stepped_at : (capacity : ℕ) (book : Accounts) (events : List Event) (i : ℕ) (slots : List (Option Task)) → HoldTickets capacity book events i slots → (event : Event) → IsSound event → slice_get events i ≡ Some event →
    (accounts : Accounts) → accounts ≡ book_at capacity book events i → IsStep capacity book events i (step capacity accounts slots event)
stepped_at capacity book events i slots held event sound here accounts is = rw is (stepped capacity book events i slots held event sound here)
