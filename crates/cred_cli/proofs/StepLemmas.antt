-- The effects of a begin and of a commit, step by step.
use Rattle.std.proofs.{Common.◌≡◌, Common.ℕ, Common.◌-◌, Common.List, Common.Option, Common.Some, Common.None, Common.Ok, Common.true, Common.false, Common.is_some, Common.set, Common.refl, Common.sym, Common.ap, Common.◌∙◌, lemmas.List.set-get_or}
use Rattle.cred_phc.specs.Values.{RecordValue}
use Rattle.cred_book.specs.{Accounts.Accounts, Commits.Begins, Commits.Commits, Commits.commit_outcome, Works.Task, Works.name_of, declared.request.Reply.Reply, declared.request.Request.Request}
use Rattle.cred_cli.specs.{Answers.IsDone, Answers.line_bytes, History.Answer, History.Begun, History.Refused, Texts.line_of, Texts.reply_line, declared.answer.AnswerLine.AnswerLine}
use Rattle.cred_cli.specs.{Steps.Step, Steps.stay, Steps.slot, Steps.begin_step, Steps.begin_step_at, Steps.commit_step, Steps.reply_answer, declared.refusal.Refusal.TheVariants.Book, declared.refusal.Refusal.TheVariants.Busy, declared.refusal.Refusal.TheVariants.Idle}
use Rattle.cred_book.proofs.Rows.{no_some}
use Rattle.cred_cli.proofs.Simulation.{begun-at, committing-at}
use Rattle.std.specs.FinMap as map
use Rattle.cred_book.specs.declared.error.BookError.TheVariants as error
use Rattle.cred_book.specs.declared.request.Reply.TheVariants as reply

-- an answer that leaves all as it is
pub stays_done : (line : AnswerLine) (step : Step) (answer : Answer) (book : Accounts) (slots : List (Option Task)) → step ≡ stay answer book slots →
    line_bytes line ≡ line_of answer → IsDone step book slots line
stays_done line step answer book slots is said = rw is (said, refl, refl)

opened : (task : Option Task) → is_some task ≡ true → (book : Accounts) (slots : List (Option Task)) (key : ℕ) (request : Request) (entry : Option (Option RecordValue)) →
    begin_step_at book slots key request task entry ≡ stay (Refused Busy) book slots
opened None busy book slots key request entry = cc
opened (Some task) busy book slots key request entry = refl

pub begun_busy : (book : Accounts) (slots : List (Option Task)) (key : ℕ) (request : Request) → is_some (slot slots key) ≡ true → begin_step book slots key request ≡ stay (Refused Busy) book slots
begun_busy book slots key request busy = begun-at book slots key request (slot slots key) _ refl refl ∙ opened (slot slots key) busy book slots key request _

pub begun_absent : (book : Accounts) (slots : List (Option Task)) (key : ℕ) (request : Request) → is_some (slot slots key) ≡ false → map.get book (name_of request) ≡ None →
    begin_step book slots key request ≡ stay (Refused (Book error.NoAccount)) book slots
begun_absent book slots key request free found = begun-at book slots key request None None (no_some _ free) found

pub begun_fresh : (book : Accounts) (slots : List (Option Task)) (key : ℕ) (request : Request) (ticket : Task) → is_some (slot slots key) ≡ false → Begins book request (Ok ticket) →
    begin_step book slots key request ≡ record { answer = Begun; book = book; slots = set slots (key - 1) (Some ticket) }
begun_fresh book slots key request ticket free begins =
    begun-at book slots key request None (Some ticket.1) (no_some _ free) begins.1 ∙ ap (λ r. record { answer = Begun; book = book; slots = set slots (key - 1) (Some (r, ticket.1)) }) (sym begins.0)

-- ---- commits

pub commits_idle : (book : Accounts) (slots left : List (Option Task)) (key : ℕ) → None ≡ slot slots key → left ≡ set slots (key - 1) None → commit_step book slots key ≡ stay (Refused Idle) book left
commits_idle book slots left key none closed =
    committing-at book slots key None (sym none) ∙ ap (stay (Refused Idle) book) (sym (ap (set slots (key - 1)) none ∙ set-get_or slots (key - 1) None) ∙ sym closed)

pub commits_done : (old new : Accounts) (slots left : List (Option Task)) (key : ℕ) (task work : Task) (reply : Reply) → Some task ≡ slot slots key → left ≡ set slots (key - 1) None → work ≡ task →
    Commits old new work (Ok reply) → commit_step old slots key ≡ record { answer = reply_answer reply; book = new; slots = left }
commits_done old new slots left key task work reply some closed is commits =
    let done : commit_outcome old task ≡ (reply, new) = ap (commit_outcome old) (sym is) ∙ sym commits in
    committing-at old slots key (Some task) (sym some) ∙ ap (λ c. record { answer = reply_answer c.0; book = c.1; slots = set slots (key - 1) None }) done ∙ ap (λ s. record { answer = reply_answer reply; book = new; slots = s }) (sym closed)

-- a reply's line is that of its answer
pub line_of_reply : (r : Reply) → reply_line r ≡ line_of (reply_answer r)
line_of_reply (reply.Changed now) = refl
line_of_reply other = refl
