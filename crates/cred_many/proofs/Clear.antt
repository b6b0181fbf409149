-- Changes at names where nothing is counted.
use Rattle.std.proofs.Common.{◌≡◌, ℕ, Bool, true, false, List, [], ◌∷◌, ◌++◌, Option, Some, None, IfSome, sym, ap, ◌∙◌}
use Rattle.cred_phc.specs.Values.{RecordValue}
use Rattle.cred_book.specs.{Accounts.Accounts, Commits.judgement, Commits.judgement_at, Commits.judgement_if, Works.Task, Works.makes_change, Works.name_of, Works.same, Works.whole, declared.request.Reply.Reply}
use Rattle.cred_book.specs.declared.request.Request.TheVariants.{Enrol, Verify, Change, Upgrade, Remove}
use Rattle.cred_book.specs.declared.request.Reply.TheVariants as reply
use Rattle.cred_book.specs.declared.request.Request.TheVariants as request
use Rattle.cred_admin.specs.{Marked.MarkedBook, Marked.tried, declared.verdict.Verdict.TheVariants.Told}
use Rattle.cred_tries.specs.{Answers.IsSettled, Limits.Limits}
use Rattle.cred_many.proofs.Limiting.{still_clear}
use Rattle.cred_many.specs.{LineOperations.Entry, LineOperations.hashed_for, LineOperations.is_reset, declared.line_operation.LineOperation.LineOperation}
use Rattle.cred_many.specs.declared.line_operation.LineOperation.TheVariants.{Quick, Whole, Login, Reset, Forgive, Later}
use Rattle.cred_many.specs.{Scribe.AreCounted, Scribe.IsCounted, Scribe.is_clear, Served.book_after, Served.done, Tries.effect_by, Tries.is_try_request}
use Rattle.cred_many.specs.declared.tries.Effect.TheVariants as effect

-- ---- one line more

pub are_counted_push : (capacity : ℕ) (limits : Option Limits) (book : MarkedBook) (list : List Entry) (e : Entry) → AreCounted capacity limits book list
    → IsCounted limits limits (book_after capacity book list) e.operation → AreCounted capacity limits book (list ++ e ∷ [])
unfolding book_after
are_counted_push capacity limits book [] e are is = (is, tt)
are_counted_push capacity limits book (x ∷ xs) e are is = (are.0, are_counted_push capacity limits (done capacity book x.operation).1 xs e are.1 is)

-- ---- a change that is judged

-- it isn't a wrong password
no_wrong : (b : Bool) (found : Reply) → makes_change found ≡ true → effect_by b (Told found) ≡ effect.Wrong → ⊥
no_wrong true reply.Enrolled change is = cc
no_wrong true reply.Replaced change is = cc
no_wrong true reply.Upgraded change is = cc
no_wrong true reply.Removed change is = cc
no_wrong false reply.Enrolled change is = cc
no_wrong false reply.Replaced change is = cc
no_wrong false reply.Upgraded change is = cc
no_wrong false reply.Removed change is = cc
no_wrong _ _ change is = absurd cc

change_if : (work : Task) (now : Option RecordValue) (b : Bool) (found : Reply) (stored : Option RecordValue) → judgement_if work now b ≡ (found, stored, true) → makes_change found ≡ true
change_if work now true found stored is =
    let reply_is : (whole work.0 now).0 ≡ found = ap (λ (j : Reply × Option RecordValue × Bool). j.0) is in
    ap makes_change (sym reply_is) ∙ ap (λ (j : Reply × Option RecordValue × Bool). j.2) is
change_if work now false found stored is = let not : false ≡ true = ap (λ (j : Reply × Option RecordValue × Bool). j.2) is in absurd cc

change_at : (work : Task) (o : Option (Option RecordValue)) (found : Reply) (stored : Option RecordValue) → judgement_at work o ≡ (found, stored, true) → makes_change found ≡ true
change_at work None found stored is = let not : false ≡ true = ap (λ (j : Reply × Option RecordValue × Bool). j.2) is in absurd cc
change_at work (Some now) found stored is = change_if work now (same now work.1) found stored is

pub change_counted : (limits : Option Limits) (here : MarkedBook) (operation : LineOperation) (work : Task) (found : Reply) (stored : Option RecordValue) → IfSome limits IsSettled → hashed_for operation ≡ Some work.0 → is_reset operation ≡ false → (tried here work.0).0 ≡ Told found
    → (book : Accounts) → judgement book work ≡ (found, stored, true) → is_clear limits (name_of work.0) ≡ true → IsCounted limits limits here operation
unfolding judgement
change_counted limits here (Whole q) work found stored settled job kept told book is clear =
    let same : work.0 ≡ q = cc in
    let verdict : (tried here q).0 ≡ Told found = ap (λ r. (tried here r).0) (sym same) ∙ told in
    still_clear limits (name_of q) settled (ap (λ r. is_clear limits (name_of r)) (sym same) ∙ clear) (effect_by (is_try_request q) (tried here q).0)
    (λ wrong. no_wrong (is_try_request q) found (change_at work _ found stored is) (ap (effect_by (is_try_request q)) (sym verdict) ∙ wrong))
change_counted limits here (Login name pw setting) work found stored settled job kept told book is clear =
    let same : work.0 ≡ request.Upgrade name pw setting = cc in
    let verdict : (tried here (request.Upgrade name pw setting)).0 ≡ Told found = ap (λ r. (tried here r).0) (sym same) ∙ told in
    still_clear limits name settled (ap (λ r. is_clear limits (name_of r)) (sym same) ∙ clear) (effect_by true (tried here (request.Upgrade name pw setting)).0)
    (λ wrong. no_wrong true found (change_at work _ found stored is) (ap (effect_by true) (sym verdict) ∙ wrong))
change_counted limits here (Reset name pw setting) work found stored settled job kept told book is clear = absurd cc
change_counted limits here (Quick operation) work found stored settled job kept told book is clear = absurd cc
change_counted limits here (Forgive name) work found stored settled job kept told book is clear = absurd cc
change_counted limits here (Later name seconds) work found stored settled job kept told book is clear = absurd cc
