use Rattle.std.proofs.Common.{◌≡◌, true, ap, sym, ◌∙◌}
use Rattle.cred_book.specs.Commits.{judgement}
use Rattle.cred_desk.specs.Commits.{HavePasswords}
use Rattle.cred_desk.proofs.Changes.{entry_made}
use Rattle.cred_desk.proofs.change.judge.Goals as goal

pub returns-clause-made : goal.returns-clause-made
returns-clause-made c =
    let work = c.args.work.now in
    let held : HavePasswords work.0 = rw (← c.request-request.ensures) c.hold_passwords.ensures in
    let change : (judgement c.args.book.now work).2 ≡ true = ap (λ j. j.2) (sym c.judge-reply.ensures) ∙ c.if-not-change.false in
    rw (c.name-name.ensures, c.request-request.ensures, c.from-now.ensures, ap (λ j. j.1) c.judge-reply.ensures) (entry_made c.args.book.now work held change)
