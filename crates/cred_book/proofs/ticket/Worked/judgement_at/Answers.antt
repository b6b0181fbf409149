use Rattle.std.proofs.Common.{sym}
use Rattle.cred_book.proofs.Commitments.{judges_changed, judges_whole}
use Rattle.cred_book.proofs.ticket.Worked.judgement_at.Goals as goal

pub returns-then-not-is_same : goal.returns-then-not-is_same
returns-then-not-is_same c = judges_changed c.args.self.now c.args.now (sym (rw c.copy.ensures at c.if-not-is_same.ensures))

pub returns : goal.returns
returns c =
    judges_whole c.args.self.now c.args.now (sym (rw c.copy.ensures at c.if-not-is_same.ensures)) _ _ c.reply-reply.ensures c.after.ensures _ c.makes_change.ensures
