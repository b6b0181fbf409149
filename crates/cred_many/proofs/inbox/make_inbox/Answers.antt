use Rattle.std.proofs.Common.{rules}
use Rattle.cred_many.proofs.Inboxes.{begins, parts, spares}
use Rattle.cred_many.proofs.inbox.make_inbox.Goals as goal

pub bounded_with-requires-clause-rule : goal.bounded_with-requires-clause-rule
bounded_with-requires-clause-rule g c = begins

pub another-theirs-requires-clause-rule : goal.another-theirs-requires-clause-rule
another-theirs-requires-clause-rule g c = parts _ _ (search rules) (search rules)

pub another-spare-requires-clause-rule : goal.another-spare-requires-clause-rule
another-spare-requires-clause-rule g c = spares _ _
