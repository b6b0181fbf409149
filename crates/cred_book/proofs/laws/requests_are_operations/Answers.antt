use Rattle.cred_book.proofs.{Updating.committed, Updating.request_whole}
use Rattle.cred_book.proofs.laws.requests_are_operations.Goals as goal

pub returns-clause-whole : goal.returns-clause-whole
returns-clause-whole c = request_whole

pub returns-clause-commit : goal.returns-clause-commit
returns-clause-commit c = committed
