use Rattle.std.proofs.Common.{ap, sym, ◌∙◌}
use Rattle.cred_book.proofs.{Changes.committed_as_judged, Passwords.yes_at_copy, Passwords.yes_at_judgement}
use Rattle.cred_book.proofs.laws.yes_is_the_password.Goals as goal

pub returns : goal.returns
returns c = record {
  at_copy = yes_at_copy;
  at_commit = λ book name pw copy said. yes_at_judgement book name pw copy (sym (ap (λ answer. answer.0) (committed_as_judged book _)) ∙ said);
  at_judgement = yes_at_judgement;
}
