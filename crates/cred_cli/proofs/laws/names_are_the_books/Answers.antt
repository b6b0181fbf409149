use Rattle.cred_cli.proofs.Names.{same_names}
use Rattle.cred_cli.proofs.laws.names_are_the_books.Goals as goal

pub returns-clause-among : goal.returns-clause-among
returns-clause-among c = λ capacity book events i name. (same_names capacity book events i).among name
