use Rattle.std.proofs.Common.{ℕ, List, Option, Some}
use Rattle.cred_cli.specs.{Outcome.FrontWritten, Watched.Basis, Watched.Contract, Watched.Transcript, Watched.held_on, Watched.inner_of, Watched.taken_of, declared.watched.Watched.Watched}
use Rattle.cred_admin.proofs.printing.write_whole.Goals as goal

front_on : {W : Type 0} (contents : W → Option (List ℕ)) (old new : Watched W) (bytes : List ℕ) → FrontWritten (contents (inner_of old)) (contents (inner_of new)) bytes → FrontWritten (Some (taken_of old)) (Some (taken_of new)) bytes
    → (basis : Basis) → FrontWritten (held_on basis contents old) (held_on basis contents new) bytes
front_on contents old new bytes named taken Contract = named
front_on contents old new bytes named taken (Transcript all) = taken

pub returns-in-Err-clause-cut : goal.returns-in-Err-clause-cut
returns-in-Err-clause-cut g c = front_on g.W.Write.contents c.args.writer.now c.write_whole.new.writer _ c.in-Err.ensures.fails.2 c.in-Err.ensures.taken_in_part.2
