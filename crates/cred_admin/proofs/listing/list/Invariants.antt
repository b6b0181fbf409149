use Rattle.std.specs.FinMap as map
use Rattle.cred_admin.specs.Listing.{marked_line}
use Rattle.cred_cli.specs.Watched.{Basis, held_on}
use Rattle.cred_admin.proofs.Printed.{Goes}
use Rattle.cred_admin.proofs.listing.list.Given as goal

abbrev pub invariant-loop-name : goal.invariant-loop-name
invariant-loop-name g l =
    (basis : Basis) → Goes (marked_line l.fn.line (g.K.Host.book l.fn.keeper)) (map.entries (g.K.Host.book l.fn.keeper).accounts) l.name-iterator (held_on basis g.W.Write.contents l.fn.writer) (held_on basis g.W.Write.contents l.writer) l.text.items
