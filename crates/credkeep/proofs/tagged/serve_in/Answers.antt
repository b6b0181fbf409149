use Rattle.std.proofs.Common.{inl, refl}
use Rattle.credkeep.proofs.tagged.serve_in.Goals as goal

pub returns-in-Ok : goal.returns-in-Ok
returns-in-Ok g c =
    inl (record { opened = c.in-Ok.book; found = c.in-Ok.ensures.found; served = c.serve_named-served.result; stands = c.serve_named-served.ensures.served; all = c.serve_named-served.ensures.all; keeps = c.close.ensures.kept; closed = c.close.ensures.same; returned = refl; told = c.status_of_end.ensures })
