use Rattle.std.proofs.Common.{ap, subst, refl}
use mathlib.Core.List.{IsPrefix}
use Rattle.grow_log.specs.Links.{entries_of}
use Rattle.grow_log.proofs.{Links.entries_prefix, Prefixes.prefix_told}
use Rattle.grow_log.proofs.beginning.Beginning.begins.Goals as goal

pub returns-clause-which : goal.returns-clause-which
returns-clause-which g c =
    let both = c.learn.new.self.log in
    let mine = c.self.inside.seen.log in
    let others = c.other.inside.seen.log in
    let this : IsPrefix mine both = subst (λ l. IsPrefix l both) (ap (λ s. s.log) c.again-both.ensures) c.learn.ensures.2 in
    rw (← c.self.view_is, ← c.other.view_is, c.self.invariant.0, c.other.invariant.0) (prefix_told (entries_of mine) (entries_of others) (entries_of both) (entries_prefix mine both this) (entries_prefix others both c.learn.ensures.3) _ refl)
