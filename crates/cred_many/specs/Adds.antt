-- What a call of a scribe adds to the lines that are answered, which keep their moments. Beside the
-- types J, K and W, a scribe's type has their ghost members, here j, k and w.
use Rattle.std.specs.Prelude.{ℕ, List}
use Rattle.std.specs.declared.io.traits.Write.{Ghosts as OfWriter}
use Rattle.cred_admin.specs.declared.host.Host.{Ghosts as OfKeeper}
use Rattle.cred_many.specs.{LineOperations.Entry, declared.scribe.Scribe.Scribe}
use Rattle.cred_many.specs.declared.service_id.ServiceId.{Ghosts as OfService}
use Rattle.cred_many.specs.Scribe.{AddsNone, AddsOne, AddsSome, IsCountedAt, IsNotSentAway, IsQuick, answered_by, passed_of}

-- whether a scribe has answered these lines at these moments
abbrev pub answered : {J K W : Type 0} {j : OfService J} {k : OfKeeper K} {w : OfWriter W}
    → Scribe J K W j k w → List Entry → List ℕ → Type 0
answered {j = j} {k = k} {w = w} scribe = answered_by k.capacity j.service k.book w.contents
    scribe.keeper scribe.output scribe.came scribe.tries

-- no line is answered
abbrev pub AddsNoLine : {J K W : Type 0} {j : OfService J} {k : OfKeeper K} {w : OfWriter W}
    → Scribe J K W j k w → Scribe J K W j k w → Type 0
AddsNoLine old new = AddsNone (answered old) (answered new)

-- at most one line is answered, and its answer is counted at this reading of the clock
abbrev pub AddsCounted : {J K W : Type 0} {j : OfService J} {k : OfKeeper K} {w : OfWriter W}
    → ℕ → Scribe J K W j k w → Scribe J K W j k w → Type 0
AddsCounted {k = k} now old new =
    AddsOne (IsCountedAt now old.tries new.tries (k.book old.keeper)) (passed_of new.tries)
    (answered old) (answered new)

-- at most one line is answered, which needs no hash, and tells of no try
abbrev pub AddsQuick : {J K W : Type 0} {j : OfService J} {k : OfKeeper K} {w : OfWriter W}
    → Scribe J K W j k w → Scribe J K W j k w → Type 0
AddsQuick old new = AddsOne IsQuick (passed_of new.tries) (answered old) (answered new)

-- any number of lines are answered, and none of them is sent away
abbrev pub AddsNotSentAway : {J K W : Type 0} {j : OfService J} {k : OfKeeper K} {w : OfWriter W}
    → Scribe J K W j k w → Scribe J K W j k w → Type 0
AddsNotSentAway old new = AddsSome IsNotSentAway (passed_of new.tries) (answered old) (answered new)
