-- A store that stops keeps the laws of a store.
use Rattle.std.specs.Prelude.{◌≡◌, Bool, true, false, IsTrue, refl}
use Rattle.std.proofs.Common.{true≢false, sym}
use Rattle.sqlite_trees.specs.View.{View}
use Rattle.crash_laws.specs.Stops.{shown}

pub is_sound : (b : Bool) (v : View) → (shown b v).is_broken ≡ false → v.is_broken ≡ false
is_sound true v broken = absurd (true≢false broken)
is_sound false v sound = sound

pub was_open : (b : Bool) (v : View) → IsTrue (shown b v).is_open → IsTrue v.is_open
was_open true v is_open = absurd (true≢false (sym is_open))
was_open false v is_open = is_open

pub shuts : (b : Bool) (v : View) → v.is_open ≡ false → (shown b v).is_open ≡ false
shuts true v shut = refl
shuts false v shut = shut

pub breaks : (b : Bool) (v : View) → (v.is_open ≡ false → IsTrue v.is_broken)
    → (shown b v).is_open ≡ false → IsTrue (shown b v).is_broken
breaks true v law shut = refl
breaks false v law shut = law shut
