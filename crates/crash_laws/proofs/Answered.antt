-- The answers of a sound store.
use Rattle.std.proofs.Common.{◌≡◌, Bool, true, false, true≢false, sym, ◌∙◌, IsTrue, refl}
use Rattle.sqlite_trees.specs.View.{View}

open_by : (is_open is_broken : Bool) → (is_open ≡ false → IsTrue is_broken) → is_broken ≡ false → IsTrue is_open
open_by true is_broken law sound = refl
open_by false is_broken law sound = absurd (true≢false (sym (law refl) ∙ sound))

-- a store that isn't broken is open
pub open_if_sound : (v : View) → (v.is_open ≡ false → IsTrue v.is_broken) → v.is_broken ≡ false → IsTrue v.is_open
open_if_sound v = open_by v.is_open v.is_broken
