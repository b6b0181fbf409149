-- The effect of a call that was passed on.
use Rattle.std.proofs.Common.{arith, ◌≡◌, Bool, false, [], sym, ap, ◌∙◌}
use Rattle.std.proofs.Math.Path.{ap₂}
use Rattle.std.specs.Prelude.{◌≢◌}
use Rattle.sqlite_trees.specs.View.{View, GoesBack, IsClean}
use Rattle.crash_laws.specs.Stops.{shown}

module _ (old mid new : View) (a b : Bool) (same : mid ≡ old) (before : a ≡ false) (after : b ≡ false) where
  pub goes_back : (IsClean new → mid.marks ≢ [] → GoesBack mid new) → IsClean new → old.marks ≢ [] → GoesBack (shown a old) (shown b new)
  goes_back h clean marked = grind (arith, h)

  pub stays : (IsClean new → mid.marks ≡ [] → new ≡ mid) → IsClean new → old.marks ≡ [] → shown b new ≡ shown a old
  stays h clean unmarked = ap₂ shown (after ∙ sym before) (h clean (ap (λ (v : View). v.marks) same ∙ unmarked) ∙ same)
