-- The property that makes a closure a maker of tags.
use Rattle.std.specs.Prelude.{◌≡◌, ℕ, ◌≤◌, List, Result, IfOk}
use denote.Ref.{Bor}
use denote.Param.Members.{Shared}
use Rattle.cred_phc.specs.{declared.hashing.TagError.TagError, Tags.tag, Values.SettingValue}

-- the closure f may be called for a tag of 4 to 64 bytes, and gives the password's if any
pub record MakesTags {F : Type 0}
    (g : Shared F (Bor SettingValue × (ℕ × (Bor (List ℕ) × Unit {0}))) (Result (List ℕ) TagError))
    (f : F) : Type 0 where
  pub takes : (setting : Bor SettingValue) (len : ℕ) (pw : Bor (List ℕ)) → 4 ≤ len → len ≤ 64
      → g.pre f (setting, (len, (pw, tt)))
  pub makes : (setting : Bor SettingValue) (len : ℕ) (pw : Bor (List ℕ))
      (made : Result (List ℕ) TagError) → g.post f (setting, (len, (pw, tt))) made
      → IfOk made (λ found. found ≡ tag setting.now len pw.now)
