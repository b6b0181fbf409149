-- The numbers and the words of a desk's refusals.
use Rattle.std.specs.Prelude.{◌≡◌, ℕ, List, codes, Bool, true, false}
use Rattle.cred_desk.specs.declared.error.DeskError.{DeskError}
use Rattle.cred_desk.specs.declared.error.DeskError.TheVariants.{Memory, Sessions, Session, Reader, NoAccount, Older}

abbrev pub refusal_number : DeskError → ℕ
refusal_number Memory = 1
refusal_number Sessions = 2
refusal_number Session = 3
refusal_number Reader = 4
refusal_number NoAccount = 5
refusal_number Older = 6

abbrev pub refusal_word : DeskError → List ℕ
refusal_word Memory = codes "memory"
refusal_word Sessions = codes "sessions"
refusal_word Session = codes "session"
refusal_word Reader = codes "reader"
refusal_word NoAccount = codes "noaccount"
refusal_word Older = codes "older"

-- the reason why a call makes no desk or committer, by whether the number of sessions is in its
-- range
abbrev pub IsRefusedToMake : Bool → DeskError → Type 0
IsRefusedToMake fits Memory = fits ≡ true
IsRefusedToMake fits Sessions = fits ≡ false
IsRefusedToMake fits Session = ⊥
IsRefusedToMake fits Reader = fits ≡ true
IsRefusedToMake fits NoAccount = ⊥
IsRefusedToMake fits Older = ⊥
