-- The answer of a call for a tag.
use Rattle.std.specs.Prelude.{◌≡◌, ℕ, ◌^◌, ◌≤◌, ◌↔◌, ◌⊎◌, List, length, Vec, Result, Err, IfOk, IfErr}
use Rattle.cred_argon.specs.{Parameters.Parameters, Argon.argon, declared.error.ArgonError.ArgonError}
use Rattle.cred_argon.specs.declared.error.ArgonError.TheVariants.{InputLen, Memory}

-- the length of an input is written in 32 bits
abbrev pub IsAnyTooLong : List ℕ → List ℕ → List ℕ → List ℕ → Type 0
IsAnyTooLong pw salt secret assoc =
    (2 ^ 32 ≤ length pw) ⊎ (2 ^ 32 ≤ length salt)
    ⊎ (2 ^ 32 ≤ length secret) ⊎ (2 ^ 32 ≤ length assoc)

-- the tag of the inputs, or `InputLen` just if one of them is too long, or `Memory`
pub record Hashes {A : Type 0} (a : Parameters) (pw salt secret assoc : List ℕ)
    (result : Result (Vec ℕ A) ArgonError) : Type 0 where
  pub ok : IfOk result (λ tag. tag.items ≡ argon a pw salt secret assoc)
  pub size : IfOk result (λ tag. length tag.items ≡ a.tag_len)
  pub input_len : (result ≡ Err InputLen) ↔ IsAnyTooLong pw salt secret assoc
  pub err : IfErr result (λ e. (e ≡ InputLen) ⊎ (e ≡ Memory))
