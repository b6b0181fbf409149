-- Memory that is kept from tag to tag.
use Rattle.std.specs.Prelude.{◌≡◌, ℕ}
use Rattle.cred_phc.specs.{declared.scratch.Memory.Memory, declared.scratch.Memory.TheVariants.Argon2, declared.scratch.Memory.TheVariants.Scrypt}

-- it keeps at most so many KiB, by its function's own bound
abbrev pub KeepsAtMost : ℕ → Memory → Type 0
KeepsAtMost most (Argon2 scratch) = scratch ≡ most
KeepsAtMost most (Scrypt scratch) = scratch ≡ most
