-- The ranges of the numbers, and how long salts, tags, passwords and texts may be.
use Rattle.std.specs.Prelude.{ℕ, ◌*◌, ◌^◌, nat_le, nat_lt, Bool, true, false, ◌&&◌}
use Rattle.cred_argon.specs.declared.params.TheConstants.{MAX_LANES, MAX_MEMORY, MAX_PASSES}
use Rattle.cred_scrypt.specs.declared.params.TheConstants.{MAX_BLOCK_SIZE, MAX_BLOCKS, MAX_LN, MAX_ROWS}
pub use Rattle.cred_phc.specs.declared.setting.TheConstants.{MIN_ARGON2_SALT, MIN_SCRYPT_SALT, MAX_SALT}
pub use Rattle.cred_phc.specs.declared.record.TheConstants.{MIN_TAG, MAX_TAG}
pub use Rattle.cred_phc.specs.declared.password.TheConstants.{MAX_PASSWORD}
pub use Rattle.cred_phc.specs.declared.parse.TheConstants.{MAX_TEXT}
use Rattle.cred_argon.specs.declared.kind.Version.TheVariants.{V10, V13}
use Rattle.cred_phc.specs.{declared.setting.Scheme.Scheme, declared.setting.Scheme.TheVariants.Argon2, declared.setting.Scheme.TheVariants.Scrypt}

abbrev pub between : ℕ → ℕ → ℕ → Bool
between low high n = nat_le low n && nat_le n high

-- RFC 9106, section 3.1: lanes p, passes t, memory m in KiB, of which each lane has at least 8.
-- The RFC allows more than 255 lanes and 2 GiB, which are the most here.
abbrev pub argon_fits : ℕ → ℕ → ℕ → Bool
argon_fits m t p =
    between 1 MAX_LANES p && between 1 MAX_PASSES t && between (8 * p) MAX_MEMORY m

-- RFC 7914, section 2: the cost 2 ^ ln is above 1 and below 2 ^ (16 * r). The RFC allows greater r
-- and p, and more memory than 2 GiB (128 * r * 2 ^ ln bytes), which are the most here.
abbrev pub scrypt_fits : ℕ → ℕ → ℕ → Bool
scrypt_fits ln r p =
    between 1 MAX_LN ln && between 1 MAX_BLOCK_SIZE r && between 1 MAX_BLOCKS p
    && nat_lt ln (16 * r) && nat_le (r * 2 ^ ln) MAX_ROWS

abbrev pub scheme_fits : Scheme → Bool
scheme_fits (Argon2 version variant m t p) = argon_fits m t p
scheme_fits (Scrypt ln r p) = scrypt_fits ln r p

-- not of the version 0x10 of old records
abbrev pub is_current : Scheme → Bool
is_current (Argon2 V10 variant m t p) = false
is_current (Argon2 V13 variant m t p) = true
is_current (Scrypt ln r p) = true

-- the least length of the salt in bytes: RFC 9106, section 3.1 asks for 8
abbrev pub salt_low : Scheme → ℕ
salt_low (Argon2 version variant m t p) = MIN_ARGON2_SALT
salt_low (Scrypt ln r p) = MIN_SCRYPT_SALT
