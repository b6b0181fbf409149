-- The ranges of scrypt's numbers.
use Rattle.std.specs.Prelude.{◌≡◌, ℕ, ◌*◌, ◌^◌, ◌<◌, ◌≤◌, ◌⊎◌}
use Rattle.cred_scrypt.specs.declared.params.TheConstants.{MAX_LN, MAX_ROWS, MIN_LEN, MAX_LEN}

-- ln is outside 1..=24; or N = 2 ^ ln is not below 2 ^ (16r), as RFC 7914, section 6, wants it; or
-- ROMix's table, of 128r bytes for each of N rows, is over 2 GiB
abbrev pub IsCostly : ℕ → ℕ → Type 0
IsCostly ln r = (ln ≡ 0) ⊎ (MAX_LN < ln) ⊎ (16 * r ≤ ln) ⊎ (MAX_ROWS < r * 2 ^ ln)

-- a key has 4 to 64 bytes
abbrev pub IsBadLen : ℕ → Type 0
IsBadLen len = (len < MIN_LEN) ⊎ (MAX_LEN < len)
