-- The key that a function with all its numbers derives from a password and a salt.
use Rattle.std.specs.Prelude.{ℕ, List, []}
use Rattle.cred_argon.specs.Argon.{argon}
use Rattle.cred_scrypt.specs.Scrypt.{scrypt}
use Rattle.cred_phc.specs.{declared.hashing.Function.Function, declared.hashing.Function.TheVariants.Argon2, declared.hashing.Function.TheVariants.Scrypt}

-- Argon2 with no secret and no associated data (RFC 9106, section 3.1), or scrypt (RFC 7914,
-- section 6)
abbrev pub key : Function → List ℕ → List ℕ → List ℕ
key (Argon2 a) pw salt = argon a pw salt [] []
key (Scrypt a) pw salt = scrypt a.ln a.r a.p a.len pw salt

-- the number of bytes of the key
abbrev pub key_len : Function → ℕ
key_len (Argon2 a) = a.tag_len
key_len (Scrypt a) = a.len
