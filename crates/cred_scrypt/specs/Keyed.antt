-- The states of the two hashers of a key's HMAC. No public contract speaks of it.
use Rattle.std.specs.Prelude.{List, ℕ}
use Rattle.sha2.specs.Hashers.{Holds256}
use Rattle.cred_scrypt.specs.{declared.hmac.Hmac.Hmac, Hmac.inner_pad, Hmac.outer_pad}

-- the hashers hold the key under the inner and the outer padding
abbrev pub IsKeyed : List ℕ → Hmac → Type 0
IsKeyed key mac = Holds256 mac.inner (inner_pad key) × Holds256 mac.outer (outer_pad key)
