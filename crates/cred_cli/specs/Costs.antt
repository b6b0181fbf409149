-- The memory and the work of hashes, and the settings and requests that need more than the bounds
-- allow.
use Rattle.std.specs.Prelude.{ℕ, ◌+◌, ◌*◌, ◌/◌, ◌^◌, Bool, false, ◌||◌, nat_lt, Option, Some, None}
use Rattle.cred_phc.specs.{declared.setting.Scheme.Scheme, declared.setting.Scheme.TheVariants.Argon2, declared.setting.Scheme.TheVariants.Scrypt}
use Rattle.cred_book.specs.declared.request.Request.{Request}
use Rattle.cred_book.specs.declared.request.Request.TheVariants.{Enrol, Verify, Change, Upgrade, Remove}
use Rattle.cred_cli.specs.declared.costs.CostBounds.{CostBounds}

-- the KiB of so many tables of scrypt's, rounded up: each has 128 r 2^ln bytes (RFC 7914, section
-- 5)
abbrev pub tables_kib : ℕ → ℕ → ℕ → ℕ
tables_kib tables ln r = (tables * (r * 2 ^ ln) + 7) / 8

-- The KiB of a hash with as many threads as can work at it. For Argon2 this is m (RFC 9106, section
-- 3.1), whatever the number of threads. For scrypt it is a table for each of the p pieces.
abbrev pub memory_of : Scheme → ℕ
memory_of (Argon2 version variant m t p) = m
memory_of (Scrypt ln r p) = tables_kib p ln r

-- the KiB of a hash with one thread, which mixes the pieces in turn
abbrev pub memory_alone : Scheme → ℕ
memory_alone (Argon2 version variant m t p) = m
memory_alone (Scrypt ln r p) = tables_kib 1 ln r

-- The KiB over which a hash passes, with each KiB counted at every pass. Argon2 passes over m in
-- each of its t passes (RFC 9106, section 3.2). scrypt passes over its tables twice, when it fills
-- them and when it mixes them (RFC 7914, section 5, steps 2 and 3).
abbrev pub work_of : Scheme → ℕ
work_of (Argon2 version variant m t p) = m * t
work_of (Scrypt ln r p) = 2 * tables_kib p ln r

-- ---- within bounds

abbrev pub no_bounds : CostBounds
no_bounds = record { memory = None; work = None }

abbrev pub is_above : Option ℕ → ℕ → Bool
is_above None cost = false
is_above (Some most) cost = nat_lt most cost

-- a hash with this scheme needs more memory or more work than these bounds allow
abbrev pub exceeds : CostBounds → Scheme → Bool
exceeds most scheme = is_above most.memory (memory_of scheme) || is_above most.work (work_of scheme)

-- the setting of the record that the request would make needs more than these bounds allow
abbrev pub request_exceeds : CostBounds → Request → Bool
request_exceeds most (Enrol name pw setting) = exceeds most setting.scheme
request_exceeds most (Change name pw new setting) = exceeds most setting.scheme
request_exceeds most (Upgrade name pw setting) = exceeds most setting.scheme
request_exceeds most (Verify name pw) = false
request_exceeds most (Remove name pw) = false
