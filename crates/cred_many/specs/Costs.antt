-- The costs of new records, and the memory that hashes take.
use Rattle.std.specs.Prelude.{◌≡◌, ℕ, ◌≤◌, IsTrue, Option, Some, None, max, true}
use Rattle.cred_phc.specs.{Ranges.is_current, Ranges.scheme_fits, Values.RecordValue, declared.setting.Scheme.Scheme}
use Rattle.cred_book.specs.{Works.Task, declared.request.Request.Request}
use Rattle.cred_book.specs.declared.request.Request.TheVariants.{Enrol, Verify, Change, Upgrade, Remove}
use Rattle.cred_cli.specs.Costs.{memory_alone}

-- the numbers of the scheme are in their ranges, and its version isn't that of old records
pub record IsForNew (scheme : Scheme) : Type 0 where
  pub fits : IsTrue (scheme_fits scheme)
  pub current : is_current scheme ≡ true

-- ---- how many KiB one thread takes

-- the KiB of the hash for the record that a request may put
abbrev pub made_memory : Request → ℕ
made_memory (Enrol name pw setting) = memory_alone setting.scheme
made_memory (Change name pw new setting) = memory_alone setting.scheme
made_memory (Upgrade name pw setting) = memory_alone setting.scheme
made_memory (Verify name pw) = 0
made_memory (Remove name pw) = 0

-- the KiB of comparing a password with the copied record, or of a hash with the costs of new
-- records if none was copied
abbrev pub compared_memory : Scheme → Option RecordValue → ℕ
compared_memory costs (Some stored) = memory_alone stored.setting.scheme
compared_memory costs None = memory_alone costs

-- the KiB of both hashes, one after the other
abbrev pub job_memory : Scheme → Task → ℕ
job_memory costs task = max (compared_memory costs task.1) (made_memory task.0)

-- so many KiB are enough for each hash of this task, of which a first record has one
abbrev pub Covers : ℕ → Task → Type 0
Covers kib (request, None) = made_memory request ≤ kib
Covers kib (request, Some stored) =
    (memory_alone stored.setting.scheme ≤ kib) × (made_memory request ≤ kib)
