-- A share of the memory that covers a job covers each of its hashes.
use Rattle.std.proofs.Common.{◌≡◌, ℕ, ◌≤◌, Some, None}
use Rattle.std.proofs.Math.Nat.{le-max_left, le-max_right, le_trans}
use Rattle.cred_phc.specs.declared.setting.Scheme.{Scheme}
use Rattle.cred_book.specs.Works.{Task}
use Rattle.cred_cli.specs.Costs.{memory_alone}
use Rattle.cred_many.specs.Costs.{Covers, job_memory, made_memory}

-- also the hash without a record to compare with, and the hash for the record that would replace it
pub covered : (costs : Scheme) (kib : ℕ) (task : Task) → job_memory costs task ≤ kib
    → Covers kib task × (task.1 ≡ None → memory_alone costs ≤ kib) × (made_memory task.0 ≤ kib)
covered costs kib (request, None) within =
    let made = le_trans (le-max_right (memory_alone costs) (made_memory request)) within in
    (made, (λ _. le_trans (le-max_left (memory_alone costs) (made_memory request)) within), made)
covered costs kib (request, Some stored) within =
    let compared = memory_alone stored.setting.scheme in
    let made = le_trans (le-max_right compared (made_memory request)) within in
    ((le_trans (le-max_left compared (made_memory request)) within, made), (λ none. absurd cc), made)
