-- The memory while it is filled, with so many segments of each lane worked.
use Rattle.std.proofs.Common.{◌≡◌, ℕ, List}
use Rattle.cred_argon.specs.{declared.memory.Memory.Memory, Slices.IsMemory, Slices.MemoryHolds}

pub record IsFilled (start now : Memory) (passes g : ℕ) : Type 0 where
  pub params : now.shared.turn.params ≡ start.shared.turn.params
  pub passes_are : passes ≡ start.shared.turn.params.passes
  pub shape : IsMemory g now
  pub holds : (h : List ℕ) → MemoryHolds h 0 start → MemoryHolds h g now
