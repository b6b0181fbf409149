use Rattle.std.proofs.Common.{◌≡◌, ℕ, List, ◌++◌, ◌+◌, ◌-◌, ◌/◌, length}
use Rattle.cred_blake.specs.{Blake2b.key_block, Blake2b.initial_state, Hasher.Holds, Hasher.IsTaken}
use Rattle.cred_blake.proofs.hasher.Blake2b.update.Given as goal

abbrev pub invariant-whole : goal.invariant-whole
invariant-whole l = (l.self.out_len ≡ l.fn.self.out_len)
    × ((n : ℕ) (key m : List ℕ) → Holds n key l.fn.self m
    → let d = key_block key ++ m in
    IsTaken (initial_state n (length key)) (d ++ l.input) l.self.state ((length d - 1) / 128 + 1 + l.i))
