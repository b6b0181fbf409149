-- The message that a hasher holds. A hasher's fields do not determine it, so this is a relation.
use Rattle.std.specs.Prelude.{◌≡◌, ℕ, ◌-◌, ◌*◌, ◌/◌, ◌%◌, ◌^◌, List, ◌++◌, length, drop}
use Rattle.cred_blake.specs.{Blake2b.key_block, Blake2b.initial_state, Blake2b.state_after, declared.hasher.Blake2b.Blake2b, declared.state.State.State}

-- begun from h0, the state s has taken in the first i blocks of the bytes d
abbrev pub IsTaken : List ℕ → List ℕ → State → ℕ → Type 0
IsTaken h0 d s i = (s.h ≡ state_after h0 d i) × (s.counter ≡ 128 * i % 2 ^ 128)

-- begun from h0, the state s has taken in all blocks of the bytes d but the last, which is b
abbrev pub IsFed : List ℕ → List ℕ → State → List ℕ → Type 0
IsFed h0 d s b =
    let blocks = (length d - 1) / 128 in
    IsTaken h0 d s blocks × (b ≡ drop (128 * blocks) d)

-- the hasher, made for a digest of n bytes under this key, holds the message m
unfoldable pub Holds : ℕ → List ℕ → Blake2b → List ℕ → Type 0
Holds n key hasher m =
    (hasher.out_len ≡ n)
    × IsFed (initial_state n (length key)) (key_block key ++ m) hasher.state hasher.buffer
