-- A hasher and the message that it is fed.
use Rattle.std.proofs.Common.{◌≡◌, ℕ, ◌+◌, ◌-◌, ◌*◌, ◌/◌, ◌%◌, ◌^◌, ◌<◌, ◌≤◌, true, false, List, [], ◌∷◌, ◌++◌, length, take, drop, replicate, refl, ap, sym, ◌∙◌, arith, add-zero, length-append, length-drop}
use Rattle.std.proofs.Math.Seq.{take-append-add, drop-append-add}
use Rattle.std.proofs.lemmas.List.{append-nil, drop-append-le, drop-drop, length-replicate}
use Rattle.cred_blake.specs.Blake2b.{compress, padded_block, key_block, state_after, block_count}
use Rattle.cred_blake.specs.{Hasher.IsTaken, Hasher.IsFed, declared.state.State.State}
use Rattle.cred_blake.proofs.Blocks.{state_after_none, state_after_inner, state_after_last, state_after_append}

-- ---- a new hasher

pub key_block_none : (key : List ℕ) → length key ≤ 0 → [] ≡ key_block key
unfolding key_block
key_block_none [] none = refl
key_block_none (k ∷ ks) none = absurd (omega arith)

pub key_block_some : (key : List ℕ) → 0 < length key → padded_block key ≡ key_block key
unfolding key_block
key_block_some [] some = absurd (omega arith)
key_block_some (k ∷ ks) some = refl

pub length-key_block : (key : List ℕ) → length key ≤ 128 → length (key_block key) ≤ 128
unfolding key_block
length-key_block [] short = omega arith
length-key_block (k ∷ ks) short =
    let zeros : ℕ = 128 - length (k ∷ ks) in
    omega (arith, length-append (k ∷ ks) (replicate zeros 0), length-replicate {A = ℕ} zeros 0)

-- no block is absorbed, and the last is the key's, or empty
pub Fed_new : (h0 key : List ℕ) (s : State) (b : List ℕ) → s.h ≡ h0 → s.counter ≡ 0 → b ≡ key_block key → length key ≤ 128
    → IsFed h0 (key_block key ++ []) s b
Fed_new h0 key s b state none buffer short =
    let d : List ℕ = key_block key ++ [] in
    let all : d ≡ key_block key = append-nil (key_block key) in
    let first : (length d - 1) / 128 ≡ 0 = omega (arith, ap length all, length-key_block key short) in
    ((rw first (state ∙ sym (state_after_none h0 d)), rw first none), rw first (buffer ∙ sym all))

-- ---- bytes that fit the last block

-- the number of bytes of the last block
pub length-last : (h0 d b : List ℕ) (s : State) → IsFed h0 d s b → length b ≡ length d - 128 * ((length d - 1) / 128)
length-last h0 d b s fed = ap length fed.1 ∙ length-drop (128 * ((length d - 1) / 128)) d

pub Fed_short : (h0 d b x : List ℕ) (s : State) → IsFed h0 d s b → length b + length x ≤ 128 → IsFed h0 (d ++ x) s (b ++ x)
Fed_short h0 d b x s fed fits =
    let blocks : ℕ = (length d - 1) / 128 in
    let same : (length (d ++ x) - 1) / 128 ≡ blocks = omega (arith, length-append d x, length-last h0 d b s fed) in (
      (rw same (fed.0.0 ∙ sym (state_after_append h0 d x blocks (omega arith))), rw same fed.0.1),
      rw same (ap (λ (y : List ℕ). y ++ x) fed.1 ∙ sym (drop-append-le (128 * blocks) d x (omega arith))),
    )

-- ---- bytes that go past the last block

-- one block more
pub Taken_next : (h0 d y : List ℕ) (s next : State) (i : ℕ) → IsTaken h0 d s i → 128 * (i + 1) < length d
    → y ≡ take 128 (drop (128 * i) d) → next.h ≡ compress s.h y next.counter false → next.counter ≡ (s.counter + 128) % 2 ^ 128
    → IsTaken h0 d next (i + 1)
Taken_next h0 d y s next i taken more block state count =
    let counts : next.counter ≡ 128 * (i + 1) % 2 ^ 128 = omega (arith, taken.1) in
    (state ∙ rw (counts, taken.0, block) (sym (state_after_inner h0 d i more)), counts)

-- the last block so far, and the input x after it
pub Fed_drop : (h0 d b x : List ℕ) (s : State) → IsFed h0 d s b → drop (128 * ((length d - 1) / 128)) (d ++ x) ≡ b ++ x
Fed_drop h0 d b x s fed =
    drop-append-le (128 * ((length d - 1) / 128)) d x (omega arith) ∙ ap (λ (y : List ℕ). y ++ x) (sym fed.1)

-- the input after the block that it fills
pub Fed_rest : (h0 d b x : List ℕ) (s : State) (room : ℕ) → IsFed h0 d s b → length b + room ≡ 128
    → drop room x ≡ drop (128 * ((length d - 1) / 128 + 1)) (d ++ x)
Fed_rest h0 d b x s room fed fills =
    let blocks : ℕ = (length d - 1) / 128 in
    let at : 128 * (blocks + 1) ≡ 128 * blocks + 128 = omega arith in
    sym (rw (at, ← drop-drop 128 (128 * blocks) (d ++ x), Fed_drop h0 d b x s fed, ← fills) (drop-append-add b x room))

-- the number of those bytes
pub length-rest : (h0 d b x : List ℕ) (s : State) (room : ℕ) → IsFed h0 d s b → length b + room ≡ 128
    → length x - room ≡ length (d ++ x) - 128 * ((length d - 1) / 128 + 1)
length-rest h0 d b x s room fed fills =
    sym (length-drop room x) ∙ ap length (Fed_rest h0 d b x s room fed fills) ∙ length-drop (128 * ((length d - 1) / 128 + 1)) (d ++ x)

-- the bytes of those from block i of them on
pub drop-rest : (h0 d b x : List ℕ) (s : State) (room i : ℕ) → IsFed h0 d s b → length b + room ≡ 128
    → drop (128 * i) (drop room x) ≡ drop (128 * ((length d - 1) / 128 + 1 + i)) (d ++ x)
drop-rest h0 d b x s room i fed fills =
    let first : ℕ = (length d - 1) / 128 + 1 in
    let sum : 128 * first + 128 * i ≡ 128 * (first + i) = omega arith in
    rw (Fed_rest h0 d b x s room fed fills) (drop-drop (128 * i) (128 * first) (d ++ x) ∙ ap (λ (k : ℕ). drop k (d ++ x)) sum)

-- the block y that the input x fills is absorbed
pub Taken_filled : (h0 d b x y : List ℕ) (s next : State) (room : ℕ) → IsFed h0 d s b → length b + room ≡ 128 → room < length x
    → y ≡ b ++ take room x → next.h ≡ compress s.h y next.counter false → next.counter ≡ (s.counter + 128) % 2 ^ 128
    → IsTaken h0 (d ++ x) next ((length d - 1) / 128 + 1 + 0)
Taken_filled h0 d b x y s next room fed fills past filled state count =
    let blocks : ℕ = (length d - 1) / 128 in
    let before : IsTaken h0 (d ++ x) s blocks = (fed.0.0 ∙ sym (state_after_append h0 d x blocks (omega arith)), fed.0.1) in
    let block : b ++ take room x ≡ take 128 (drop (128 * blocks) (d ++ x)) =
    sym (rw (Fed_drop h0 d b x s fed, ← fills) (take-append-add b x room)) in
    rw add-zero
    (Taken_next h0 (d ++ x) y s next blocks before (omega (arith, length-rest h0 d b x s room fed fills)) (filled ∙ block) state count)

-- block i after that, y, is absorbed
pub Taken_whole : (h0 d b x y : List ℕ) (s t next : State) (room i : ℕ) → IsFed h0 d s b → length b + room ≡ 128
    → IsTaken h0 (d ++ x) t ((length d - 1) / 128 + 1 + i) → room + 128 * (i + 1) < length x → y ≡ take 128 (drop (128 * i) (drop room x))
    → next.h ≡ compress t.h y next.counter false → next.counter ≡ (t.counter + 128) % 2 ^ 128
    → IsTaken h0 (d ++ x) next ((length d - 1) / 128 + 1 + (i + 1))
Taken_whole h0 d b x y s t next room i fed fills taken more whole state count =
    let first : ℕ = (length d - 1) / 128 + 1 in
    let at : first + (i + 1) ≡ first + i + 1 = omega arith in
    let block : y ≡ take 128 (drop (128 * (first + i)) (d ++ x)) =
    whole ∙ ap (λ (z : List ℕ). take 128 z) (drop-rest h0 d b x s room i fed fills) in
    rw at
    (Taken_next h0 (d ++ x) y t next (first + i) taken (omega (arith, length-rest h0 d b x s room fed fills)) block state count)

-- the bytes after block i are the last block
pub Fed_long : (h0 d b x c : List ℕ) (s t : State) (room i : ℕ) → IsFed h0 d s b → length b + room ≡ 128 → room < length x
    → IsTaken h0 (d ++ x) t ((length d - 1) / 128 + 1 + i) → i ≡ (length x - room - 1) / 128 → c ≡ drop (128 * i) (drop room x)
    → IsFed h0 (d ++ x) t c
Fed_long h0 d b x c s t room i fed fills past taken count last =
    let end : (length (d ++ x) - 1) / 128 ≡ (length d - 1) / 128 + 1 + i = omega (arith, length-rest h0 d b x s room fed fills) in
    rw end (taken, last ∙ drop-rest h0 d b x s room i fed fills)

-- ---- the last block

pub Fed_last : (h0 d b : List ℕ) (s : State) → IsFed h0 d s b
    → compress s.h (padded_block b) ((s.counter + length b) % 2 ^ 128) true ≡ state_after h0 d (block_count d)
Fed_last h0 d b s fed =
    let blocks : ℕ = (length d - 1) / 128 in
    let counts : (s.counter + length b) % 2 ^ 128 ≡ length d % 2 ^ 128 = omega (arith, fed.0.1, length-last h0 d b s fed) in
    rw counts (rw (fed.0.0, fed.1) (sym (state_after_last h0 d blocks refl)))
