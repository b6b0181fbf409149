use Rattle.std.proofs.Common.{◌≡◌, ℕ, ◌++◌, ◌+◌, ◌-◌, ◌*◌, ◌/◌, length, drop, refl, ◌∙◌, arith, length-drop}
use Rattle.std.proofs.lemmas.List.{append_assoc, take_rest}
use Rattle.cred_blake.specs.Blake2b.{key_block, initial_state}
use Rattle.cred_blake.specs.Hasher.{Holds}
use Rattle.cred_blake.proofs.Feeding.{Fed_long, Fed_short, Taken_filled, Taken_whole}
use Rattle.cred_blake.proofs.hasher.Blake2b.update.Goals as goal

pub returns-then-input-room : goal.returns-then-input-room
unfolding Holds
returns-then-input-room c = λ n key m held.
    let s = c.args.self.now in
    let x = c.args.input.now in
    let fed = Fed_short (initial_state n (length key)) (key_block key ++ m) s.buffer x s.state held.1 (omega arith) in
    (held.0, rw (c.extend.ensures, ← append_assoc (key_block key) m x) fed)

pub whole-init : goal.whole-init
unfolding Holds
whole-init c = (
  refl,
  λ n key m held.
      let s = c.args.self.now in
      Taken_filled (initial_state n (length key)) (key_block key ++ m) s.buffer c.args.input.now _ s.state _ (128 - c.len-room.result)
      held.1 (omega arith) (omega arith) (c.bytes.ensures ∙ c.extend-2.ensures) c.absorb.ensures.h c.absorb.ensures.counter,
)

pub whole-preserved : goal.whole-preserved
unfolding Holds
whole-preserved c = (
  c.whole.invariant.0,
  λ n key m held.
      let s = c.args.self.now in
      let x = c.args.input.now in
      let room : ℕ = 128 - c.len-room.result in
      let i : ℕ = c.whole.i in
      let width : 128 * i + 128 - 128 * i ≡ 128 = omega arith in
      Taken_whole (initial_state n (length key)) (key_block key ++ m) s.buffer x _ s.state c.whole.self.state _ room i
      held.1 (omega arith) (c.whole.invariant.1 n key m held) (omega (arith, length-drop room x))
      (rw (width, take_rest x room) refl) c.absorb-in-whole.ensures.h c.absorb-in-whole.ensures.counter,
)

pub returns : goal.returns
unfolding Holds
returns c = λ n key m held.
    let s = c.args.self.now in
    let x = c.args.input.now in
    let room : ℕ = 128 - c.len-room.result in
    let i : ℕ = c.whole.i in
    let done : (length (drop room x) - 1) / 128 ≡ i = omega (arith, length-drop room x) in
    let last : c.extend-3.new.self ≡ drop (128 * i) (drop room x) =
    rw (c.extend-3.ensures, c.clear.ensures, take_rest x room, take_rest (drop room x), done) refl in (
      c.whole.invariant.0 ∙ held.0,
      rw (← append_assoc (key_block key) m x)
          (Fed_long (initial_state n (length key)) (key_block key ++ m) s.buffer x _ s.state _ room i
          held.1 (omega arith) (omega arith) (c.whole.invariant.1 n key m held) (omega arith) last),
    )
