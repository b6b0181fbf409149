-- The lengths of waits.
use Rattle.std.proofs.Common.{◌≡◌, ℕ, ◌+◌, ◌-◌, ◌^◌, ◌<◌, ◌≤◌, arith, lit<, ap, sym, ◌∙◌, ◌⊎◌, inl, inr}
use Rattle.std.specs.Prelude.{min}
use Rattle.std.proofs.Math.Nat.{pow-le-pow_right}
use Rattle.std.proofs.lemmas.Nat.{pow_pos}
use Rattle.cred_tries.specs.Counts.{longest_wait, short_waits, wait}

pub wait_far : (k : ℕ) → short_waits ≤ k → wait k ≡ longest_wait
unfolding wait
wait_far k far = let more : 2 ^ 10 ≤ 2 ^ k = pow-le-pow_right (lit< tt) far in omega arith

pub wait_pos : (k : ℕ) → 0 < wait k
unfolding wait
wait_pos k = omega (arith, pow_pos k)

pub wait_most : (k : ℕ) → wait k ≤ longest_wait
unfolding wait
wait_most k = omega arith

-- failures beyond those of the short waits make no longer wait
pub wait_capped : (limit n : ℕ) → wait (min n (limit + short_waits) - limit) ≡ wait (n - limit)
wait_capped limit n = at (short n)
  where
    short : (n : ℕ) → (n ≤ limit + short_waits) ⊎ (limit + short_waits < n)
    short n = grind arith

    at : (n ≤ limit + short_waits) ⊎ (limit + short_waits < n) → wait (min n (limit + short_waits) - limit) ≡ wait (n - limit)
    at (inl few) = let same : min n (limit + short_waits) - limit ≡ n - limit = omega arith in ap wait same
    at (inr more) =
        let full : min n (limit + short_waits) - limit ≡ 10 = omega arith in
        let far : 10 ≤ n - limit = omega arith in
        let ten : 10 ≤ 10 = omega arith in
        ap wait full ∙ wait_far 10 ten ∙ sym (wait_far (n - limit) far)
