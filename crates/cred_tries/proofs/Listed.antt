-- The number of waits that are listed.
use Rattle.std.proofs.Common.{◌≤◌, ℕ, suc, List, [], ◌∷◌, length, Option, Some, None, arith}
use Rattle.std.specs.List.{cons_option}
use Rattle.cred_tries.specs.Limits.{wait_of, waits_among}
use Rattle.cred_tries.specs.declared.count.Count.{Count}
use Rattle.cred_tries.specs.declared.waiting.Wait.{Wait}

module _ (limit now : ℕ) where
  -- no more than there are counts
  pub few_waits : (counts : List (List ℕ × Count)) → length (waits_among limit now counts) ≤ length counts
  few_waits [] = omega arith
  few_waits (c ∷ counts) = at (wait_of limit now c) (few_waits counts)
    where
      at : (found : Option Wait) → length (waits_among limit now counts) ≤ length counts → length (cons_option found (waits_among limit now counts)) ≤ suc (length counts)
      at None few = omega (arith, few)
      at (Some w) few = omega (arith, few)
