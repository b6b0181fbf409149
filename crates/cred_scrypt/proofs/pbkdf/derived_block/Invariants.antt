use Rattle.std.proofs.Common.{◌≡◌, ◌-◌, ℕ, List}
use Rattle.cred_scrypt.specs.{Pbkdf2.iteration, Pbkdf2.xor_of_iterations, Keyed.IsKeyed}
use Rattle.cred_scrypt.proofs.pbkdf.derived_block.Given as goal

abbrev pub invariant-iterations : goal.invariant-iterations
invariant-iterations l = record {
  last : (pw : List ℕ) → IsKeyed pw l.mac → l.last ≡ iteration pw l.salt l.i (l._iteration - 1);
  all : (pw : List ℕ) → IsKeyed pw l.mac → l.all ≡ xor_of_iterations pw l.salt l.i (l._iteration - 1);
}
