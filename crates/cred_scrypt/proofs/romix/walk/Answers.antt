use Rattle.std.proofs.Common.{sym, arith}
use Rattle.cred_scrypt.specs.Mixing.{second_loop}
use Rattle.cred_scrypt.proofs.TableRows.{second_loop_next, second_loop_all}
use Rattle.cred_scrypt.proofs.romix.walk.Goals as goal

pub steps-init : goal.steps-init
unfolding second_loop
steps-init c = record {
  mixed = λ b table was. was;
  size = c.requires.size;
  same = c.requires.same;
}

pub steps-preserved : goal.steps-preserved
steps-preserved c = record {
  mixed = λ b table was. second_loop_next _ _ b _ _ _ _ _ _ table c.named_row-j.ensures.below
      (sym (rw (← c.deref.ensures.value) c.named_row-j.ensures.value))
      (c.steps.invariant.mixed b table was) c.absorb.ensures.mixed c.advance.ensures.mixed;
  size = c.advance.ensures.size;
  same = c.advance.ensures.same;
}

pub returns-clause-mixed : goal.returns-clause-mixed
returns-clause-mixed c =
    λ b table was. second_loop_all _ _ _ b _ (omega arith) (omega arith) (c.steps.invariant.mixed b table was)
