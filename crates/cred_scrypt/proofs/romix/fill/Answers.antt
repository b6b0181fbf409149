use Rattle.std.proofs.Common.{refl, ap, ◌∙◌, length, add-one, arith}
use Rattle.cred_scrypt.specs.Mixing.{block_mix, mixes}
use Rattle.cred_scrypt.proofs.TableRows.{one_row_more}
use Rattle.cred_scrypt.proofs.romix.fill.Goals as goal

pub rows-init : goal.rows-init
unfolding mixes
rows-init c = record {
  table = record { size = omega (arith, ap length c.requires.empty); row = λ i h. absurd (omega arith) };
  room = c.requires.room;
  mixed = refl;
  size = c.requires.size;
  same = c.requires.same;
}

pub rows-preserved : goal.rows-preserved
unfolding mixes
rows-preserved c = record {
  table = rw (c.in-Ok.ensures.items, c.deref.ensures.value)
      (one_row_more _ _ _ _ _ c.rows.invariant.table c.rows.invariant.mixed c.rows.invariant.size);
  room = omega (arith, c.extend_from_slice.ensures.capacity, c.rows.invariant.room);
  mixed = rw add-one (c.advance.ensures.mixed ∙ ap (block_mix _) c.rows.invariant.mixed);
  size = c.advance.ensures.size;
  same = c.advance.ensures.same;
}
