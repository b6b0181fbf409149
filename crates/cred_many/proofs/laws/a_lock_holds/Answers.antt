use Rattle.cred_many.proofs.Locked.{lock_locks, refused_try, stays_locked, step}
use Rattle.cred_many.proofs.laws.a_lock_holds.Goals as goal

pub returns : goal.returns
returns c = record {
  locks = lock_locks;
  stays = stays_locked;
  refuses = refused_try;
  keeps = λ capacity book name operation is ends puts. (step capacity book name is operation ends).1 puts;
}
