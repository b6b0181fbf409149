use Rattle.std.proofs.{Common.ap, lemmas.Result.on_ok_weaker}
use Rattle.crash_laws.proofs.Passed.{goes_back, stays}
use Rattle.crash_laws.proofs.fail_stop.FailStopStore.rollback_to.Goals as goal

pub returns-clause-ok : goal.returns-clause-ok
returns-clause-ok g c =
    on_ok_weaker c.rollback_to.result (goes_back _ _ _ _ _ (ap g.S.Store.view c.in_ok-spend.ensures.store) c.in_ok-spend.ensures.passed.0 c.in_ok-spend.ensures.passed.1) c.rollback_to.ensures.ok

pub returns-clause-none : goal.returns-clause-none
returns-clause-none g c =
    on_ok_weaker c.rollback_to.result (stays _ _ _ _ _ (ap g.S.Store.view c.in_ok-spend.ensures.store) c.in_ok-spend.ensures.passed.0 c.in_ok-spend.ensures.passed.1) c.rollback_to.ensures.none
