use Rattle.cred_pool.proofs.crew.CrewFnCrew.work_each.Goals as goal

pub returns : goal.returns
returns g c = c.requires.ready.leaves _ _ _ c.work_each.ensures
