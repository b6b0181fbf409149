use Rattle.std.proofs.Common.{refl, rules, subst, ◌∙◌}
use Rattle.cred_file.proofs.Marked.{AreHeld, all_held, none_held, one_held}
use Rattle.cred_file.proofs.marks.Marks.hold_all.Goals as goal

pub loop-name-init : goal.loop-name-init
loop-name-init c = (refl, subst (AreHeld c.args.self.now c.args.given.now) (search rules) (none_held c.args.self.now c.args.given.now))

pub loop-name-preserved : goal.loop-name-preserved
loop-name-preserved c =
    let was = c.loop-name.invariant in
    (c.hold.ensures.same ∙ was.0, one_held _ _ _ _ _ _ _ was.1 c.in-Some.ensures.steps c.in_ok-hold.ensures.held c.hold.ensures.room)

pub returns-clause-held : goal.returns-clause-held
returns-clause-held c = all_held _ _ _ c.loop-name.invariant.1 c.in-None.ensures.steps.0
