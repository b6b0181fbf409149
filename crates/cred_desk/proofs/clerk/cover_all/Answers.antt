use Rattle.std.proofs.Common.{ℕ, ◌<◌, List, get_or, subst, sym, ◌∙◌}
use mathlib.Core.List.{IsPrefix}
use Rattle.cred_desk.specs.{declared.entry.Entry.Entry, Standing.Standing}
use Rattle.cred_desk.proofs.Lists.{all_more}
use Rattle.cred_desk.proofs.clerk.cover_all.Goals as goal

pub loop-session-preserved : goal.loop-session-preserved
loop-session-preserved g c =
    let list = c.covers.new.self in
    let this : IsPrefix c.session-item.result.known list = subst (λ (l : List Entry). IsPrefix l list) c.known.ensures c.covers.ensures.begins in
    let before : (k : ℕ) (s : Standing) → k < c.loop-session.session-index → IsPrefix (get_or c.args.sessions.now k s).known list = λ k s lt. subst (λ (l : List Entry). IsPrefix (get_or c.args.sessions.now k s).known l) (sym c.covers.ensures.same) (c.loop-session.invariant.1 k s lt) in (
      c.covers.ensures.same ∙ c.loop-session.invariant.0,
      all_more (λ s. IsPrefix s.known list) _ _ c.session-item.result c.loop-session-test.true c.session-item.is this before,
    )
