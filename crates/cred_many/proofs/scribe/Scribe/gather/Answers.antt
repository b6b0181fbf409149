use Rattle.std.proofs.Common.{rules, ◌≡◌, arith, false, IfSome, subst, sym, ◌∙◌}
use Rattle.cred_many.specs.{Service.IsLine}
use Rattle.cred_file.specs.Cells.{is_marked, unmarked}
use Rattle.cred_file.proofs.Marked.{not_marked}
use Rattle.cred_many.proofs.Groups.{pushed_together}
use Rattle.cred_many.proofs.scribe.Scribe.gather.Goals as goal

pub returns-clause-group : goal.returns-clause-group
returns-clause-group g c =
    let mark : c.mark_of.result ≡ (g.K.Host.book c.args.self.now.keeper).marks c.name-name.result = search rules in
    let clear : is_marked c.mark_of.result ≡ false = search rules in
    let plain : (g.K.Host.book c.args.self.now.keeper).marks c.name-name.result ≡ unmarked = sym mark ∙ not_marked c.mark_of.result clear in
    pushed_together _ _ _ _ _ _ _ _ _ _ c.args.hashed c.judge-reply.result.0 c.judge-reply.result.1 c.name-name.result c.push.result c.requires (search rules) c.line.ensures.asked.0 (search (rules, arith)) (search rules) (search rules) plain (omega (arith, c.if-len-ge-MOST_TOGETHER.false, c.len.ensures))
    (subst (λ e. IfSome g.J.ServiceId.service.input (λ bytes. IsLine g.J.ServiceId.service bytes e)) c.line.ensures.line c.operation.ensures.came)
    c.push.ensures.works c.push.ensures.first c.push.ensures.changed (search rules) c.push.ensures.same_works c.push.ensures.same_changed c.push.ensures.same_text

pub returns-clause-added : goal.returns-clause-added
returns-clause-added g c = c.push.ensures.works

pub returns-clause-same : goal.returns-clause-same
returns-clause-same g c = c.push.ensures.same_works

pub returns-clause-back : goal.returns-clause-back
returns-clause-back g c = c.push.ensures.back
