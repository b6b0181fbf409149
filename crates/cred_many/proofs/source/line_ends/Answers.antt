use Rattle.std.proofs.{Common.◌==◌, Common.◌∙◌, Common.rules, Common.tests, lemmas.Iterator.Consumers.YieldsList-from_filter, lemmas.Iterator.Consumers.count_from_yields_List, lemmas.Iterator.YieldsList-from_slice}
use Rattle.cred_many.proofs.Lines.{length-ends, line_ends-short}
use Rattle.cred_many.proofs.source.line_ends.Goals as goal

pub returns-clause-ends : goal.returns-clause-ends
returns-clause-ends c =
    count_from_yields_List c.filter.result _ c.count.ensures.ran (YieldsList-from_filter _ (λ b. b == 10) (YieldsList-from_slice c.args.bytes.now cc) c.filter.ensures.closure (λ x b q k. search (rules, tests)))
    ∙ length-ends c.args.bytes.now

pub returns-clause-few : goal.returns-clause-few
returns-clause-few c = rw (returns-clause-ends c) (line_ends-short c.args.bytes.now)
