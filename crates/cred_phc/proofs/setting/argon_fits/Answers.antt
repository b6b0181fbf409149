use Rattle.std.proofs.Common.{◌∙◌, arith}
use Rattle.cred_phc.proofs.RangeLaws.{argon_ranges}
use Rattle.cred_phc.proofs.setting.argon_fits.Goals as goal

pub returns : goal.returns
returns c =
    c.is_ok.ensures.value
    ∙ argon_ranges c.args.m c.args.t c.args.p c.from.result (omega arith) c.from.ensures c.new.result c.new.ensures.ok c.new.ensures.err
