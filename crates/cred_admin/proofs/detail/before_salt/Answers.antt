use Rattle.std.proofs.Common.{◌∙◌}
use Rattle.cred_admin.proofs.BeforeSalt.{front_is}
use Rattle.cred_admin.proofs.detail.before_salt.Goals as goal

pub returns : goal.returns
returns c front is = c.split_at.ensures.front ∙ front_is _ _ _ _ is c.saturating_sub.ensures
