use Rattle.std.proofs.Common.{◌++◌, ◌∷◌, ap, sym, ◌∙◌}
use Rattle.cred_phc.specs.{Base64.base64, Text.scheme_text}
use Rattle.cred_admin.proofs.BeforeSalt.{setting_cut}
use Rattle.cred_admin.proofs.detail.costs_text.Goals as goal

pub returns : goal.returns
returns c =
    c.in_ok-extend_from_slice.ensures.items ∙ ap (λ xs. xs ++ c.before_salt.result.now) c.new-costs.ensures.items
    ∙ c.before_salt.ensures (scheme_text c.args.setting.now.scheme)
    (c.deref.ensures.value ∙ c.in-Ok.ensures.text ∙ setting_cut c.args.setting.now ∙ ap (λ s. scheme_text c.args.setting.now.scheme ++ 36 ∷ base64 s) (sym c.salt.ensures.value))
