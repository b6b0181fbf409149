use Rattle.cred_phc.proofs.WritingLaws.{setting_written}
use Rattle.cred_phc.proofs.write.setting_in.Goals as goal

pub returns-clause-text : goal.returns-clause-text
returns-clause-text c =
    setting_written c.args.setting.now _ c.into_bytes-text.result.items _ _ _ c.in_ok-scheme.ensures.bytes c.scheme.ensures.value c.salt.ensures.value
    (rw c.into_bytes-text.ensures.value c.in_ok-push_scheme.ensures) c.in_ok-push_bytes.ensures
