use Rattle.cred_phc.proofs.BytesLaws.{none_differs}
use Rattle.cred_phc.proofs.short_bytes.ShortBytesPartialEq.eq.Goals as goal

pub returns : goal.returns
returns g c = none_differs _ _ _ _ _ c.as_slice-these.ensures.value c.as_slice-those.ensures.value c.difference.ensures
