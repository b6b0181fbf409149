use Rattle.std.proofs.Common.{length, refl, sym}
use Rattle.cred_c.specs.Inputs.{tag_parameters}
use Rattle.cred_c.proofs.RawFaults.{no_raw_fault}
use Rattle.cred_c.proofs.raw.cred_argon2.Goals as goal

pub returns-in-Err-clause-inputs : goal.returns-in-Err-clause-inputs
returns-in-Err-clause-inputs c k v are_of raw =
    let a = c.args in
    let judged = tag_parameters a.numbers.now c.in-Some.kind c.in-Some-version_of.version c.in-Ok.len in
    absurd (no_raw_fault (tag_parameters a.numbers.now k v (length a.out.now)) judged refl refl refl (sym c.in-Ok.ensures.1)
    raw c.in-Err.error ((c.raw.ensures.err c.in-Err.error).0 c.in-Err.is))

pub returns-in-Err-clause-fine : goal.returns-in-Err-clause-fine
returns-in-Err-clause-fine c k v are_of raw =
    let a = c.args in
    let judged = tag_parameters a.numbers.now c.in-Some.kind c.in-Some-version_of.version c.in-Ok.len in
    absurd (no_raw_fault (tag_parameters a.numbers.now k v (length a.out.now)) judged refl refl refl (sym c.in-Ok.ensures.1)
    raw c.in-Err.error ((c.raw.ensures.err c.in-Err.error).0 c.in-Err.is))
