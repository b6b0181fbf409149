use Rattle.std.proofs.Common.{◌≡◌, Err, ap, refl, sym}
use Rattle.cred_argon.specs.Parameters.{parameters}
use Rattle.cred_c.specs.{Lanes.ranged, declared.part_fault.PartFault.TheVariants.Argon}
use Rattle.cred_c.proofs.{RawFaults.no_raw_fault, PartFaults.is_kind, PartFaults.is_version, PartFaults.same_fault, PartFaults.fault_is}
use Rattle.cred_c.proofs.tag_numbers.params_of.Goals as goal

pub returns-in-Err-clause-ok : goal.returns-in-Err-clause-ok
returns-in-Err-clause-ok c a =
    let n = c.args.numbers.now in
    let judged = parameters c.in-Some-version_of.version c.in-Some.kind n.memory n.passes n.lanes n.tag_len in (
      λ is. absurd cc,
      λ stands. absurd (no_raw_fault a judged (sym stands.memory_is) (sym stands.passes_are) (sym stands.lanes_are) (sym stands.tag_len_is)
          stands.ranges c.in-Err.error ((c.raw.ensures.err c.in-Err.error).0 c.in-Err.is)),
    )

pub returns-in-Err-clause-err : goal.returns-in-Err-clause-err
returns-in-Err-clause-err c f =
    let n = c.args.numbers.now in
    let judged = parameters c.in-Some-version_of.version c.in-Some.kind n.memory n.passes n.lanes n.tag_len in
    let kind = is_kind c.in-Some.kind n.kind c.in-Some.ensures.only in
    let version = is_version c.in-Some-version_of.version n.version c.in-Some-version_of.ensures.only in
    let fault = same_fault judged (ranged n) refl refl refl refl c.in-Err.error ((c.raw.ensures.err c.in-Err.error).0 c.in-Err.is) in (
      λ is. let same : Argon c.in-Err.error ≡ f = cc in rw (← same) (kind, version, fault),
      λ wrong. ap Err (fault_is n c.raw.result c.in-Err.error kind version c.in-Err.is
          (λ d other. (c.raw.ensures.err d).1 (same_fault (ranged n) judged refl refl refl refl d other)) f wrong),
    )
