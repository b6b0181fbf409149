-- Parameters in the ranges of a raw tag have no fault.
use Rattle.std.proofs.Common.{◌≡◌, arith}
use Rattle.cred_argon.specs.{Parameters.Parameters, Parameters.IsRaw, Faults.IsFirstRawFault, declared.error.ArgonError.ArgonError}
use Rattle.cred_argon.specs.declared.error.ArgonError.TheVariants.{Lanes, Cost, Passes, TagLen, InputLen, Memory}

-- the ranges are those of one value, and the fault of one that differs in kind and version alone
pub no_raw_fault : (a b : Parameters) → a.memory ≡ b.memory → a.passes ≡ b.passes → a.lanes ≡ b.lanes → a.tag_len ≡ b.tag_len
    → IsRaw a → (e : ArgonError) → IsFirstRawFault b e → ⊥
no_raw_fault a b memory passes lanes len raw Lanes fault = grind (arith, memory, passes, lanes, len, raw.some_lane, raw.lanes_at_most, fault)
no_raw_fault a b memory passes lanes len raw Cost fault = grind (arith, memory, passes, lanes, len, raw.memory_at_least, raw.memory_at_most, fault)
no_raw_fault a b memory passes lanes len raw Passes fault = grind (arith, memory, passes, lanes, len, raw.some_pass, fault)
no_raw_fault a b memory passes lanes len raw TagLen fault = grind (arith, memory, passes, lanes, len, raw.tag_at_least, raw.tag_at_most, fault)
no_raw_fault a b memory passes lanes len raw InputLen fault = fault
no_raw_fault a b memory passes lanes len raw Memory fault = fault
