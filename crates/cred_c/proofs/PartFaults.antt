-- Reading a tag's numbers answers with their first fault.
use Rattle.std.proofs.Common.{◌≡◌, ℕ, Result, Err, inl, inr, arith}
use Rattle.cred_argon.specs.{Faults.IsFirstRawFault, Numbers.kind_number, Numbers.version_number, Parameters.Parameters, declared.error.ArgonError.ArgonError}
use Rattle.cred_argon.specs.declared.error.ArgonError.TheVariants.{Lanes, Cost, Passes, TagLen, InputLen, Memory}
use Rattle.cred_argon.specs.{declared.kind.Kind.Kind, declared.kind.Kind.TheVariants.D, declared.kind.Kind.TheVariants.I, declared.kind.Kind.TheVariants.Id}
use Rattle.cred_argon.specs.{declared.kind.Version.Version, declared.kind.Version.TheVariants.V10, declared.kind.Version.TheVariants.V13}
use Rattle.cred_c.specs.{Inputs.IsKind, Inputs.IsVersion, Lanes.IsNumbersFault, Lanes.ranged, declared.part_fault.PartFault.PartFault}
use Rattle.cred_c.specs.declared.part_fault.PartFault.TheVariants.{NoKind, NoVersion, Argon, Place, Scrypt}
use Rattle.cred_c.specs.declared.tag_numbers.TagNumbers.{TagNumbers}

pub is_kind : (k : Kind) (n : ℕ) → n ≡ kind_number k → IsKind n
is_kind D n same = omega (arith, same)
is_kind I n same = omega (arith, same)
is_kind Id n same = omega (arith, same)

pub is_version : (v : Version) (n : ℕ) → n ≡ version_number v → IsVersion n
is_version V10 n same = inl same
is_version V13 n same = inr same

-- the ranges depend on four numbers alone
pub same_fault : (a b : Parameters) → a.memory ≡ b.memory → a.passes ≡ b.passes → a.lanes ≡ b.lanes → a.tag_len ≡ b.tag_len
    → (e : ArgonError) → IsFirstRawFault a e → IsFirstRawFault b e
same_fault a b memory passes lanes len Lanes fault = rw (← lanes) fault
same_fault a b memory passes lanes len Cost fault = rw (← lanes, ← memory) fault
same_fault a b memory passes lanes len Passes fault = rw (← lanes, ← memory, ← passes) fault
same_fault a b memory passes lanes len TagLen fault = rw (← lanes, ← memory, ← passes, ← len) fault
same_fault a b memory passes lanes len InputLen fault = fault
same_fault a b memory passes lanes len Memory fault = fault

-- where kind and version are right, what Argon2 refuses is the fault, and no other one is
pub fault_is : {A : Type 0} (n : TagNumbers) (made : Result A ArgonError) (e : ArgonError) → IsKind n.kind → IsVersion n.version
    → made ≡ Err e → ((d : ArgonError) → IsFirstRawFault (ranged n) d → made ≡ Err d)
    → (f : PartFault) → IsNumbersFault n f → Argon e ≡ f
fault_is n made e kind version is judged NoKind fault = absurd (omega (arith, kind, fault))
fault_is n made e kind version is judged NoVersion fault = absurd (fault.1 version)
fault_is n made e kind version is judged (Argon d) fault = let other = judged d fault.2 in cc
fault_is n made e kind version is judged Place fault = absurd fault
fault_is n made e kind version is judged Scrypt fault = absurd fault
