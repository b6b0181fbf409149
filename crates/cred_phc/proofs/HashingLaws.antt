-- The parameters that the functions of tags get.
use Rattle.std.proofs.{Common.◌≤◌, Common.ℕ, Common.IsTrue, Common.arith, lemmas.Bool.Decides.nat_tests}
use Rattle.cred_argon.specs.{Parameters.parameters, Faults.IsFirstFault, declared.kind.Kind.Kind, declared.kind.Version.Version}
use Rattle.cred_argon.specs.declared.error.ArgonError.{ArgonError}
use Rattle.cred_argon.specs.declared.error.ArgonError.TheVariants.{InputLen, Memory}
use Rattle.cred_phc.specs.Ranges.{argon_fits}

-- parameters in their ranges have no fault
pub no_fault : (version : Version) (kind : Kind) (m t p len : ℕ) → IsTrue (argon_fits m t p) → 4 ≤ len → len ≤ 64
    → (e : ArgonError) → IsFirstFault (parameters version kind m t p len) e → ⊥
no_fault version kind m t p len fits low high InputLen fault = fault
no_fault version kind m t p len fits low high Memory fault = fault
no_fault version kind m t p len fits low high _ fault = grind (arith, nat_tests)
