-- Numbers are in their ranges if they fit the types that keep them.
use Rattle.std.proofs.Common.{◌≡◌, ◌↔◌, inl, inr, ℕ, ◌≤◌, ◌<◌, ◌*◌, ◌^◌, Bool, true, false, Result, Ok, Err, IfOk, refl, sym, arith}
use Rattle.std.proofs.{lemmas.Bool.cases_lt, lemmas.Bool.Decides.nat_tests}
use Rattle.std.specs.Result.{is_ok}
use Rattle.cred_argon.specs.{Parameters.Parameters, Parameters.parameters, Parameters.IsParameters, Faults.IsFirstFault}
use Rattle.cred_argon.specs.{declared.params.TheConstants.MAX_PASSES, declared.params.TheConstants.MIN_TAG, declared.kind.Kind.TheVariants.Id}
use Rattle.cred_argon.specs.{declared.kind.Version.TheVariants.V13, declared.error.ArgonError.ArgonError}
use Rattle.cred_scrypt.specs.Params.{IsBadLen, IsCostly}
use Rattle.cred_scrypt.specs.declared.params.TheConstants.{MAX_BLOCK_SIZE, MAX_BLOCKS, MAX_LN, MAX_ROWS, MIN_LEN}
use Rattle.cred_scrypt.specs.declared.error.ScryptError.{ScryptError}
use Rattle.cred_scrypt.specs.declared.error.ScryptError.TheVariants.{Cost, BlockSize, Blocks, Len, Memory}
use Rattle.cred_phc.specs.Ranges.{argon_fits, scrypt_fits}
use Rattle.cred_phc.proofs.HashingLaws.{no_fault}

argon_taken : (m t p : ℕ) → t ≤ MAX_PASSES → IsParameters (parameters V13 Id m t p MIN_TAG) → true ≡ argon_fits m t p
argon_taken m t p few h =
    grind (arith, nat_tests, h.some_lane, h.lanes_at_most, h.memory_at_least, h.memory_at_most, h.some_pass)

argon_refused : (m t p : ℕ) (e : ArgonError) → IsFirstFault (parameters V13 Id m t p MIN_TAG) e → (b : Bool) → argon_fits m t p ≡ b
    → false ≡ argon_fits m t p
argon_refused m t p e fault true fits = absurd (no_fault V13 Id m t p MIN_TAG fits (omega arith) (omega arith) e fault)
argon_refused m t p e fault false misfits = sym misfits

pub argon_ranges : (m t p lanes : ℕ) → t ≤ MAX_PASSES → lanes ≡ p → (made : Result Parameters ArgonError)
    → IfOk made (λ a. (a ≡ parameters V13 Id m t lanes MIN_TAG) × IsParameters (parameters V13 Id m t lanes MIN_TAG))
    → ((e : ArgonError) → (made ≡ Err e) ↔ IsFirstFault (parameters V13 Id m t lanes MIN_TAG) e)
    → is_ok made ≡ argon_fits m t p
argon_ranges m t p lanes few same (Ok a) ok err = rw (← same) (argon_taken m t lanes few ok.1)
argon_ranges m t p lanes few same (Err e) ok err = rw (← same) (argon_refused m t lanes e ((err e).0 refl) _ refl)

scrypt_taken : (ln r p : ℕ) → r ≤ MAX_BLOCK_SIZE → p ≤ MAX_BLOCKS → 1 ≤ r → 1 ≤ p → 1 ≤ ln → ln ≤ MAX_LN → ln < 16 * r
    → r * 2 ^ ln ≤ MAX_ROWS → true ≡ scrypt_fits ln r p
scrypt_taken ln r p r_few p_few r_some p_some some few below room =
    grind (arith, nat_tests, r_few, p_few, r_some, p_some, some, few, below, room)

scrypt_costly : (ln r p : ℕ) → IsCostly ln r → false ≡ scrypt_fits ln r p
scrypt_costly ln r p costly = grind (arith, nat_tests, costly)

scrypt_cheap : (ln r p : ℕ) → r ≤ MAX_BLOCK_SIZE → p ≤ MAX_BLOCKS → 1 ≤ r → 1 ≤ p → (IsCostly ln r → ⊥) → true ≡ scrypt_fits ln r p
scrypt_cheap ln r p r_few p_few r_some p_some cheap =
    let some : 1 ≤ ln = elim (cases_lt 0 ln) [ inl h ↦ omega (arith, h) | inr h ↦ absurd (cheap (inl (omega (arith, h)))) ] in
    let few : ln ≤ MAX_LN = elim (cases_lt MAX_LN ln) [ inl h ↦ absurd (cheap (inr (inl h))) | inr h ↦ h ] in
    let below : ln < 16 * r = elim (cases_lt ln (16 * r)) [ inl h ↦ h | inr h ↦ absurd (cheap (inr (inr (inl h)))) ] in
    let room : r * 2 ^ ln ≤ MAX_ROWS = elim (cases_lt MAX_ROWS (r * 2 ^ ln)) [ inl h ↦ absurd (cheap (inr (inr (inr h)))) | inr h ↦ h ] in
    scrypt_taken ln r p r_few p_few r_some p_some some few below room

module _ (ln r p : ℕ) (r_few : r ≤ MAX_BLOCK_SIZE) (p_few : p ≤ MAX_BLOCKS) {X : Type 0} where
  pub scrypt_ranges : (made : Result X ScryptError) → ((made ≡ Err BlockSize) ↔ (r ≡ 0)) → ((made ≡ Err Blocks) ↔ ((1 ≤ r) × (p ≡ 0)))
      → ((made ≡ Err Cost) ↔ ((1 ≤ r) × (1 ≤ p) × IsCostly ln r))
      → ((made ≡ Err Len) ↔ ((1 ≤ r) × (1 ≤ p) × (IsCostly ln r → ⊥) × IsBadLen MIN_LEN)) → (made ≡ Err Memory → ⊥)
      → is_ok made ≡ scrypt_fits ln r p
  scrypt_ranges (Ok a) block_size blocks cost len memory =
      let r_some : 1 ≤ r = elim (cases_lt 0 r) [ inl h ↦ omega (arith, h) | inr h ↦ let no = block_size.1 (omega (arith, h)) in cc no ] in
      let p_some : 1 ≤ p = elim (cases_lt 0 p) [ inl h ↦ omega (arith, h) | inr h ↦ let no = blocks.1 (r_some, omega (arith, h)) in cc no ] in
      scrypt_cheap ln r p r_few p_few r_some p_some (λ costly. let no = cost.1 (r_some, p_some, costly) in cc no)
  scrypt_ranges (Err BlockSize) block_size blocks cost len memory = let none = block_size.0 refl in grind (arith, nat_tests, none)
  scrypt_ranges (Err Blocks) block_size blocks cost len memory = let none = (blocks.0 refl).1 in grind (arith, nat_tests, none)
  scrypt_ranges (Err Cost) block_size blocks cost len memory = scrypt_costly ln r p (cost.0 refl).2
  scrypt_ranges (Err Len) block_size blocks cost len memory = let bad = (len.0 refl).3 in absurd (elim bad [ inl h ↦ omega (arith, h) | inr h ↦ omega (arith, h) ])
  scrypt_ranges (Err Memory) block_size blocks cost len memory = absurd (memory refl)
