-- The value that each successful step of reading found.
use Rattle.std.proofs.Common.{◌≡◌, ℕ, Bool, true, false, List, [], ◌∷◌, Option, Some, None, Result, Ok, Err, ◌⊎◌, inl, inr, refl, ap, if◌then◌else◌}
use Rattle.std.specs.Option.{ok_or}
use Rattle.cred_phc.specs.{declared.error.PhcError.PhcError, Reading.◌>>=◌, Reading.guard, Reading.next, Reading.end}

pub bind_ok : {A B : Type 0} (r : Result A PhcError) (f : A → Result B PhcError) (y : B) → (r >>= f) ≡ Ok y → (x : A) × (r ≡ Ok x) × (f x ≡ Ok y)
bind_ok (Ok x) f y e = (x, refl, e)
bind_ok (Err fault) f y e = cc e

pub ok_or_ok : {A : Type 0} (o : Option A) (fault : PhcError) (x : A) → ok_or o fault ≡ Ok x → o ≡ Some x
ok_or_ok (Some y) fault x e = cc e
ok_or_ok None fault x e = cc e

pub next_ok : (fields : List (List ℕ)) (x : List ℕ × List (List ℕ)) → next fields ≡ Ok x → fields ≡ x.0 ∷ x.1
next_ok [] x e = cc e
next_ok (field ∷ fields) x e = let same : ◌≡◌ {A = List ℕ × List (List ℕ)} (field, fields) x = cc e in ap (λ y. y.0 ∷ y.1) same

pub guard_ok : (b : Bool) (fault : PhcError) (x : Unit {0}) → guard b fault ≡ Ok x → b ≡ true
guard_ok true fault x e = refl
guard_ok false fault x e = cc e

pub ok_pair : {A B : Type 0} (a c : A) (b d : B) → ◌≡◌ {A = Result (A × B) PhcError} (Ok (a, b)) (Ok (c, d)) → (a ≡ c) × (b ≡ d)
ok_pair {A} {B} a c b d e = let same : ◌≡◌ {A = A × B} (a, b) (c, d) = cc e in (ap (λ p. p.0) same, ap (λ p. p.1) same)

-- the first choice was taken, or a later one
pub some_choice : {A : Type 0} (b : Bool) (x y : A) (later : Option A) → (if b then Some x else later) ≡ Some y → ((b ≡ true) × (x ≡ y)) ⊎ (later ≡ Some y)
some_choice true x y later e = inl (refl, cc e)
some_choice false x y later e = inr e

pub ok_choice : {A : Type 0} (b : Bool) (x y : A) (later : Result A PhcError) → (if b then Ok x else later) ≡ Ok y → ((b ≡ true) × (x ≡ y)) ⊎ (later ≡ Ok y)
ok_choice true x y later e = inl (refl, cc e)
ok_choice false x y later e = inr e

pub err_choice : {A : Type 0} (b : Bool) (fault : PhcError) (y : A) (later : Result A PhcError) → (if b then Err fault else later) ≡ Ok y → (b ≡ false) × (later ≡ Ok y)
err_choice true fault y later e = cc e
err_choice false fault y later e = (refl, e)

pub end_ok : (fields : List (List ℕ)) (x : Unit {0}) → end fields ≡ Ok x → fields ≡ []
end_ok [] x e = refl
end_ok (field ∷ fields) x e = cc e
