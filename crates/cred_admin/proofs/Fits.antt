-- The facts about a reader from a transcript that is cut in two.
use Rattle.std.proofs.Common.{◌≡◌, ℕ, List, [], ◌++◌, Option, Bool, false, true, not, ◌&&◌, refl, sym, ap, ◌∙◌, append_assoc, append-nil}
use Rattle.cred_cli.specs.{Watched.Basis, Watched.Contract, Watched.Fits, Watched.Transcript, Watched.ended_of, Watched.given_of, declared.watched.Watched.Watched}
use Rattle.cred_cli.proofs.Basis.{fits_before}
use Rattle.cred_admin.specs.Seen.{FitsSince, GivesMore}

pub gives_nothing : {R : Type 0} (reader : Watched R) → GivesMore reader reader
gives_nothing reader = ([], sym (append-nil (given_of reader)))

pub gives_more : {R : Type 0} (old mid new : Watched R) → GivesMore old mid → GivesMore mid new → GivesMore old new
gives_more old mid new (front, given) (bytes, later) = (front ++ bytes, later ∙ ap (λ xs. xs ++ bytes) given ∙ append_assoc (given_of old) front bytes)

module _ {R : Type 0} (remaining : R → Option (List ℕ)) (old mid new : Watched R) (open_ : ended_of old ≡ false → ended_of mid ≡ false) (more : GivesMore mid new) where
  pub fits_through : (basis : Basis) → FitsSince basis old new → FitsSince basis old mid × FitsSince basis mid new
  fits_through Contract fits = (tt, tt)
  fits_through (Transcript all) (was, fits) = ((was, fits_before remaining mid new (Transcript all) more.0 more.1 (open_ was) fits), (open_ was, fits))

pub fits_now : {R : Type 0} (old new : Watched R) (basis : Basis) → FitsSince basis old new → Fits basis new
fits_now old new Contract fits = tt
fits_now old new (Transcript all) (was, fits) = fits

-- ---- whether a reader came to its end meanwhile

pub came : (was now ended : Bool) → ended ≡ (not was && now) → ended ≡ true → (was ≡ false) × (now ≡ true)
came true now ended is reached = cc (sym is ∙ reached)
came false now ended is reached = (refl, sym is ∙ reached)

-- it didn't, so that what follows fits too
still_open : (was now ended : Bool) → ended ≡ (not was && now) → ended ≡ false → was ≡ false → now ≡ false
still_open true now ended is closed open_ = cc open_
still_open false now ended is closed open_ = sym is ∙ closed

pub fits_both : {R : Type 0} (remaining : R → Option (List ℕ)) (old mid new : Watched R) (was ended : Bool) → was ≡ ended_of old → ended ≡ (not was && ended_of mid) → ended ≡ false → GivesMore mid new
    → (basis : Basis) → FitsSince basis old new → FitsSince basis old mid × FitsSince basis mid new
fits_both remaining old mid new was ended asked is closed more basis fits =
    fits_through remaining old mid new (λ at_first. still_open was (ended_of mid) ended is closed (asked ∙ at_first)) more basis fits
