-- Lines that aren't the wanted passwords.
use Rattle.std.proofs.Common.{◌≡◌, ℕ, ◌<◌, List, [], length, true, Option, Some, None, IfSome, inl, inr, refl, sym, ◌∙◌}
use Rattle.std.proofs.{lemmas.Bool.Decides.eqb_tells, lemmas.List.nil_from_length, lemmas.Option.IfSome_then}
use Rattle.cred_admin.specs.{Lines.HasEmptyLine, Lines.HasLong, Lines.HasLongLine, Lines.IsMisread, Lines.MissesLine, Lines.ReadsLine, Lines.ReadsLines, Lines.behind_line, Lines.is_barred, declared.fault.Fault.Fault, declared.password.EmptyPassword.EmptyPassword, declared.password.Passwords.Passwords}
use Rattle.cred_admin.specs.{declared.password.EmptyPassword.TheVariants.Refused, declared.password.EmptyPassword.TheVariants.Taken, declared.password.Passwords.TheVariants.Present, declared.password.Passwords.TheVariants.New, declared.password.Passwords.TheVariants.PresentAndNew}
use Rattle.cred_admin.specs.declared.fault.Fault.TheVariants as fault
use Rattle.cred_cli.specs.Watched.{Reading}

long_first : (pws : Passwords) (known : Option (List ℕ)) → IfSome known HasLongLine → IfSome known (HasLong pws)
long_first pws None long = tt
long_first Present (Some bytes) long = long
long_first (New empty) (Some bytes) long = long
long_first (PresentAndNew empty) (Some bytes) long = inl long

-- the first line
pub first_missed : (pws : Passwords) (r : Reading) (e : Fault) → MissesLine r e → IsMisread pws r e
first_missed pws r e (inl (is, failed)) = rw is failed
first_missed pws r e (inr (inl is)) = rw is tt
first_missed pws r e (inr (inr (inl (is, none)))) = rw is none
first_missed pws r e (inr (inr (inr (is, long)))) = rw is (long_first pws r.input long)

-- what holds of what is left after the first line
behind : (known mid : Option (List ℕ)) (pw : List ℕ) (P : List ℕ → Type 0) → IfSome known (λ bytes. ReadsLine bytes mid pw) → IfSome mid P → IfSome known (λ bytes. (0 < length bytes) × P (behind_line bytes))
behind None mid pw P reads p = tt
behind (Some bytes) mid pw P reads p = (reads.there, rw reads.left_is at p)

-- and the second one
module _ (empty : EmptyPassword) (r next : Reading) (pw : List ℕ) (same : next.failed ≡ r.failed) (reads : IfSome r.input (λ bytes. ReadsLine bytes next.input pw)) where
  pub second_missed : (e : Fault) → (e ≡ fault.NoPassword → ⊥) → MissesLine next e → IsMisread (PresentAndNew empty) r e
  second_missed e other (inl (is, failed)) = rw is (sym same ∙ failed)
  second_missed e other (inr (inl is)) = rw is tt
  second_missed e other (inr (inr (inl (is, none)))) = absurd (other is)
  second_missed e other (inr (inr (inr (is, long)))) = rw is (IfSome_then r.input (behind r.input next.input pw HasLongLine reads long) (λ bytes long. inr long.1))

-- an empty one
barred : (empty : EmptyPassword) (pw : List ℕ) → is_barred empty pw ≡ true → (empty ≡ Refused) × (pw ≡ [])
barred Refused pw is = (refl, elim (eqb_tells (length pw) 0) [ inl w ↦ nil_from_length pw w.1 | inr w ↦ cc (sym is ∙ w.0) ])
barred Taken pw is = cc is

pub both_lines : (known mid left : Option (List ℕ)) (first second : List ℕ) → IfSome known (λ bytes. ReadsLine bytes mid first) → IfSome mid (λ bytes. ReadsLine bytes left second) → IfSome known (λ bytes. ReadsLines bytes left first second)
both_lines None mid left first second reads next = tt
both_lines (Some bytes) mid left first second reads next = record { there = reads.there; first_is = reads.line_is; second_is = rw reads.left_is at next }

second_empty : (known left : Option (List ℕ)) (first second : List ℕ) → IfSome known (λ bytes. ReadsLines bytes left first second) → second ≡ [] → IfSome known (λ bytes. HasEmptyLine (behind_line bytes))
second_empty None left first second reads none = tt
second_empty (Some bytes) left first second reads none = (reads.second_is.there, sym reads.second_is.line_is ∙ none)

pub second_barred : (empty : EmptyPassword) (r : Reading) (first second : List ℕ) → is_barred empty second ≡ true → IfSome r.input (λ bytes. ReadsLines bytes r.left first second) → IsMisread (PresentAndNew empty) r fault.Empty
second_barred empty r first second is reads = let (refused, none) = barred empty second is in (refused, second_empty r.input r.left first second reads none)
