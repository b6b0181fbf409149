-- The facts on each basis follow from the transcripts.
use Rattle.std.proofs.Common.{◌≡◌, ℕ, List, [], ◌++◌, Option, false, refl, subst}
use Rattle.cred_cli.specs.Watched.{Basis, MayFollow, Reading, Transcript, Writing, ended_of, given_of, reading_on, transcript_reading, transcript_writing, writing_on}
use Rattle.cred_cli.specs.declared.watched.Watched.{Watched}
use Rattle.cred_cli.proofs.Basis.{as_transcript_reading}
use Rattle.cred_admin.specs.Seen.{FitsSince}

module _ {R W : Type 0} (remaining : R → Option (List ℕ)) (contents : W → Option (List ℕ)) (old new : Watched R) (before now : Watched W) (fresh : given_of old ≡ []) (P : Reading → Writing → Type 0) where
  pub on_transcript : ended_of old ≡ false → ((basis : Basis) → FitsSince basis old new → P (reading_on basis remaining old new) (writing_on basis contents before now))
      → (rest : List ℕ) → MayFollow rest new → P (transcript_reading rest new) (transcript_writing before now)
  on_transcript was told rest may = subst (λ r. P r (transcript_writing before now)) (as_transcript_reading remaining old new rest (given_of new ++ rest) fresh refl)
      (told (Transcript (given_of new ++ rest)) (was, (rest, refl, may)))
