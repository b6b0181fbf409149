-- A line with more pieces than any line may have asks for nothing, whatever the pieces are.
use Rattle.std.proofs.{Common.◌≡◌, Common.ℕ, Common.List, Common.◌∷◌, Common.◌++◌, Common.length, Common.take, Common.false, Common.nat_lt, Common.if◌then◌else◌, Common.Result, Common.arith, Common.refl, Common.ap, Common.◌∙◌, lemmas.List.take-append-le, lemmas.List.take_all}
use Rattle.cred_phc.specs.Pieces.{pieces}
use Rattle.cred_cli.specs.{Events.event_of, Events.event_of_pieces, Events.longest_line, Events.most_pieces, Events.or_bad, declared.event.Event.Event, declared.event.Event.TheVariants.Bad, declared.refusal.Refusal.Refusal, declared.refusal.Refusal.TheVariants.Long}

first_pieces_tell : (line : List (List ℕ)) → event_of_pieces (take most_pieces line) ≡ event_of_pieces line
first_pieces_tell (a ∷ b ∷ c ∷ d ∷ e ∷ f ∷ g ∷ h ∷ more) = refl
first_pieces_tell _ = refl

-- the line asks for what its first pieces ask for
pub line_read : (line : List ℕ) (kept : List (List ℕ)) (read : Result Event Refusal) → false ≡ nat_lt longest_line (length line) → kept ≡ take most_pieces (pieces 32 line) →
    read ≡ event_of_pieces kept → or_bad read ≡ event_of line
unfolding event_of
line_read line kept read short first is =
    ap or_bad (is ∙ ap event_of_pieces first ∙ first_pieces_tell (pieces 32 line)) ∙ ap (λ test. if test then Bad Long else or_bad (event_of_pieces (pieces 32 line))) short

-- the pieces that were read while more were left
pub first_taken : (line taken rest : List (List ℕ)) → line ≡ taken ++ rest → length taken ≡ most_pieces → taken ≡ take most_pieces line
first_taken line taken rest cut full = rw (cut, take-append-le most_pieces taken rest (omega (arith, full)), take_all most_pieces taken (omega (arith, full))) refl
