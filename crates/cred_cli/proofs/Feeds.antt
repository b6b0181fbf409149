-- The effect of one more byte, or of the end, on a script.
use Rattle.std.proofs.Common.{◌≡◌, ℕ, suc, ◌<◌, List, [], ◌∷◌, ◌++◌, length, take, map, option_map, Some, refl, sym, ap, ◌∙◌, arith, slice_get, get_or, drop, append_assoc, take-append-drop, inl, inr}
use Rattle.std.proofs.{Math.Seq.drop-cons, lemmas.Bool.cases_lt, lemmas.List.length-append, lemmas.List.length-map, lemmas.List.length-take, lemmas.List.nil_from_length, lemmas.List.take-append-le, lemmas.List.take_all, lemmas.Option.slice_get-map}
use Rattle.cred_cli.specs.{Events.event_of, Events.most_kept, Feeding.unfinished_from, Script.events_of, Script.lines_of, Script.line_ends}
use Rattle.cred_cli.proofs.Lines.{whole_from, lines_of-line_end, lines_of-ended, lines_of-unfinished, length-whole_from, event_of-kept}

pub get_seam : {A : Type 0} (front : List A) (x : A) (more : List A) → slice_get (front ++ x ∷ more) (length front) ≡ Some x
get_seam [] x more = refl
get_seam (y ∷ ys) x more = get_seam ys x more

-- the line at place i, of which not all need be kept
event_at : (all whole : List ℕ) (line : List ℕ) (more : List (List ℕ)) → lines_of all ≡ whole_from [] whole ++ line ∷ more →
    slice_get (events_of all) (line_ends whole) ≡ Some (event_of (take most_kept line))
event_at all whole line more cut =
    ap (λ lines. slice_get (map event_of lines) (line_ends whole)) cut
    ∙ ap (slice_get (map event_of (whole_from [] whole ++ line ∷ more))) (sym (length-whole_from [] whole))
    ∙ slice_get-map event_of (whole_from [] whole ++ line ∷ more) (length (whole_from [] whole))
    ∙ ap (option_map event_of) (get_seam (whole_from [] whole) line more)
    ∙ ap Some (sym (event_of-kept line))

-- the line that ends behind the front
pub ended_event : (all front rest : List ℕ) → all ≡ front ++ 10 ∷ rest → slice_get (events_of all) (line_ends front) ≡ Some (event_of (take most_kept (unfinished_from [] front)))
ended_event all front rest cut = event_at all front (unfinished_from [] front) (lines_of rest) (ap lines_of cut ∙ lines_of-line_end front rest)

-- bytes, of which not all need be kept
pub none_kept : (start line : List ℕ) → start ≡ take most_kept line → length start ≡ 0 → line ≡ []
none_kept start line kept none = nil_from_length line (omega (arith, none, ap length kept, length-take most_kept line))

pub some_kept : (start line : List ℕ) → start ≡ take most_kept line → 0 < length start → 0 < length line
some_kept start line kept some = omega (arith, some, ap length kept, length-take most_kept line)

-- the line that the script leaves unfinished is its last
pub record HasLast (all : List ℕ) : Type 0 where
  pub event : slice_get (events_of all) (line_ends all) ≡ Some (event_of (take most_kept (unfinished_from [] all)))
  pub count : length (events_of all) ≡ suc (line_ends all)

pub has_last : (all : List ℕ) → 0 < length (unfinished_from [] all) → HasLast all
has_last all some = record {
  event = event_at all all (unfinished_from [] all) [] (lines_of-unfinished all some);
  count = length-map (lines_of all) event_of
      ∙ ap length (lines_of-unfinished all some)
      ∙ length-append (whole_from [] all) (unfinished_from [] all ∷ [])
      ∙ omega (arith, length-whole_from [] all);
}

-- or every line has its end
pub count-ended : (all : List ℕ) → unfinished_from [] all ≡ [] → length (events_of all) ≡ line_ends all
count-ended all none = length-map (lines_of all) event_of ∙ ap length (lines_of-ended all none) ∙ length-whole_from [] all

-- a byte more than is kept
pub take-kept : (n : ℕ) (line : List ℕ) (b : ℕ) → take n (take n line ++ b ∷ []) ≡ take n (line ++ b ∷ [])
take-kept n line b = elim (cases_lt (length line) n) [
  | inl short ↦ ap (λ xs. take n (xs ++ b ∷ [])) (take_all n line (omega (arith, short)))
  | inr long ↦
      take-append-le n (take n line) (b ∷ []) (omega (arith, long, length-take n line))
      ∙ take_all n (take n line) (omega (arith, length-take n line))
      ∙ sym (take-append-le n line (b ∷ []) long)
]

-- where bytes are cut, one by one
pub cut_at : (bytes : List ℕ) (i : ℕ) → i < length bytes → (take i bytes ++ get_or bytes i 0 ∷ []) ++ drop (suc i) bytes ≡ bytes
cut_at bytes i within = append_assoc (take i bytes) (get_or bytes i 0 ∷ []) (drop (suc i) bytes) ∙ ap (λ xs. take i bytes ++ xs) (sym (drop-cons bytes i 0 within)) ∙ take-append-drop i bytes

pub take_front : (all front rest : List ℕ) (n : ℕ) → all ≡ front ++ rest → length front ≡ n → take n all ≡ front
take_front all front rest n cut size = ap (take n) cut ∙ take-append-le n front rest (omega (arith, size)) ∙ take_all n front (omega (arith, size))
