-- The lines of bytes that come in pieces.
use Rattle.std.proofs.Common.{◌≡◌, ℕ, suc, ◌+◌, ◌<◌, ◌≤◌, ◌≢◌, List, [], ◌∷◌, ◌++◌, length, take, true, if◌then◌else◌, nat_lt, refl, sym, ap, ◌∙◌, arith, append-nil, inl, inr}
use Rattle.std.proofs.{lemmas.Bool.Decides.eqb_tells, lemmas.Bool.Decides.nat_tests, lemmas.Bool.cases_lt, lemmas.List.length-take, lemmas.List.take_all}
use Rattle.std.specs.Bool.{◌==◌}
use Rattle.cred_phc.specs.Pieces.{pieces}
use Rattle.cred_cli.specs.{declared.event.Event.TheVariants.Bad, declared.refusal.Refusal.TheVariants.Long, Events.event_of, Events.event_of_pieces, Events.or_bad, Events.longest_line, Events.most_kept, Feeding.unfinished_from, Script.lines_of, Script.onto_first, Script.line_ends}

-- the lines that ended
abbrev pub whole_from : List ℕ → List ℕ → List (List ℕ)
whole_from start [] = []
whole_from start (c ∷ cs) = if c == 10 then start ∷ whole_from [] cs else whole_from (start ++ c ∷ []) cs

-- lines, the first of which goes on from a start
abbrev pub begun : List ℕ → List (List ℕ) → List (List ℕ)
begun [] lines = lines
begun (c ∷ cs) lines = onto_first c (begun cs lines)

begun_empty : (start : List ℕ) (lines : List (List ℕ)) → begun start ([] ∷ lines) ≡ start ∷ lines
begun_empty [] lines = refl
begun_empty (c ∷ cs) lines = ap (onto_first c) (begun_empty cs lines)

begun_more : (start : List ℕ) (c : ℕ) (lines : List (List ℕ)) → begun start (onto_first c lines) ≡ begun (start ++ c ∷ []) lines
begun_more [] c lines = refl
begun_more (d ∷ ds) c lines = ap (onto_first d) (begun_more ds c lines)

begun_last : (c : ℕ) (cs : List ℕ) → begun (c ∷ cs) [] ≡ (c ∷ cs) ∷ []
begun_last c [] = refl
begun_last c (d ∷ ds) = ap (onto_first c) (begun_last d ds)

lines_from : (start front rest : List ℕ) → begun start (lines_of (front ++ rest)) ≡ whole_from start front ++ begun (unfinished_from start front) (lines_of rest)
lines_from start [] rest = refl
lines_from start (c ∷ cs) rest = elim (eqb_tells c 10) [
  | inl w ↦ rw w.0 (begun_empty start (lines_of (cs ++ rest)) ∙ ap (λ lines. start ∷ lines) (lines_from [] cs rest))
  | inr w ↦ rw w.0 (begun_more start c (lines_of (cs ++ rest)) ∙ lines_from (start ++ c ∷ []) cs rest)
]

-- the whole lines of the front, the one that ends behind it, and the lines of the rest
pub lines_of-line_end : (front rest : List ℕ) → lines_of (front ++ 10 ∷ rest) ≡ whole_from [] front ++ unfinished_from [] front ∷ lines_of rest
lines_of-line_end front rest = lines_from [] front (10 ∷ rest) ∙ ap (λ lines. whole_from [] front ++ lines) (begun_empty (unfinished_from [] front) (lines_of rest))

last_line : (all : List ℕ) → lines_of all ≡ whole_from [] all ++ begun (unfinished_from [] all) []
last_line all = ap lines_of (sym (append-nil all)) ∙ lines_from [] all []

pub lines_of-ended : (all : List ℕ) → unfinished_from [] all ≡ [] → lines_of all ≡ whole_from [] all
lines_of-ended all none = last_line all ∙ ap (λ start. whole_from [] all ++ begun start []) none ∙ append-nil (whole_from [] all)

begun_some : (start : List ℕ) → 0 < length start → begun start [] ≡ start ∷ []
begun_some [] some = absurd (omega (arith, some))
begun_some (c ∷ cs) some = begun_last c cs

pub lines_of-unfinished : (all : List ℕ) → 0 < length (unfinished_from [] all) → lines_of all ≡ whole_from [] all ++ unfinished_from [] all ∷ []
lines_of-unfinished all some = last_line all ∙ ap (λ lines. whole_from [] all ++ lines) (begun_some (unfinished_from [] all) some)

pub length-whole_from : (start bytes : List ℕ) → length (whole_from start bytes) ≡ line_ends bytes
length-whole_from start [] = refl
length-whole_from start (c ∷ cs) = elim (eqb_tells c 10) [
  | inl w ↦ rw w.0 (ap suc (length-whole_from [] cs))
  | inr w ↦ rw w.0 (length-whole_from (start ++ c ∷ []) cs)
]

pub unfinished_from-end : (start front : List ℕ) → unfinished_from start (front ++ 10 ∷ []) ≡ []
unfinished_from-end start [] = refl
unfinished_from-end start (c ∷ cs) = elim (eqb_tells c 10) [
  | inl w ↦ rw w.0 (unfinished_from-end [] cs)
  | inr w ↦ rw w.0 (unfinished_from-end (start ++ c ∷ []) cs)
]

pub unfinished_from-more : (start front : List ℕ) (b : ℕ) → b ≢ 10 → unfinished_from start (front ++ b ∷ []) ≡ unfinished_from start front ++ b ∷ []
unfinished_from-more start [] b ne = elim (eqb_tells b 10) [
  | inl w ↦ absurd (ne w.1)
  | inr w ↦ rw w.0 refl
]
unfinished_from-more start (c ∷ cs) b ne = elim (eqb_tells c 10) [
  | inl w ↦ rw w.0 (unfinished_from-more [] cs b ne)
  | inr w ↦ rw w.0 (unfinished_from-more (start ++ c ∷ []) cs b ne)
]

-- ---- how many lines end

pub line_ends-append : (xs ys : List ℕ) → line_ends (xs ++ ys) ≡ line_ends xs + line_ends ys
line_ends-append [] ys = omega arith
line_ends-append (c ∷ cs) ys = elim (eqb_tells c 10) [
  | inl w ↦ rw w.0 (let r = line_ends-append cs ys in omega (arith, r))
  | inr w ↦ rw w.0 (line_ends-append cs ys)
]

pub line_ends-end : (front : List ℕ) → line_ends (front ++ 10 ∷ []) ≡ suc (line_ends front)
line_ends-end front = let r : line_ends (front ++ 10 ∷ []) ≡ line_ends front + 1 = line_ends-append front (10 ∷ []) in omega (arith, r)

pub no_end : (b : ℕ) → b ≢ 10 → line_ends (b ∷ []) ≡ 0
no_end b other = elim (eqb_tells b 10) [
  | inl w ↦ absurd (other w.1)
  | inr w ↦ rw w.0 refl
]

pub line_ends-more : (front : List ℕ) (b : ℕ) → b ≢ 10 → line_ends (front ++ b ∷ []) ≡ line_ends front
line_ends-more front b ne = let r = line_ends-append front (b ∷ []) in let none = no_end b ne in omega (arith, r, none)

-- a longer front has no fewer line ends
pub line_ends_longer : (front more : List ℕ) → line_ends front ≤ line_ends (front ++ more)
line_ends_longer front more = let r = line_ends-append front more in omega (arith, r)

-- ---- lines that are too long

pub longer : (line : List ℕ) → longest_line < length line → nat_lt longest_line (length line) ≡ true
longer line long = grind (arith, nat_tests)

-- a line that is too long is refused, whatever it contains
too_long : (line : List ℕ) → longest_line < length line → event_of line ≡ Bad Long
unfolding event_of
too_long line long = ap (λ test. if test then Bad Long else or_bad (event_of_pieces (pieces 32 line))) (longer line long)

-- so the kept part is enough to show that the line is too long
pub event_of-kept : (line : List ℕ) → event_of (take most_kept line) ≡ event_of line
event_of-kept line = elim (cases_lt longest_line (length line)) [
  | inl long ↦ too_long (take most_kept line) (rw length-take (omega (arith, long))) ∙ sym (too_long line long)
  | inr short ↦ ap event_of (take_all most_kept line (omega (arith, short)))
]
