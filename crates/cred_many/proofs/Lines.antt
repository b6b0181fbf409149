-- The lines that a reader comes to are lines of its input.
use Rattle.std.proofs.Common.{◌≡◌, ◌≢◌, ◌==◌, ℕ, zero, suc, ◌+◌, ◌<◌, ◌≤◌, List, [], ◌∷◌, ◌++◌, length, take, Option, Some, None, IfSome, true, false, nat_lt, option_map, slice_get, refl, sym, ap, ◌∙◌, arith, append_assoc, append-nil, inl, inr}
use Rattle.std.proofs.{lemmas.Bool.cases_lt, lemmas.Bool.Decides.eqb_tells, lemmas.List.length-append, lemmas.List.length-take, lemmas.List.nil_from_length, lemmas.List.take_all, lemmas.Option.IfSome_then}
use Rattle.std.specs.List.{filter}
use Rattle.cred_phc.specs.{Pieces.pieces, Values.SettingValue}
use Rattle.cred_cli.specs.{Events.longest_line, Events.most_kept, Events.most_pieces, Feeding.unfinished_from, Script.line_ends, Script.lines_of, declared.costs.CostBounds.CostBounds}
use Rattle.cred_cli.proofs.{Feeds.get_seam, Feeds.none_kept, Feeds.some_kept, Feeds.take-kept, Readings.if_known}
use Rattle.cred_cli.proofs.Lines.{length-whole_from, line_ends-append, line_ends-end, line_ends-more, lines_of-ended, lines_of-line_end, lines_of-unfinished, longer, unfinished_from-end, unfinished_from-more, whole_from}
use Rattle.cred_many.specs.{LineOperations.Tagged, LineOperations.entry_of, LineOperations.tag_of, LineOperations.tagged, LineOperations.tagged_by, LineOperations.tagged_of, LineOperations.untagged, LineOperations.within, Reading.ComesNext, Reading.IsCutLine, Reading.IsWholeLine, Reading.MovesOver, Reading.NothingIsLeft, Reading.Place, Reading.Splits}
use Rattle.cred_many.specs.Service.{IsLine, Service, asked_from, cut_line, drawn_setting}
use Rattle.cred_many.proofs.Unended.{ends_sooner, unended_at, unended_last}
use Rattle.cred_cli.specs.declared.refusal.Refusal.TheVariants as refusal

pub long_read : (drawn : SettingValue) (line : List ℕ) → nat_lt longest_line (length line) ≡ true → untagged refusal.Long ≡ tagged_of drawn line
unfolding tagged_of
long_read drawn line long = rw long refl

-- the kept part of a line is enough to show that the line is too long
tagged_of-kept : (drawn : SettingValue) (line : List ℕ) → tagged_of drawn (take most_kept line) ≡ tagged_of drawn line
tagged_of-kept drawn line = elim (cases_lt longest_line (length line)) [
  | inl long ↦ sym (long_read drawn (take most_kept line) (longer _ (rw length-take (omega (arith, long))))) ∙ long_read drawn line (longer line long)
  | inr short ↦ ap (tagged_of drawn) (take_all most_kept line (omega (arith, short)))
]

-- a line is asked under its number
asked_at : (s : Service) (n : ℕ) (lines : List (List ℕ)) (i : ℕ) (line : List ℕ) → slice_get lines i ≡ Some line
    → slice_get (asked_from s n lines) i ≡ Some (entry_of (n + i) s.most (drawn_setting s (n + i)) line)
unfolding asked_from
asked_at s n [] i line is = absurd cc
asked_at s n (l ∷ ls) zero line is =
    let same : l ≡ line = cc in
    let here : n ≡ n + 0 = omega arith in
    ap (λ m. Some (entry_of m s.most (drawn_setting s m) l)) here ∙ ap (λ t. Some (entry_of (n + 0) s.most (drawn_setting s (n + 0)) t)) same
asked_at s n (l ∷ ls) (suc i) line is =
    let next : suc n + i ≡ n + suc i = omega arith in
    asked_at s (suc n) ls i line is ∙ ap (λ m. Some (entry_of m s.most (drawn_setting s m) line)) next

-- so the kept part of the line is read as the line
pub kept_came : (s : Service) (input : Option (List ℕ)) (at : Place) (most : CostBounds) (drawn : SettingValue) → most ≡ s.most → drawn ≡ drawn_setting s at.number
    → IfSome input (λ all. IsWholeLine all at) → IfSome input (λ all. IsLine s all (entry_of at.number most drawn at.start))
kept_came s None at most drawn same is came = tt
kept_came s (Some all) at most drawn same is (line, there, kept, ended) =
    unended_at (λ e. cut_line e.number) all (asked_from s 0 (lines_of all)) at.number ended
    ∙ asked_at s 0 (lines_of all) at.number line there ∙ ap (λ n. Some (entry_of n s.most (drawn_setting s n) line)) (omega arith)
    ∙ sym (ap Some (ap (entry_of at.number most drawn) kept ∙ entry_kept ∙ ap (λ d. entry_of at.number most d line) is ∙ ap (λ m. entry_of at.number m (drawn_setting s at.number) line) same))
  where
    entry_kept : entry_of at.number most drawn (take most_kept line) ≡ entry_of at.number most drawn line
    entry_kept = ap (λ t. record { number = at.number; tag = t.0; operation = within most t.1 }) (tagged_of-kept drawn line)

-- and a line without its end comes as a refused one
pub cut_came : (s : Service) (input : Option (List ℕ)) (number : ℕ) → IfSome input (λ all. IsCutLine all number) → IfSome input (λ all. IsLine s all (cut_line number))
cut_came s input number came = IfSome_then input came (λ all here.
    unended_last (λ e. cut_line e.number) all (asked_from s 0 (lines_of all)) number here.2
    ∙ ap (option_map (λ e. cut_line e.number)) (asked_at s 0 (lines_of all) number here.0 here.1)
    ∙ ap (λ n. Some (cut_line n)) (omega arith))

come_at : (all : List ℕ) (n : ℕ) (line : List ℕ) (before more : List (List ℕ)) → lines_of all ≡ before ++ line ∷ more → n ≡ length before → slice_get (lines_of all) n ≡ Some line
come_at all n line before more cut number = ap (λ lines. slice_get lines n) cut ∙ ap (slice_get (before ++ line ∷ more)) number ∙ get_seam before line more

-- the line that ends here has come
pub line_came : (input : Option (List ℕ)) (at : Place) → ComesNext input at (10 ∷ []) → IfSome input (λ all. IsWholeLine all at)
line_came input at before = if_known input _ (λ all known.
    let (rest, here) = before all known in
    let there = come_at all at.number (unfinished_from [] here.front) (whole_from [] here.front) (lines_of rest) (ap lines_of here.cut ∙ lines_of-line_end here.front rest)
    (here.number_is ∙ sym (length-whole_from [] here.front)) in
    let sooner : line_ends here.front < line_ends (here.front ++ 10 ∷ rest) = ends_sooner here.front rest in
    let same : line_ends all ≡ line_ends (here.front ++ 10 ∷ rest) = ap line_ends here.cut in
    (unfinished_from [] here.front, there, here.start_is, omega (arith, sooner, same, here.number_is)))

module _ (input : Option (List ℕ)) (at : Place) (ended : NothingIsLeft input at) where
  whole_front : (all : List ℕ) (known : input ≡ Some all) → (ended all known).front ≡ all
  whole_front all known = sym ((ended all known).cut ∙ append-nil (ended all known).front)

  -- the last line, without its end, has come too, and then all have
  pub with_last : 0 < length at.start → IfSome input (λ all. IsCutLine all at.number × (at.number + 1 ≡ length (lines_of all)))
  with_last some = if_known input _ (λ all known.
      let here = ended all known in
      let whole : here.front ≡ all = whole_front all known in
      let left : 0 < length (unfinished_from [] all) = rw whole at (some_kept at.start (unfinished_from [] here.front) here.start_is some) in
      let lines = lines_of-unfinished all left in
      let number : at.number ≡ line_ends all = here.number_is ∙ ap line_ends whole in
      let count = ap length lines ∙ length-append (whole_from [] all) (unfinished_from [] all ∷ []) in (
        (unfinished_from [] all, come_at all at.number (unfinished_from [] all) (whole_from [] all) [] lines (number ∙ sym (length-whole_from [] all)), number),
        omega (arith, count, number, length-whole_from [] all),
      ))

  -- as they have if the last one has an end
  pub count_ended : length at.start ≡ 0 → IfSome input (λ all. at.number + 0 ≡ length (lines_of all))
  count_ended none = if_known input _ (λ all known.
      let here = ended all known in
      let whole : here.front ≡ all = whole_front all known in
      let left : unfinished_from [] all ≡ [] = rw whole at (none_kept at.start (unfinished_from [] here.front) here.start_is none) in
      let count : length (lines_of all) ≡ line_ends all = ap length (lines_of-ended all left) ∙ length-whole_from [] all in
      let number : at.number ≡ line_ends all = here.number_is ∙ ap line_ends whole in
      omega (arith, count, number))

-- a byte of a line
pub byte_taken : (input : Option (List ℕ)) (old new : Place) (b : ℕ) → b ≢ 10 → new.start ≡ take most_kept (old.start ++ b ∷ []) → new.number ≡ old.number → MovesOver input old (b ∷ []) new
byte_taken input old new b ne pushed same = λ all rest known at. record {
  front = at.front ++ b ∷ [];
  cut = at.cut ∙ sym (append_assoc at.front (b ∷ []) rest);
  start_is = pushed ∙ rw (at.start_is, unfinished_from-more [] at.front b ne) (take-kept most_kept (unfinished_from [] at.front) b);
  number_is = same ∙ at.number_is ∙ sym (line_ends-more at.front b ne);
}

-- a line end
pub end_taken : (input : Option (List ℕ)) (old new : Place) → new.start ≡ [] → new.number ≡ old.number + 1 → MovesOver input old (10 ∷ []) new
end_taken input old new cleared next = λ all rest known at. record {
  front = at.front ++ 10 ∷ [];
  cut = at.cut ∙ sym (append_assoc at.front (10 ∷ []) rest);
  start_is = cleared ∙ sym (ap (take most_kept) (unfinished_from-end [] at.front));
  number_is = omega (arith, next, at.number_is, line_ends-end at.front);
}

-- ---- a line, read

first_pieces_tell : (drawn : SettingValue) (line : List (List ℕ)) → tagged drawn (take most_pieces line) ≡ tagged drawn line
first_pieces_tell drawn (a ∷ b ∷ c ∷ d ∷ e ∷ f ∷ g ∷ h ∷ more) = many (tag_of a)
  where
    many : (t : Option (List ℕ)) → tagged_by drawn t (b ∷ c ∷ d ∷ e ∷ f ∷ g ∷ h ∷ []) ≡ tagged_by drawn t (b ∷ c ∷ d ∷ e ∷ f ∷ g ∷ h ∷ more)
    many None = refl
    many (Some tag) = refl
first_pieces_tell drawn _ = refl

pub short_read : (drawn : SettingValue) (line : List ℕ) (kept : List (List ℕ)) (t : Tagged) → nat_lt longest_line (length line) ≡ false → kept ≡ take most_pieces (pieces 32 line) → t ≡ tagged drawn kept → t ≡ tagged_of drawn line
unfolding tagged_of
short_read drawn line kept t short first is = rw short (is ∙ ap (tagged drawn) first ∙ first_pieces_tell drawn (pieces 32 line))

-- ---- line ends in turn

-- each line end ends a line
ends_few_lines : (all : List ℕ) → line_ends all ≤ length (lines_of all)
ends_few_lines all = elim (cases_lt 0 (length (unfinished_from [] all))) [
  | inl left ↦ let count = ap length (lines_of-unfinished all left) ∙ length-append (whole_from [] all) (unfinished_from [] all ∷ []) in omega (arith, count, length-whole_from [] all)
  | inr none ↦ let count = ap length (lines_of-ended all (nil_from_length (unfinished_from [] all) (omega (arith, none)))) ∙ length-whole_from [] all in omega (arith, count)
]

-- so there are as many lines as were handed on
pub many_lines : (input : Option (List ℕ)) (at : Place) (least : ℕ) → ((all : List ℕ) → input ≡ Some all → (rest : List ℕ) × Splits all at rest) → least ≤ at.number
    → IfSome input (λ all. least ≤ length (lines_of all))
many_lines input at least came many = if_known input _ (λ all known.
    let (rest, here) = came all known in
    let ends = ap line_ends here.cut ∙ line_ends-append here.front rest in
    let some = ends_few_lines all in
    omega (arith, ends, some, here.number_is, many))

pub line_ends-short : (bytes : List ℕ) → line_ends bytes ≤ length bytes
line_ends-short [] = omega arith
line_ends-short (c ∷ cs) = elim (eqb_tells c 10) [
  | inl w ↦ rw w.0 (let r = line_ends-short cs in omega (arith, r))
  | inr w ↦ rw w.0 (let r = line_ends-short cs in omega (arith, r))
]

-- the given lines and those that are handed on grow alike
pub counted : (given more handed now next : ℕ) → handed ≡ given → now ≡ handed + more → next ≡ given + more → now ≡ next
counted given more handed now next same on is = on ∙ ap (λ n. n + more) same ∙ sym is

-- the bytes that end lines are as many
pub length-ends : (bytes : List ℕ) → length (filter (λ b. b == 10) bytes) ≡ line_ends bytes
length-ends [] = refl
length-ends (c ∷ cs) = elim (eqb_tells c 10) [
  | inl w ↦ rw w.0 (ap suc (length-ends cs))
  | inr w ↦ rw w.0 (length-ends cs)
]
