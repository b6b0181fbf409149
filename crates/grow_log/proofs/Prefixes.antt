-- Beginnings of one list.
use Rattle.std.proofs.Common.{◌≡◌, ◌<◌, ◌≤◌, List, ◌++◌, length, take, drop, take-append-drop, Bool, true, false, MatchBool, ap, sym, arith, length-append, ◌∙◌}
use Rattle.std.proofs.{Math.Seq.take-append_seam, lemmas.Bool.Decides.nat_tests, lemmas.List.append-nil, lemmas.List.append_assoc, lemmas.List.nil_from_length, lemmas.List.take-append-le}
use lib.Dec.{leb}
use mathlib.Core.List.{IsPrefix}
use Rattle.grow_log.specs.Beginnings.{IsLonger}

-- of two beginnings of one list the shorter begins the longer
pub prefix_shorter : {T : Type 0} (xs ys zs : List T) → IsPrefix xs zs → IsPrefix ys zs → length xs ≤ length ys → IsPrefix xs ys
prefix_shorter xs ys zs p q le =
    let front : take (length xs) ys ≡ xs = sym (take-append-le (length xs) ys q.0 le) ∙ ap (take (length xs)) (q.1 ∙ sym p.1) ∙ take-append_seam xs p.0 in
    (drop (length xs) ys, ap (λ first. first ++ drop (length xs) ys) (sym front) ∙ take-append-drop (length xs) ys)

-- so it is enough to compare their lengths
pub prefix_told : {T : Type 0} (xs ys zs : List T) → IsPrefix xs zs → IsPrefix ys zs → (b : Bool) → leb (length xs) (length ys) ≡ b → MatchBool b (IsPrefix xs ys) (IsLonger ys xs)
prefix_told xs ys zs p q true is = let le : length xs ≤ length ys = grind (arith, nat_tests) in prefix_shorter xs ys zs p q le
prefix_told xs ys zs p q false is = let lt : length ys < length xs = grind (arith, nat_tests) in (prefix_shorter ys xs zs q p (omega arith), lt)

-- a beginning as long as the whole is the whole
pub prefix_whole : {T : Type 0} (xs ys : List T) → IsPrefix xs ys → length ys ≤ length xs → xs ≡ ys
prefix_whole xs ys p le =
    let none = nil_from_length p.0 (omega (arith, le, ap length p.1, length-append xs p.0)) in
    sym (append-nil xs) ∙ ap (λ rest. xs ++ rest) (sym none) ∙ p.1

-- a beginning is no longer than the whole
pub prefix_length : {T : Type 0} (xs ys : List T) → IsPrefix xs ys → length xs ≤ length ys
prefix_length xs ys p = omega (arith, ap length (p.1), length-append xs p.0)

pub prefix_trans : {T : Type 0} (xs ys zs : List T) → IsPrefix xs ys → IsPrefix ys zs → IsPrefix xs zs
prefix_trans xs ys zs p q = (p.0 ++ q.0, sym (append_assoc xs p.0 q.0) ∙ (ap (λ l. l ++ q.0) p.1 ∙ q.1))
