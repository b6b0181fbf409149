-- A text cut at a byte, and pieces joined by it.
use Rattle.std.proofs.Common.{◌≡◌, ℕ, ◌+◌, ◌-◌, ◌≤◌, ◌==◌, Bool, true, false, cond, not, List, [], ◌∷◌, length, take, drop, ◌++◌, Some, None, arith, refl, sym, ap, ◌∙◌, eq-eqb}
use borrow.Author.Tests.{ltb-true, ltb-false, not-true}
use Rattle.std.proofs.{lemmas.Grind.common_steps, lemmas.Option.cond_some, lemmas.List.Sums.AllPass-from_list_all}
use Rattle.std.specs.List.{position, position_or_len, slice_split, onto_first, join_with_byte, list_all, All}
use Rattle.std.proofs.lemmas.List.Splits.{slice_split_first, slice_split_at, slice_split_none, join_with_byte-slice_split}
use Rattle.std.proofs.lemmas.List.Folds.{list_all-append}
use Rattle.cred_phc.specs.Pieces.{pieces}

uncut_at : (b : Bool) (x n : ℕ) (xs : List ℕ) (parts : List (List ℕ)) → (length xs ≤ n → parts ≡ xs ∷ []) → length (x ∷ xs) ≤ cond (not b) (1 + n) 0
    → cond b ([] ∷ parts) (onto_first x parts) ≡ (x ∷ xs) ∷ []
uncut_at true x n xs parts below h = absurd (omega arith)
uncut_at false x n xs parts below h = rw (below (omega arith)) refl

-- if no byte passes the test, the text is one piece
uncut : (p : ℕ → Bool) (xs : List ℕ) → length xs ≤ position_or_len p xs → slice_split p xs ≡ xs ∷ []
uncut p [] h = refl
uncut p (x ∷ xs) h = uncut_at (p x) x (position_or_len p xs) xs (slice_split p xs) (uncut p xs) h

pub cut_first : (byte i : ℕ) (text : List ℕ) → Some i ≡ position (λ b. b == byte) text
    → pieces byte text ≡ take i text ∷ pieces byte (take (length text - (i + 1)) (drop (i + 1) text))
unfolding pieces
cut_first byte i text e =
    let p : ℕ → Bool = λ b. b == byte in
    let all : take (length text - (i + 1)) (drop (i + 1) text) ≡ drop (i + 1) text = grind (arith, common_steps) in
    let is = cond_some _ _ _ (sym e) in
    rw (all, ← is.1) (slice_split_first p text 0 (ltb-true _ _ is.0))

if_none : {A : Type 0} (b : Bool) (v : A) → cond b (Some v) None ≡ None → b ≡ false
if_none true v e = cc e
if_none false v e = refl

pub cut_none : (byte : ℕ) (text : List ℕ) → None ≡ position (λ b. b == byte) text → pieces byte text ≡ text ∷ []
unfolding pieces
cut_none byte text e = uncut (λ b. b == byte) text (ltb-false _ _ (if_none _ _ (sym e)))

-- the piece doesn't have the byte
abbrev pub lacks : ℕ → List ℕ → Bool
lacks byte piece = list_all (λ b. not (b == byte)) piece

pub lacks-append : (byte : ℕ) (xs ys : List ℕ) → lacks byte xs ≡ true → lacks byte ys ≡ true → lacks byte (xs ++ ys) ≡ true
lacks-append byte xs ys hx hy = rw (list_all-append, hx, hy) refl

lacking : (byte : ℕ) (xs : List ℕ) → lacks byte xs ≡ true → All (λ x. (x == byte) ≡ false) xs
lacking byte xs h k d within = not-true _ (AllPass-from_list_all (λ b. not (b == byte)) xs h k d within)

abbrev pub AllLack : ℕ → List (List ℕ) → Type 0
AllLack byte [] = Unit {0}
AllLack byte (piece ∷ pieces) = (lacks byte piece ≡ true) × AllLack byte pieces

-- pieces joined by a byte that no piece has are cut into the same pieces
pub pieces-join : (byte : ℕ) (first : List ℕ) (more : List (List ℕ)) → AllLack byte (first ∷ more)
    → pieces byte (join_with_byte byte (first ∷ more)) ≡ first ∷ more
unfolding pieces
pieces-join byte first [] h = slice_split_none (λ b. b == byte) first (lacking byte first h.0)
pieces-join byte first (next ∷ more) h =
    slice_split_at (λ b. b == byte) first byte (join_with_byte byte (next ∷ more)) (lacking byte first h.0) (eq-eqb byte byte refl)
    ∙ ap (λ parts. first ∷ parts) (pieces-join byte next more h.1)

-- likewise for fields that end in this one and those after it
pub pieces-join_front : (byte : ℕ) (front : List (List ℕ)) (field : List ℕ) (back : List (List ℕ)) → AllLack byte (front ++ field ∷ back)
    → pieces byte (join_with_byte byte (front ++ field ∷ back)) ≡ front ++ field ∷ back
pieces-join_front byte [] field back h = pieces-join byte field back h
pieces-join_front byte (first ∷ front) field back h = pieces-join byte first (front ++ field ∷ back) h

-- a text is the join of its pieces
pub join-pieces : (byte : ℕ) (text : List ℕ) (parts : List (List ℕ)) → pieces byte text ≡ parts → text ≡ join_with_byte byte parts
unfolding pieces
join-pieces byte text parts e = sym (join_with_byte-slice_split byte text) ∙ ap (join_with_byte byte) e
