-- Names that are written one after another.
use Rattle.std.proofs.Common.{◌≡◌, ◌≢◌, ℕ, zero, suc, ◌-◌, List, [], ◌∷◌, ◌++◌, All, map, Bool, true, false, not, ◌&&◌, refl, sym, ap, ◌∙◌, append_assoc, append-nil, Option, arith}
use Rattle.std.specs.{Ordering.is_lt}
use Rattle.cred_phc.specs.Values.{RecordValue}
use Rattle.cred_book.specs.Names.{name_cmp}
use Rattle.cred_file.specs.{Cells.is_marked, Cells.mark_text, declared.marks.Mark.Mark}
use Rattle.cred_many.specs.Names.{is_listed, marked_page, page, spaced, spaced_marks}

abbrev pub Entries : Type 0
Entries = List (List ℕ × Option RecordValue)

-- the text that remains to be written of the remaining entries
abbrev pub rest_of : List ℕ → ℕ → Entries → List ℕ
rest_of from left es = spaced (page from left (map (λ e. e.0) es))

-- the line goes on with this text
abbrev pub Goes : List ℕ → List ℕ → ℕ → Entries → List ℕ → ℕ → Entries → Type 0
Goes from old most all now left rest = now ++ rest_of from left rest ≡ old ++ rest_of from most all

rest_kept : (from : List ℕ) (n : ℕ) (e : List ℕ × Option RecordValue) (es : Entries) → is_lt (name_cmp e.0 from) ≡ false → rest_of from (suc n) (e ∷ es) ≡ 32 ∷ e.0 ++ rest_of from n es
unfolding spaced
rest_kept from n e es is = rw is refl

rest_none : (from : List ℕ) (n : ℕ) → rest_of from n [] ≡ []
unfolding spaced
rest_none from zero = refl
rest_none from (suc n) = refl

module _ (from old now : List ℕ) (most : ℕ) (all rest : Entries) (left : ℕ) (goes : Goes from old most all now left rest) where
  -- a name that comes before the first one is left out
  pub skipped : (e : List ℕ × Option RecordValue) (es : Entries) → rest ≡ e ∷ es → is_lt (name_cmp e.0 from) ≡ true → Goes from old most all now left es
  skipped e es is before = rw before at (rw is at goes)

  -- any other name is written
  pub written : (e : List ℕ × Option RecordValue) (es : Entries) (spaced new : List ℕ) → rest ≡ e ∷ es → is_lt (name_cmp e.0 from) ≡ false
      → left ≢ 0 → spaced ≡ now ++ 32 ∷ [] → new ≡ spaced ++ e.0 → Goes from old most all new (left - 1) es
  written e es spaced new is not_before some one two =
      let shape : new ≡ now ++ 32 ∷ e.0 = two ∙ ap (λ t. t ++ e.0) one ∙ append_assoc now (32 ∷ []) e.0 in
      let less : left ≡ suc (left - 1) = omega (arith, some) in
      ap (λ t. t ++ rest_of from (left - 1) es) shape ∙ append_assoc now (32 ∷ e.0) (rest_of from (left - 1) es)
      ∙ ap (λ t. now ++ t) (sym (ap (λ k. rest_of from k rest) less ∙ ap (rest_of from (suc (left - 1))) is ∙ rest_kept from (left - 1) e es not_before)) ∙ goes

  pub all_written : rest ≡ [] → now ≡ old ++ rest_of from most all
  all_written none = sym (append-nil now) ∙ ap (λ t. now ++ t) (sym (ap (rest_of from left) none ∙ rest_none from left)) ∙ goes

  pub enough : left ≡ 0 → now ≡ old ++ rest_of from most all
  unfolding spaced
  enough none = sym (append-nil now) ∙ ap (λ t. now ++ t) (sym (ap (λ k. rest_of from k rest) none)) ∙ goes

-- ---- with their marks

module _ (mark : List ℕ → Mark) (from : List ℕ) where
  abbrev pub marks_text : ℕ → List (List ℕ) → List ℕ
  marks_text left names = spaced_marks mark (marked_page mark from left names)

  marks_kept : (n : ℕ) (x : List ℕ) (xs : List (List ℕ)) → is_listed mark from x ≡ true → marks_text (suc n) (x ∷ xs) ≡ (32 ∷ x ++ 58 ∷ mark_text (mark x)) ++ marks_text n xs
  unfolding spaced_marks
  marks_kept n x xs is = rw is refl

  marks_left : (n : ℕ) (x : List ℕ) (xs : List (List ℕ)) → is_listed mark from x ≡ false → marks_text n (x ∷ xs) ≡ marks_text n xs
  marks_left n x xs is = rw is refl

  marks_none : (n : ℕ) → marks_text n [] ≡ []
  unfolding spaced_marks
  marks_none zero = refl
  marks_none (suc n) = refl

  abbrev pub marks_of : ℕ → Entries → List ℕ
  marks_of left es = marks_text left (map (λ e. e.0) es)

  -- the line goes on with the remaining names
  abbrev pub GoesMarked : List ℕ → ℕ → Entries → List ℕ → ℕ → Entries → Type 0
  GoesMarked old most all now left rest = now ++ marks_of left rest ≡ old ++ marks_of most all

  module _ (old now : List ℕ) (most : ℕ) (all rest : Entries) (left : ℕ) (goes : GoesMarked old most all now left rest) where
    pub mark_skipped : (e : List ℕ × Option RecordValue) (es : Entries) → rest ≡ e ∷ es → is_listed mark from e.0 ≡ false → GoesMarked old most all now left es
    mark_skipped e es is not_listed = ap (λ t. now ++ t) (sym (ap (marks_of left) is ∙ marks_left left e.0 (map (λ f. f.0) es) not_listed)) ∙ goes

    pub mark_written : (e : List ℕ × Option RecordValue) (es : Entries) (new item : List ℕ) → rest ≡ e ∷ es → is_listed mark from e.0 ≡ true
        → left ≢ 0 → item ≡ 32 ∷ e.0 ++ 58 ∷ mark_text (mark e.0) → new ≡ now ++ item → GoesMarked old most all new (left - 1) es
    mark_written e es new item is listed some item_is shape =
        let less : left ≡ suc (left - 1) = omega (arith, some) in
        let kept : marks_of (suc (left - 1)) (e ∷ es) ≡ item ++ marks_of (left - 1) es =
        marks_kept (left - 1) e.0 (map (λ f. f.0) es) listed ∙ ap (λ t. t ++ marks_of (left - 1) es) (sym item_is) in
        ap (λ t. t ++ marks_of (left - 1) es) shape ∙ append_assoc now item (marks_of (left - 1) es)
        ∙ ap (λ t. now ++ t) (sym (ap (λ k. marks_of k rest) less ∙ ap (marks_of (suc (left - 1))) is ∙ kept)) ∙ goes

    pub all_marks_written : rest ≡ [] → now ≡ old ++ marks_of most all
    all_marks_written none = sym (append-nil now) ∙ ap (λ t. now ++ t) (sym (ap (marks_of left) none ∙ marks_none left)) ∙ goes

    pub enough_marks : left ≡ 0 → now ≡ old ++ marks_of most all
    unfolding spaced_marks
    enough_marks none = sym (append-nil now) ∙ ap (λ t. now ++ t) (sym (ap (λ k. marks_of k rest) none)) ∙ goes

-- the text is the same if each name has the same mark
module _ (one other : List ℕ → Mark) (from x : List ℕ) (xs : List (List ℕ)) (n : ℕ) (here : one x ≡ other x) (on : (k : ℕ) → marks_text one from k xs ≡ marks_text other from k xs) where
  alike : is_listed one from x ≡ is_listed other from x
  alike = ap (λ (m : Mark). is_marked m && not (is_lt (name_cmp x from))) here

  told_by : (b : Bool) → is_listed other from x ≡ b → marks_text one from (suc n) (x ∷ xs) ≡ marks_text other from (suc n) (x ∷ xs)
  told_by true is =
      marks_kept one from n x xs (alike ∙ is) ∙ ap (λ (m : Mark). (32 ∷ x ++ 58 ∷ mark_text m) ++ marks_text one from n xs) here
      ∙ ap (λ t. (32 ∷ x ++ 58 ∷ mark_text (other x)) ++ t) (on n) ∙ sym (marks_kept other from n x xs is)
  told_by false is = marks_left one from (suc n) x xs (alike ∙ is) ∙ on (suc n) ∙ sym (marks_left other from (suc n) x xs is)

pub marks_told : (one other : List ℕ → Mark) (from : List ℕ) (most : ℕ) (names : List (List ℕ)) → All (λ name. one name ≡ other name) names → marks_text one from most names ≡ marks_text other from most names
unfolding spaced_marks
marks_told one other from most [] same = marks_none one from most ∙ sym (marks_none other from most)
marks_told one other from zero (x ∷ xs) same = refl
marks_told one other from (suc n) (x ∷ xs) same =
    told_by one other from x xs n (same 0 x (omega arith)) (λ k. marks_told one other from k xs (λ i d low. same (suc i) d (omega (arith, low)))) (is_listed other from x) refl
