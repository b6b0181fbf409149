-- The effect of the read of one byte on a line.
use Rattle.std.proofs.Common.{◌≡◌, ◌≢◌, ℕ, ◌<◌, List, [], ◌∷◌, ◌++◌, length, take, Option, Some, None, IfSome, IfOk, OnOk, ◌⊎◌, inl, inr, Result, Ok, Err, subst, false, ◌==◌, if◌then◌else◌, refl, sym, ap, ◌∙◌, arith, append_assoc, append-nil, slice_index_or}
use Rattle.std.proofs.{lemmas.Bool.Decides.eqb_tells, lemmas.List.length-append}
use Rattle.std.specs.Io.KnownBytes.{Consumes}
use Rattle.cred_admin.specs.{declared.fault.Fault.Fault, Lines.line_before, Lines.behind_line, Lines.ReadsLine, Lines.Takes}

-- ---- one byte

one_taken : (buf : List ℕ) (n : ℕ) → length buf ≡ 1 → n ≡ 1 → take n buf ≡ slice_index_or buf 0 0 ∷ []
one_taken [] n size one = absurd (omega (arith, size))
one_taken (b ∷ []) n size one = rw one refl
one_taken (b ∷ c ∷ cs) n size one = absurd (omega (arith, size))

pub takes_one : (old now : Option (List ℕ)) (buf : List ℕ) (n : ℕ) → Consumes old now (take n buf) → length buf ≡ 1 → n ≡ 1 → IfSome old (λ bytes. Takes bytes now (Some (slice_index_or buf 0 0)))
takes_one None now buf n consumed size one = tt
takes_one (Some xs) None buf n consumed size one = absurd consumed
takes_one (Some xs) (Some ys) buf n consumed size one = (ys, rw (one_taken buf n size one) at consumed, refl)

-- ---- a line

-- the line so far, what is left of the bytes, and the line and the rest that they make
pub record GoesOn (bytes line rest : List ℕ) : Type 0 where
  pub cut : bytes ≡ line ++ rest
  pub line_is : line_before bytes ≡ line ++ line_before rest
  pub left_is : behind_line bytes ≡ behind_line rest

pub begins : (bytes : List ℕ) → GoesOn bytes [] bytes
begins bytes = record { cut = refl; line_is = refl; left_is = refl }

-- at the end of what is read, after a byte or more
pub at_end : (bytes line rest : List ℕ) (now : Option (List ℕ)) → GoesOn bytes line rest → 0 < length line → Takes rest now None → ReadsLine bytes now line
unfolding line_before behind_line
at_end bytes line rest now goes some (empty, is) = record {
  there = omega (arith, some, ap length goes.cut, length-append line rest);
  line_is = sym (append-nil line) ∙ sym (goes.line_is ∙ ap (λ r. line ++ line_before r) empty);
  left_is = is ∙ ap Some (sym (goes.left_is ∙ ap behind_line empty));
}

-- at a line end
pub at_line_end : (bytes line rest : List ℕ) (now : Option (List ℕ)) (byte : ℕ) → byte ≡ 10 → GoesOn bytes line rest → Takes rest now (Some byte) → ReadsLine bytes now line
unfolding line_before behind_line
at_line_end bytes line rest now byte end goes (left, cut, is) =
    let these : rest ≡ 10 ∷ left = cut ∙ ap (λ b. b ∷ left) end in
    record {
      there = omega (arith, ap length goes.cut, length-append line rest, ap length these);
      line_is = sym (append-nil line) ∙ sym (goes.line_is ∙ ap (λ r. line ++ line_before r) these);
      left_is = is ∙ ap Some (sym (goes.left_is ∙ ap behind_line these));
    }

-- at any other byte the line takes it
pub goes_on : (bytes line rest left : List ℕ) (byte : ℕ) → ((byte == 10) ≡ false) → GoesOn bytes line rest → rest ≡ byte ∷ left → GoesOn bytes (line ++ byte ∷ []) left
unfolding line_before behind_line
goes_on bytes line rest left byte other goes cut = record {
  cut = goes.cut ∙ ap (λ r. line ++ r) cut ∙ sym (append_assoc line (byte ∷ []) left);
  line_is = goes.line_is ∙ ap (λ r. line ++ line_before r) cut
      ∙ ap (λ t. line ++ (if t then [] else byte ∷ line_before left)) other ∙ sym (append_assoc line (byte ∷ []) (line_before left));
  left_is = goes.left_is ∙ ap behind_line cut ∙ ap (λ t. if t then left else behind_line left) other;
}

-- the end of what is read ends a line only after a byte of it
abbrev pub IsEnd : List ℕ → Option ℕ → Type 0
IsEnd line byte = ((byte ≡ None) × (0 < length line)) ⊎ (byte ≡ Some 10)

line_ended : (bytes line rest : List ℕ) (now : Option (List ℕ)) (byte : Option ℕ) → GoesOn bytes line rest → Takes rest now byte → IsEnd line byte → ReadsLine bytes now line
line_ended bytes line rest now byte goes takes (inl (none, some)) = at_end bytes line rest now goes some (rw none at takes)
line_ended bytes line rest now byte goes takes (inr ten) = at_line_end bytes line rest now 10 refl goes (rw ten at takes)

pub not_ten : (b : ℕ) → b ≢ 10 → (b == 10) ≡ false
not_ten b other = elim (eqb_tells b 10) [ inl w ↦ absurd (other w.1) | inr w ↦ w.0 ]

-- ---- where the bytes may be unknown

abbrev pub LineSoFar : Option (List ℕ) → Option (List ℕ) → List ℕ → Type 0
LineSoFar known now line = (bytes : List ℕ) → known ≡ Some bytes → (rest : List ℕ) × (now ≡ Some rest) × GoesOn bytes line rest

pub ended : (known mid now : Option (List ℕ)) (line : List ℕ) (byte : Option ℕ) (r : Result (List ℕ) Fault) → LineSoFar known mid line → IfSome mid (λ rest. Takes rest now byte)
    → IsEnd line byte → IfOk r (λ pw. pw ≡ line) → IfOk r (λ pw. IfSome known (λ bytes. ReadsLine bytes now pw))
ended known mid now line byte (Err e) so takes end is = tt
ended None mid now line byte (Ok pw) so takes end is = tt
ended (Some bytes) mid now line byte (Ok pw) so takes end is =
    let (rest, is_rest, goes) = so bytes refl in
    subst (λ w. ReadsLine bytes now w) (sym is) (line_ended bytes line rest now byte goes (rw is_rest at takes) end)

pub more : (known mid now : Option (List ℕ)) (line line' : List ℕ) (byte : ℕ) → LineSoFar known mid line → IfSome mid (λ rest. Takes rest now (Some byte)) → ((byte == 10) ≡ false) → line' ≡ line ++ byte ∷ [] → LineSoFar known now line'
more known mid now line line' byte so takes other is = λ bytes k.
    let (rest, at, goes) = so bytes k in
    let (left, cut, n) = taken mid now rest byte at takes in
    (left, n, subst (λ l. GoesOn bytes l left) (sym is) (goes_on bytes line rest left byte other goes cut))
  where
    taken : (mid now : Option (List ℕ)) (rest : List ℕ) (byte : ℕ) → mid ≡ Some rest → IfSome mid (λ r. Takes r now (Some byte)) → Takes rest now (Some byte)
    taken mid now rest byte is_rest takes = rw is_rest at takes

pub ended_at : (known mid now : Option (List ℕ)) (line : List ℕ) (byte : Option ℕ) → LineSoFar known mid line → IfSome mid (λ rest. Takes rest now byte) → byte ≡ None → IfSome known (λ bytes. now ≡ Some [])
ended_at None mid now line byte so takes end = tt
ended_at (Some bytes) mid now line byte so takes end = let (rest, is_rest, goes) = so bytes refl in (rw end at (rw is_rest at takes)).1

pub on_ok : {T E X : Type 0} (r : Result T E) → X → OnOk r X
on_ok (Ok t) x = x
on_ok (Err e) x = tt

-- the input ends with the first line
pub no_second : (known left : Option (List ℕ)) (line : List ℕ) → IfSome known (λ bytes. ReadsLine bytes left line) → IfSome known (λ bytes. left ≡ Some []) → IfSome known (λ bytes. (0 < length bytes) × (behind_line bytes ≡ []))
no_second None left line reads end = tt
no_second (Some bytes) left line reads end = (reads.there, cc (sym reads.left_is ∙ end))

-- the end before the first byte
none_at : (bytes line rest : List ℕ) (now : Option (List ℕ)) → GoesOn bytes line rest → length line ≡ 0 → Takes rest now None → bytes ≡ []
none_at bytes [] rest now goes none (empty, is) = goes.cut ∙ empty
none_at bytes (c ∷ line) rest now goes none takes = absurd (omega (arith, none))

pub no_line : (known mid now : Option (List ℕ)) (line : List ℕ) (byte : Option ℕ) → LineSoFar known mid line → IfSome mid (λ rest. Takes rest now byte) → byte ≡ None → length line ≡ 0 → IfSome known (λ bytes. bytes ≡ [])
no_line None mid now line byte so takes end none = tt
no_line (Some bytes) mid now line byte so takes end none =
    let (rest, is_rest, goes) = so bytes refl in none_at bytes line rest now goes none (rw end at (rw is_rest at takes))

-- a line with no end yet is a front of the whole line
pub is_long : (bytes line rest : List ℕ) → GoesOn bytes line rest → 256 < length line → 256 < length (line_before bytes)
is_long bytes line rest goes long = omega (arith, long, ap length goes.line_is, length-append line (line_before rest))

pub long_line : (known now : Option (List ℕ)) (line : List ℕ) → LineSoFar known now line → 256 < length line → IfSome known (λ bytes. 256 < length (line_before bytes))
long_line None now line so long = tt
long_line (Some bytes) now line so long = let (rest, at, goes) = so bytes refl in is_long bytes line rest goes long
