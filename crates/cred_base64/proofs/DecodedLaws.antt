-- The result of decoding is bytes, and their letters are the text.
use Rattle.std.proofs.Common.{◌≡◌, ◌∙◌, ℕ, zero, suc, ◌+◌, ◌*◌, ◌/◌, ◌-◌, ◌<◌, true, false, List, [], ◌∷◌, ◌++◌, length, take, drop, get_or, slice_index, Some, None, arith, inl, inr, refl, ap, sym, subst, ◌⊎◌, take-append-drop, length-drop}
use Rattle.std.proofs.{lemmas.Bool.cases_lt, lemmas.Grind.same_number_lists, lemmas.List.get_or-drop, lemmas.List.nil_from_length}
use Rattle.std.specs.{Result.result_ok, declared.option.Option.Option, declared.result.Result.Result}
use Rattle.std.specs.declared.result.Result.TheVariants.{Ok, Err}
use Rattle.base64.specs.Decode.{or_else, symbol_error, group_error, group_bytes, groups_error, groups_bytes, groups_before_last, decode_group, decode_error, decode_outcome, decoded_bytes, lone_error, suffix_error, suffix_bytes, scan_last, leftover_bytes, no_leftover}
use Rattle.base64.specs.{Engines.standard_no_pad, GeneralPurpose.IsBytes, GeneralPurpose.decode_of, GeneralPurpose.decoded_of, GeneralPurpose.encode_of}
use Rattle.base64.specs.{Tables.is_inverse, declared.decode.DecodeError.DecodeError, declared.engine.DecodePaddingMode.DecodePaddingMode}
use Rattle.base64.specs.declared.engine.general_purpose.GeneralPurpose.{GeneralPurpose}
use Rattle.base64.proofs.Canonical.{IsScanned-scan, decoded_bytes-nil}
use Rattle.base64.proofs.EngineFacts.{decode_of_strict, decode_of-encode_of, decode_of_bytes, front_bytes}
use Rattle.base64.proofs.Tables.{are_tables_inverse, encode-decode_table}
use Rattle.cred_base64.specs.Letters.{letters_of, bytes_with}
use Rattle.cred_base64.proofs.PlaceLaws.{length-letters}

pub append_bytes : (a b : List ℕ) → IsBytes a → IsBytes b → IsBytes (a ++ b)
append_bytes [] b ha hb i = hb i
append_bytes (x ∷ a) b ha hb zero = ha 0
append_bytes (x ∷ a) b ha hb (suc i) = append_bytes a b (λ k. ha (suc k)) hb i

none_parts : (x y : Option DecodeError) → or_else x y ≡ None → (x ≡ None) × (y ≡ None)
none_parts None y h = (refl, h)
none_parts (Some e) y h = cc h

symbol_small : (enc dec s : List ℕ) (i : ℕ) → is_inverse enc dec ≡ true → IsBytes s → symbol_error dec s i ≡ None → slice_index dec (slice_index s i) < 64
symbol_small enc dec s i inverse bytes none = elim (encode-decode_table enc dec inverse (slice_index s i) (bytes i)) [
  | inl bad ↦ cc (rw bad at none)
  | inr good ↦ good.0
]

group_is_bytes : (a b c d : ℕ) → a < 64 → b < 64 → c < 64 → d < 64 → IsBytes (decode_group a b c d)
group_is_bytes a b c d x y z w zero = omega arith
group_is_bytes a b c d x y z w (suc zero) = omega arith
group_is_bytes a b c d x y z w (suc (suc zero)) = omega arith
group_is_bytes a b c d x y z w (suc (suc (suc i))) = omega arith

groups_are_bytes : (enc dec s : List ℕ) (q : ℕ) → is_inverse enc dec ≡ true → IsBytes s → groups_error dec s q ≡ None → IsBytes (groups_bytes dec s q)
unfolding groups_error groups_bytes
groups_are_bytes enc dec s zero inverse bytes none = λ i. omega arith
groups_are_bytes enc dec s (suc q) inverse bytes none =
    let at : ℕ = 4 * q in
    let parts = none_parts (groups_error dec s q) (group_error dec s at) none in
    let p0 = none_parts (symbol_error dec s at) _ parts.1 in
    let p1 = none_parts (symbol_error dec s (at + 1)) _ p0.1 in
    let p2 = none_parts (symbol_error dec s (at + 2)) (symbol_error dec s (at + 3)) p1.1 in
    append_bytes (groups_bytes dec s q) (group_bytes dec s at)
    (groups_are_bytes enc dec s q inverse bytes parts.0)
    (group_is_bytes _ _ _ _ (symbol_small enc dec s at inverse bytes p0.0) (symbol_small enc dec s (at + 1) inverse bytes p1.0)
    (symbol_small enc dec s (at + 2) inverse bytes p2.0) (symbol_small enc dec s (at + 3) inverse bytes p2.1))

front_is_bytes : (n a b c d : ℕ) → a < 64 → b < 64 → c < 64 → d < 64 → IsBytes (take n (decode_group a b c d))
front_is_bytes n a b c d x y z w =
    let m : List ℕ = decode_group a b c d in
    front_bytes (take n m) (drop n m) (subst IsBytes (sym (take-append-drop n m)) (group_is_bytes a b c d x y z w))

zeros_small : (k : ℕ) → slice_index (0 ∷ 0 ∷ 0 ∷ 0 ∷ []) k < 64
zeros_small zero = omega arith
zeros_small (suc zero) = omega arith
zeros_small (suc (suc zero)) = omega arith
zeros_small (suc (suc (suc zero))) = omega arith
zeros_small (suc (suc (suc (suc k)))) = omega arith

ok_or_err : {A E : Type 0} (r : Result A E) → ((x : A) × (r ≡ Ok x)) ⊎ ((e : E) × (r ≡ Err e))
ok_or_err (Ok x) = inl (x, refl)
ok_or_err (Err e) = inr (e, refl)

decoded_are_bytes : (enc dec s : List ℕ) (pad : ℕ) (mode : DecodePaddingMode) → is_inverse enc dec ≡ true → IsBytes s
    → decode_error dec pad false mode s ≡ None → IsBytes (decoded_bytes dec pad s)
decoded_are_bytes enc dec s pad mode inverse bytes none = elim (cases_lt 0 (length s)) [
  | inl some ↦
      let q : ℕ = groups_before_last (length s) in
      let at : ℕ = 4 * q in
      let p0 = none_parts (lone_error dec pad s) (or_else (groups_error dec s q) (suffix_error dec pad false mode at s)) none in
      let p1 = none_parts (groups_error dec s q) (suffix_error dec pad false mode at s) p0.1 in
      elim (ok_or_err (scan_last dec pad at s)) [
        | inl ok ↦
            let rest : List ℕ = drop at s in
            let size : length rest ≡ length s - at = length-drop at s in
            let rest_bytes : (k : ℕ) → slice_index rest k < 256 = λ k. rw (get_or-drop at s k 0) (bytes (at + k)) in
            let held = IsScanned-scan enc dec rest pad at rest no_leftover ok.0 0 inverse rest_bytes (omega arith) (omega arith) refl
            ((refl, refl, λ j lt. absurd (omega arith), λ j low lt. absurd (omega arith)), (omega arith, omega arith, omega arith, zeros_small)) ok.1 in
            let last : suffix_bytes dec pad at s ≡ leftover_bytes ok.0 = rw ok.1 refl in
            rw last (append_bytes (groups_bytes dec s q) (leftover_bytes ok.0) (groups_are_bytes enc dec s q inverse bytes p1.0) (front_is_bytes _ _ _ _ _ (held.1.3 0) (held.1.3 1) (held.1.3 2) (held.1.3 3)))
        | inr err ↦ cc (rw err.1 at p1.1)
      ]
  | inr empty ↦
      let e : s ≡ [] = nil_from_length s (omega arith) in
      rw (e, decoded_bytes-nil dec pad) (λ i. omega arith)
]

outcome_none : (x : Option DecodeError) (d b : List ℕ) → decode_outcome x d ≡ Ok b → x ≡ None
outcome_none None d b h = refl
outcome_none (Some e) d b h = cc h

decode_of_is_bytes : (e : GeneralPurpose) (s b : List ℕ) → e.config.decode_allow_trailing_bits ≡ false → IsBytes s → decode_of e s ≡ Ok b → IsBytes b
decode_of_is_bytes e s b strict bytes ok =
    let none : decode_error e.decode_table e.padding.value false e.config.decode_padding_mode s ≡ None = rw strict at (outcome_none _ _ b ok) in
    decode_of_bytes e s b
    (decoded_are_bytes e.encode_table e.decode_table s e.padding.value e.config.decode_padding_mode
    (are_tables_inverse e.encode_table e.decode_table e.padding.value e.tables) bytes none) ok

-- letters of bytes decode to these
pub bytes_with-letters : (bytes : List ℕ) → IsBytes bytes → bytes_with (letters_of bytes) ≡ Some bytes
unfolding bytes_with letters_of decoded_of
bytes_with-letters bytes small = ap result_ok (decode_of-encode_of standard_no_pad bytes refl small)

none_found : (r : Result (List ℕ) DecodeError) → ((b : List ℕ) → r ≡ Ok b → ⊥) → result_ok r ≡ None
none_found (Ok b) h = absurd (h b refl)
none_found (Err e) h = refl

-- the bytes that a text is read as, if the text is letters
abbrev pub IsReading : List ℕ → List ℕ → ℕ → Type 0
IsReading letters bytes n = (m : List ℕ) → IsBytes m → letters ≡ letters_of m → (k : ℕ) → k < n → k < length m → get_or bytes k 0 ≡ get_or m k 0

-- a text isn't base64 if its reading has other letters
pub no_bytes : (letters bytes : List ℕ) → IsBytes letters → length bytes ≡ length letters * 3 / 4 → IsReading letters bytes (length bytes)
    → (letters ≡ letters_of bytes → ⊥) → bytes_with letters ≡ None
unfolding bytes_with letters_of decoded_of
no_bytes letters bytes small size reading other = none_found (decode_of standard_no_pad letters) (λ b ok.
    let is : letters ≡ encode_of standard_no_pad b = decode_of_strict standard_no_pad letters b (refl, refl) small ok in
    let lb : length letters ≡ (4 * length b + 2) / 3 = ap length is ∙ length-letters b in
    let sizes : length bytes ≡ length b = omega arith in
    let same : bytes ≡ b = same_number_lists bytes b sizes (λ k h. reading b (decode_of_is_bytes standard_no_pad letters b refl small ok) is k h (omega arith)) in
    other (is ∙ ap (encode_of standard_no_pad) (sym same)))
