-- Records whose tags are worked in parts: the result of the last slice, and the answer about it.
use Rattle.std.proofs.Common.{◌≡◌, ◌∙◌, ◌⊎◌, ◌↔◌, ℕ, List, [], length, Option, Some, None, Result, Ok, Err, IfOk, IfErr, inl, inr, ap, refl, sym, arith}
use Rattle.cred_argon.specs.{Argon.argon, Parameters.Parameters, Parameters.parameters, declared.block.Block.Block}
use Rattle.cred_argon.specs.declared.error.ArgonError.TheVariants.{Memory}
use Rattle.cred_phc.specs.{Tags.argon_kind, Tags.argon_parameters, Tags.scheme_tag, Tags.tag, Text.record_text}
use Rattle.cred_phc.specs.{Values.RecordValue, Values.SettingValue, Values.record_of, declared.setting.Scheme.Scheme}
use Rattle.cred_phc.specs.declared.setting.Scheme.TheVariants.{Argon2, Scrypt}
use Rattle.cred_c.specs.Answers.{IsWritten, Output, output}
use Rattle.cred_c.specs.Lanes.{IsFilled, IsSlice, IsEndUnder, IsRecordEndUnder, part_fault_number, record_inputs}
use Rattle.cred_c.specs.declared.part_fault.PartFault.{PartFault}
use Rattle.cred_c.specs.declared.part_fault.PartFault.TheVariants.{Argon, Place, Scrypt as NoLanes}

scheme_tag_is : (scheme : Scheme) (n : ℕ) (a : Parameters) (pw salt : List ℕ) → argon_parameters scheme n ≡ Some a
    → scheme_tag scheme n pw salt ≡ argon a pw salt [] []
scheme_tag_is (Argon2 version variant m t p) n a pw salt is =
    let same : parameters version (argon_kind variant) m t p n ≡ a = cc in
    ap (λ (b : Parameters). argon b pw salt [] []) same
scheme_tag_is (Scrypt ln r p) n a pw salt is = absurd cc

pub tag_is : (setting : SettingValue) (n : ℕ) (a : Parameters) (pw : List ℕ) → argon_parameters setting.scheme n ≡ Some a
    → tag setting n pw ≡ argon a pw setting.salt [] []
unfolding tag
tag_is setting n a pw is = scheme_tag_is setting.scheme n a pw setting.salt is

-- the result of a last slice under a setting, whose parameters are p
pub record IsMade (s : SettingValue) (n : ℕ) (p : Option Parameters) (last : List Block) (made : Result (List ℕ) PartFault) : Type 0 where
  pub scheme : p ≡ None → made ≡ Err NoLanes
  pub place : (a : Parameters) → p ≡ Some a → (IsSlice a last → ⊥) → made ≡ Err Place
  pub memory : (a : Parameters) → p ≡ Some a → IsSlice a last → IfErr made (λ f. f ≡ Argon Memory)
  pub tag_of : (a : Parameters) → p ≡ Some a → (pw : List ℕ) → IsFilled a (record_inputs pw s.salt) last → IfOk made (λ t. t ≡ tag s n pw)

-- the verdict on a computed tag
pub end_of_tag : (v : RecordValue) (p : Option Parameters) (last : List Block) (t : List ℕ) (answer : ℕ)
    → IsMade v.setting (length v.tag) p last (Ok t) → (answer ≡ 0) ↔ (t ≡ v.tag) → (answer ≡ 0) ⊎ (answer ≡ 10) → IsEndUnder v p last answer
end_of_tag v None last t answer made right one_of = let no = made.scheme refl in absurd cc
end_of_tag v (Some a) last t answer made right one_of = record {
  place = λ no. let other = made.place a refl no in absurd cc;
  one_of = λ _. elim one_of [ inl h ↦ inl h | inr h ↦ inr (inr h) ];
  verdict = λ _ pw short filled.
      let is = made.tag_of a refl pw filled in
      record {
        long = λ long. absurd (omega (arith, long, short));
        other = λ _. elim one_of [ inl h ↦ inl h | inr h ↦ inr (inr h) ];
        right = λ zero. sym (right.0 zero) ∙ is;
        wrong = λ ten same. let zero = right.1 (is ∙ sym same) in absurd (omega (arith, zero, ten));
      };
}

-- the answer without a computed tag
pub end_of_fault : (v : RecordValue) (p : Option Parameters) (last : List Block) (f : PartFault)
    → IsMade v.setting (length v.tag) p last (Err f) → IsEndUnder v p last (part_fault_number f)
end_of_fault v None last f made = let same : f ≡ NoLanes = (let e = made.scheme refl in cc) in ap part_fault_number same
end_of_fault v (Some a) last f made = record {
  place = λ no. let same : f ≡ Place = (let e = made.place a refl no in cc) in ap part_fault_number same;
  one_of = λ slice. inr (inl (eight slice));
  verdict = λ slice pw short filled.
      let e = eight slice in
      record {
        long = λ long. absurd (omega (arith, long, short));
        other = λ _. inr (inl e);
        right = λ zero. absurd (omega (arith, e, zero));
        wrong = λ ten. absurd (omega (arith, e, ten));
      };
}
  where
    eight : IsSlice a last → part_fault_number f ≡ 8
    eight slice = ap part_fault_number (made.memory a refl slice)

-- a record that was written from a computed tag
pub record_end_of_tag : (s : SettingValue) (n : ℕ) (p : Option Parameters) (last : List Block) (t : List ℕ) (o : Output)
    → IsMade s n p last (Ok t) → IsWritten (record_text (record_of s t)) o → IsRecordEndUnder s n p last o
record_end_of_tag s n None last t o made written = let no = made.scheme refl in absurd cc
record_end_of_tag s n (Some a) last t o made written = record {
  place = λ no. let other = made.place a refl no in absurd cc;
  one_of = λ _. written.one_of;
  written = λ _ pw filled. rw (← made.tag_of a refl pw filled) written;
}

pub record_end_of_fault : (s : SettingValue) (n : ℕ) (p : Option Parameters) (last : List Block) (f : PartFault) (old new : List ℕ) (len : ℕ)
    → IsMade s n p last (Err f) → IsRecordEndUnder s n p last (output (part_fault_number f) old new len)
record_end_of_fault s n None last f old new len made = let same : f ≡ NoLanes = (let e = made.scheme refl in cc) in ap part_fault_number same
record_end_of_fault s n (Some a) last f old new len made = record {
  place = λ no. let same : f ≡ Place = (let e = made.place a refl no in cc) in ap part_fault_number same;
  one_of = λ slice. inr (inl (eight slice));
  written = λ slice pw filled.
      let e = eight slice in
      record {
        one_of = inr (inl e);
        written = λ zero. absurd (omega (arith, e, zero));
        room = λ eleven. absurd (omega (arith, e, eleven));
      };
}
  where
    eight : IsSlice a last → part_fault_number f ≡ 8
    eight slice = ap part_fault_number (made.memory a refl slice)
