-- Argon2 in parts over the caller's memory: the meanings of numbers, the faults of a part's inputs,
-- and the results of the parts.
use Rattle.std.specs.Prelude.{◌≡◌, ℕ, ◌+◌, ◌-◌, ◌*◌, ◌^◌, ◌<◌, ◌⊎◌, List, [], length, Option, Some, None}
use Rattle.cred_argon.specs.{Argon.first_hash, Faults.IsFirstRawFault, Lanes.HoldsBlocks, Lanes.HoldsFirstBlocks, Numbers.kind_number, Numbers.version_number}
use Rattle.cred_argon.specs.declared.inputs.Inputs.{Inputs}
use Rattle.cred_argon.specs.{Parameters.Parameters, Parameters.parameters, Parameters.segment_len, Parameters.IsRaw, Tags.IsAnyTooLong}
use Rattle.cred_argon.specs.{declared.block.Block.Block, declared.kind.Kind.TheVariants.Id, declared.kind.Version.TheVariants.V13}
use Rattle.cred_argon.specs.declared.lanes.SegmentIndex.{SegmentIndex}
use Rattle.cred_c.specs.{Answers.IsVerdict, Answers.IsWritten, Answers.Output, Answers.argon_number, Inputs.IsKind, Inputs.IsVersion}
use Rattle.cred_c.specs.declared.part_fault.PartFault.{PartFault}
use Rattle.cred_c.specs.declared.part_fault.PartFault.TheVariants.{NoKind, NoVersion, Argon, Place, Scrypt}
use Rattle.cred_c.specs.declared.tag_numbers.TagNumbers.{TagNumbers}
use Rattle.cred_phc.specs.{Tags.argon_parameters, Tags.tag, Text.record_text, Values.RecordValue, Values.SettingValue, Values.record_of}

-- ---- faults

abbrev pub part_fault_number : PartFault → ℕ
part_fault_number NoKind = 12
part_fault_number NoVersion = 13
part_fault_number (Argon e) = argon_number e
part_fault_number Place = 27
part_fault_number Scrypt = 2

-- ---- numbers

-- the parameters that numbers stand for, in their ranges
pub record StandFor (n : TagNumbers) (a : Parameters) : Type 0 where
  pub kind_is : n.kind ≡ kind_number a.kind
  pub version_is : n.version ≡ version_number a.version
  pub memory_is : n.memory ≡ a.memory
  pub passes_are : n.passes ≡ a.passes
  pub lanes_are : n.lanes ≡ a.lanes
  pub tag_len_is : n.tag_len ≡ a.tag_len
  pub ranges : IsRaw a

-- the numbers as parameters of one kind and version: the ranges are the same for all of them
abbrev pub ranged : TagNumbers → Parameters
ranged n = parameters V13 Id n.memory n.passes n.lanes n.tag_len

-- the first fault of the numbers
abbrev pub IsNumbersFault : TagNumbers → PartFault → Type 0
IsNumbersFault n NoKind = 2 < n.kind
IsNumbersFault n NoVersion = IsKind n.kind × (IsVersion n.version → ⊥)
IsNumbersFault n (Argon e) = IsKind n.kind × IsVersion n.version × IsFirstRawFault (ranged n) e
IsNumbersFault n Place = ⊥
IsNumbersFault n Scrypt = ⊥

-- ---- the parts

-- the list has as many blocks as a slice
abbrev pub IsSlice : Parameters → List Block → Type 0
IsSlice a blocks = length blocks ≡ a.lanes * segment_len a

-- the inputs of a tag
pub record TagInputs : Type 0 where
  pub pw : List ℕ
  pub salt : List ℕ
  pub secret : List ℕ
  pub assoc : List ℕ

abbrev pub tag_inputs : Inputs → TagInputs
tag_inputs i = record {
  pw = i.pw.now;
  salt = i.salt.now;
  secret = i.secret.now;
  assoc = i.assoc.now;
}

-- the inputs of a record's tag
abbrev pub record_inputs : List ℕ → List ℕ → TagInputs
record_inputs pw salt = record { pw = pw; salt = salt; secret = []; assoc = [] }

-- the hash H0 of the inputs
abbrev pub hash_of : Parameters → TagInputs → List ℕ
hash_of a i = first_hash a i.pw i.salt i.secret i.assoc

abbrev pub HasLongInput : TagInputs → Type 0
HasLongInput i = IsAnyTooLong i.pw i.salt i.secret i.assoc

-- the first blocks of each lane are written into the first slice
pub record IsBegun (a : Parameters) (i : TagInputs) (answer : ℕ) (old new : List Block)
    : Type 0 where
  pub place : (IsSlice a old → ⊥) → answer ≡ 27
  pub long : IsSlice a old → HasLongInput i → answer ≡ 18
  pub begun : IsSlice a old → (HasLongInput i → ⊥) → (answer ≡ 0)
      × HoldsFirstBlocks a (hash_of a i) a.lanes new
  pub kept : (answer ≡ 0 → ⊥) → new ≡ old

-- the three slices before that of a segment
pub record SlicesBefore : Type 0 where
  pub oldest : List Block
  pub middle : List Block
  pub newest : List Block

abbrev pub slices_before : List Block → List Block → List Block → SlicesBefore
slices_before oldest middle newest =
    record { oldest = oldest; middle = middle; newest = newest }

abbrev pub AreSlices : Parameters → SlicesBefore → Type 0
AreSlices a s = IsSlice a s.oldest × IsSlice a s.middle × IsSlice a s.newest

-- there is such a segment, and the blocks are those of three slices and of a segment
pub record IsSegment (a : Parameters) (i : SegmentIndex) (s : SlicesBefore) (own : List Block)
    : Type 0 where
  pub inside : (i.slice < 4) × (i.lane < a.lanes)
  pub earlier : AreSlices a s
  pub blocks : length own ≡ segment_len a

-- there is such a segment and one of the next lane, and the blocks are those of three slices and
-- of both segments, one behind the other
pub record AreTwoSegments (a : Parameters) (i : SegmentIndex) (s : SlicesBefore) (own : List Block)
    : Type 0 where
  pub inside : (i.slice < 4) × (i.lane + 1 < a.lanes)
  pub earlier : AreSlices a s
  pub blocks : length own ≡ 2 * segment_len a

-- the blocks hold every cell of the memory's last slice, for these inputs
abbrev pub IsFilled : Parameters → TagInputs → List Block → Type 0
IsFilled a i last = HoldsBlocks a (hash_of a i) (4 * a.passes - 1) last

-- ---- records

-- Argon2's parameters of a record
abbrev pub record_parameters : RecordValue → Option Parameters
record_parameters v = argon_parameters v.setting.scheme (length v.tag)

-- the numbers are written, unless the text is one of scrypt
abbrev pub AreNumbers : Option Parameters → ℕ → TagNumbers → Type 0
AreNumbers None answer n = answer ≡ 2
AreNumbers (Some a) answer n = (answer ≡ 0) × StandFor n a

-- the first blocks of each lane are written, unless the text is one of scrypt
abbrev pub IsBegunUnder : Option Parameters → TagInputs → ℕ → List Block → List Block → Type 0
IsBegunUnder None i answer old new = (answer ≡ 2) × (new ≡ old)
IsBegunUnder (Some a) i answer old new = IsBegun a i answer old new

-- the answer about a record and the last slice of a password's memory
pub record IsEnd (v : RecordValue) (a : Parameters) (last : List Block) (answer : ℕ)
    : Type 0 where
  pub place : (IsSlice a last → ⊥) → answer ≡ 27
  pub one_of : IsSlice a last → (answer ≡ 0) ⊎ (answer ≡ 8) ⊎ (answer ≡ 10)
  pub verdict : IsSlice a last → (pw : List ℕ) → length pw < 2 ^ 32
      → IsFilled a (record_inputs pw v.setting.salt) last → IsVerdict v pw answer

abbrev pub IsEndUnder : RecordValue → Option Parameters → List Block → ℕ → Type 0
IsEndUnder v None last answer = answer ≡ 2
IsEndUnder v (Some a) last answer = IsEnd v a last answer

-- the answer to making a record from the last slice of a password's memory, with its text over the
-- front of a buffer
pub record IsRecordEnd (s : SettingValue) (tag_len : ℕ) (a : Parameters) (last : List Block)
    (o : Output) : Type 0 where
  pub place : (IsSlice a last → ⊥) → o.answer ≡ 27
  pub one_of : IsSlice a last → (o.answer ≡ 0) ⊎ (o.answer ≡ 8) ⊎ (o.answer ≡ 11)
  pub written : IsSlice a last → (pw : List ℕ) → IsFilled a (record_inputs pw s.salt) last
      → IsWritten (record_text (record_of s (tag s tag_len pw))) o

abbrev pub IsRecordEndUnder : SettingValue → ℕ → Option Parameters → List Block → Output → Type 0
IsRecordEndUnder s tag_len None last o = o.answer ≡ 2
IsRecordEndUnder s tag_len (Some a) last o = IsRecordEnd s tag_len a last o
