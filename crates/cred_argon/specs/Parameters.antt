-- The parameters of an Argon2 tag (RFC 9106, section 3.1), and the parts of the memory (section
-- 3.2).
use Rattle.std.specs.Prelude.{ℕ, ◌*◌, ◌/◌, ◌≤◌}
use Rattle.cred_argon.specs.declared.params.TheConstants.{MAX_LANES, MAX_MEMORY, MAX_RAW_TAG, MAX_TAG, MIN_TAG}
use Rattle.cred_argon.specs.{declared.kind.Kind.Kind, declared.kind.Version.Version}

-- version v, type y, memory size m in KiB, number of passes t, degree of parallelism p, tag length
-- T in bytes
pub record Parameters : Type 0 where
  pub version : Version
  pub kind : Kind
  pub memory : ℕ
  pub passes : ℕ
  pub lanes : ℕ
  pub tag_len : ℕ

abbrev pub parameters : Version → Kind → ℕ → ℕ → ℕ → ℕ → Parameters
parameters version kind memory passes lanes tag_len = record {
  version = version;
  kind = kind;
  memory = memory;
  passes = passes;
  lanes = lanes;
  tag_len = tag_len;
}

-- the columns of a segment: the memory has m' = 4 * p * floor(m / 4p) blocks, a lane m' / p of
-- them, in four segments
abbrev pub segment_len : Parameters → ℕ
segment_len a = a.memory / (4 * a.lanes)

-- the ranges that this library takes, with a tag of at most `most` bytes
pub record IsUpTo (most : ℕ) (a : Parameters) : Type 0 where
  pub some_lane : 1 ≤ a.lanes
  pub lanes_at_most : a.lanes ≤ MAX_LANES
  pub memory_at_least : 8 * a.lanes ≤ a.memory
  pub memory_at_most : a.memory ≤ MAX_MEMORY
  pub some_pass : 1 ≤ a.passes
  pub tag_at_least : MIN_TAG ≤ a.tag_len
  pub tag_at_most : a.tag_len ≤ most

-- the ranges with a tag that a record can hold
abbrev pub IsParameters : Parameters → Type 0
IsParameters a = IsUpTo MAX_TAG a

-- the ranges with any tag that RFC 9106 allows: its length is written in 32 bits
abbrev pub IsRaw : Parameters → Type 0
IsRaw a = IsUpTo MAX_RAW_TAG a
