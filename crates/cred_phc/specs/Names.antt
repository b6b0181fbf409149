-- The names of variants and versions in texts: 0x13, the version of RFC 9106, is 19, and 0x10 is
-- 16.
use Rattle.std.specs.Prelude.{ℕ, List, codes}
pub use Rattle.cred_argon.specs.declared.kind.Version.{Version}
pub use Rattle.cred_argon.specs.declared.kind.Version.TheVariants.{V10, V13}
use Rattle.cred_phc.specs.declared.setting.Variant.{Variant}
use Rattle.cred_phc.specs.declared.setting.Variant.TheVariants.{D, I, Id}

abbrev pub variant_name : Variant → List ℕ
variant_name D = codes "argon2d"
variant_name I = codes "argon2i"
variant_name Id = codes "argon2id"

abbrev pub scrypt_name : List ℕ
scrypt_name = codes "scrypt"

-- the label before the number of a version
abbrev pub version_label : List ℕ
version_label = codes "v="

-- the labels before the numbers m, t and p of Argon2, and ln, r and p of scrypt
abbrev pub memory_label : List ℕ
memory_label = codes "m="

abbrev pub passes_label : List ℕ
passes_label = codes "t="

abbrev pub cost_label : List ℕ
cost_label = codes "ln="

abbrev pub block_size_label : List ℕ
block_size_label = codes "r="

abbrev pub parallelism_label : List ℕ
parallelism_label = codes "p="

abbrev pub version_text : Version → List ℕ
version_text V10 = codes "v=16"
version_text V13 = codes "v=19"
