-- The numbers of the kinds and versions (RFC 9106, section 3.1; 0x10 is the version before it).
use Rattle.std.specs.Prelude.{ℕ}
use Rattle.cred_argon.specs.{declared.kind.Kind.Kind, declared.kind.Kind.TheVariants.D, declared.kind.Kind.TheVariants.I, declared.kind.Kind.TheVariants.Id}
use Rattle.cred_argon.specs.{declared.kind.Version.Version, declared.kind.Version.TheVariants.V10, declared.kind.Version.TheVariants.V13}

abbrev pub kind_number : Kind → ℕ
kind_number D = 0
kind_number I = 1
kind_number Id = 2

abbrev pub version_number : Version → ℕ
version_number V10 = 16
version_number V13 = 19
