-- The tag that a setting gives a password.
use Rattle.std.specs.Prelude.{ℕ, List, [], Option, Some, None}
use Rattle.cred_argon.specs.declared.kind.Kind.{Kind}
use Rattle.cred_argon.specs.declared.kind.Kind.TheVariants.{D as ArgonD, I as ArgonI, Id as ArgonId}
use Rattle.cred_argon.specs.{Parameters.Parameters, Parameters.parameters, Argon.argon}
use Rattle.cred_scrypt.specs.Scrypt.{scrypt}
use Rattle.cred_phc.specs.declared.setting.Variant.{Variant}
use Rattle.cred_phc.specs.declared.setting.Variant.TheVariants.{D, I, Id}
use Rattle.cred_phc.specs.{declared.setting.Scheme.Scheme, declared.setting.Scheme.TheVariants.Argon2, declared.setting.Scheme.TheVariants.Scrypt}
use Rattle.cred_phc.specs.Values.{SettingValue}

-- RFC 9106, section 3.1, type y
abbrev pub argon_kind : Variant → Kind
argon_kind D = ArgonD
argon_kind I = ArgonI
argon_kind Id = ArgonId

-- Argon2's parameters for a tag of len bytes by a scheme, if it is one of Argon2
abbrev pub argon_parameters : Scheme → ℕ → Option Parameters
argon_parameters (Argon2 version variant m t p) len =
    Some (parameters version (argon_kind variant) m t p len)
argon_parameters (Scrypt ln r p) len = None

-- the tag of len bytes by a scheme: Argon2 with no secret and no associated data (RFC 9106,
-- section 3.1), or scrypt with N = 2 ^ ln (RFC 7914, section 6)
abbrev pub scheme_tag : Scheme → ℕ → List ℕ → List ℕ → List ℕ
scheme_tag (Argon2 version variant m t p) len pw salt =
    argon (parameters version (argon_kind variant) m t p len) pw salt [] []
scheme_tag (Scrypt ln r p) len pw salt = scrypt ln r p len pw salt

-- the tag of len bytes that a setting gives the password pw
unfoldable pub tag : SettingValue → ℕ → List ℕ → List ℕ
tag setting len pw = scheme_tag setting.scheme len pw setting.salt
