-- Records that other programs made, as values: those of Argon2i and Argon2id and of scrypt from the
-- password `password`.
use Rattle.std.specs.Prelude.{[], ◌∷◌, codes, replicate}
use Rattle.cred_phc.specs.declared.setting.Scheme.TheVariants.{Argon2, Scrypt}
use Rattle.cred_argon.specs.declared.kind.Version.TheVariants.{V10, V13}
use Rattle.cred_phc.specs.declared.setting.Variant.TheVariants.{D, I, Id}
use Rattle.cred_phc.specs.Values.{RecordValue, setting_of, record_of}

-- by the reference program of Argon2, with the salt `somesalt`
unfoldable pub argon2id_record : RecordValue
argon2id_record = record_of (setting_of (Argon2 V13 Id 256 2 1) (codes "somesalt"))
    (157 ∷ 254 ∷ 185 ∷ 16 ∷ 232 ∷ 11 ∷ 173 ∷ 3 ∷ 17 ∷ 254 ∷ 226 ∷ 15 ∷ 156 ∷ 14 ∷ 43 ∷ 18
    ∷ 193 ∷ 121 ∷ 135 ∷ 180 ∷ 202 ∷ 201 ∷ 12 ∷ 46 ∷ 245 ∷ 77 ∷ 91 ∷ 48 ∷ 33 ∷ 198 ∷ 139 ∷ 254 ∷ [])

-- by the same, of version 0x10
unfoldable pub old_argon2i_record : RecordValue
old_argon2i_record = record_of (setting_of (Argon2 V10 I 256 2 1) (codes "somesalt"))
    (253 ∷ 77 ∷ 216 ∷ 61 ∷ 118 ∷ 44 ∷ 73 ∷ 189 ∷ 234 ∷ 245 ∷ 124 ∷ 71 ∷ 189 ∷ 205 ∷ 12 ∷ 47
    ∷ 27 ∷ 171 ∷ 248 ∷ 99 ∷ 253 ∷ 235 ∷ 73 ∷ 13 ∷ 246 ∷ 62 ∷ 222 ∷ 153 ∷ 117 ∷ 252 ∷ 207 ∷ 6 ∷ [])

-- RFC 7914, section 12, with the salt `NaCl`
unfoldable pub scrypt_record : RecordValue
scrypt_record = record_of (setting_of (Scrypt 10 8 16) (codes "NaCl"))
    (253 ∷ 186 ∷ 190 ∷ 28 ∷ 157 ∷ 52 ∷ 114 ∷ 0 ∷ 120 ∷ 86 ∷ 231 ∷ 25 ∷ 13 ∷ 1 ∷ 233 ∷ 254
    ∷ 124 ∷ 106 ∷ 215 ∷ 203 ∷ 200 ∷ 35 ∷ 120 ∷ 48 ∷ 231 ∷ 115 ∷ 118 ∷ 99 ∷ 75 ∷ 55 ∷ 49 ∷ 98
    ∷ 46 ∷ 175 ∷ 48 ∷ 217 ∷ 46 ∷ 34 ∷ 163 ∷ 136 ∷ 111 ∷ 241 ∷ 9 ∷ 39 ∷ 157 ∷ 152 ∷ 48 ∷ 218
    ∷ 199 ∷ 39 ∷ 175 ∷ 185 ∷ 74 ∷ 131 ∷ 238 ∷ 109 ∷ 131 ∷ 96 ∷ 203 ∷ 223 ∷ 162 ∷ 204 ∷ 6 ∷ 64 ∷ [])

-- RFC 9106, section 5.1: the tag there is of a password with a secret and associated data, of which
-- a text says nothing
unfoldable pub argon2d_record : RecordValue
argon2d_record = record_of (setting_of (Argon2 V13 D 32 3 4) (replicate 16 2))
    (81 ∷ 43 ∷ 57 ∷ 27 ∷ 111 ∷ 17 ∷ 98 ∷ 151 ∷ 83 ∷ 113 ∷ 211 ∷ 9 ∷ 25 ∷ 115 ∷ 66 ∷ 148
    ∷ 248 ∷ 104 ∷ 227 ∷ 190 ∷ 57 ∷ 132 ∷ 243 ∷ 193 ∷ 161 ∷ 58 ∷ 77 ∷ 185 ∷ 250 ∷ 190 ∷ 74
    ∷ 203 ∷ [])
