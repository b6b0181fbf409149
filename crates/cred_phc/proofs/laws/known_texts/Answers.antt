use Rattle.std.proofs.Common.{refl}
use Rattle.std.specs.Fmt.{digits}
use Rattle.base64.specs.Rfc4648.{encode_symbols}
use Rattle.cred_phc.specs.{Base64.base64, Text.bare_text, Text.record_text, Text.setting_text}
use Rattle.cred_phc.specs.Vectors.{argon2d_record, argon2id_record, old_argon2i_record, scrypt_record}
use Rattle.cred_phc.proofs.laws.known_texts.Goals as goal

pub returns : goal.returns
unfolding record_text bare_text setting_text argon2d_record argon2id_record old_argon2i_record scrypt_record base64 encode_symbols digits
returns c = record {
  argon2id = refl;
  argon2d = refl;
  old_argon2i = refl;
  written_old_argon2i = refl;
  scrypt = refl;
  setting = refl;
}
