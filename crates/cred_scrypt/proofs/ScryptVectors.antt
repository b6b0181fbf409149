-- The definition of scrypt gives the first vector of RFC 7914, section 12, and a key that OpenSSL
-- made with two pieces of four blocks.
use Rattle.std.proofs.Common.{◌≡◌, [], refl, codes}
use Rattle.std.specs.Int.{bytes_high_first}
use Rattle.sha2.specs.Sha256.{sha256, digest_bytes, hash_after, compress, rounds, schedule, first_words}
use Rattle.cred_scrypt.specs.{Hmac.hmac, Hmac.key_block, Pbkdf2.pbkdf2, Pbkdf2.derived_blocks, Pbkdf2.xor_of_iterations, Pbkdf2.iteration}
use Rattle.cred_scrypt.specs.Salsa.{salsa20_8, double_rounds, row_round, column_round, quarter_round}
use Rattle.cred_scrypt.specs.Mixing.{block_mix, chain, every_second, integerify, little_endian, mixes, ro_mix, second_loop}
use Rattle.cred_scrypt.specs.Scrypt.{scrypt, mixed_pieces, piece, words_of, bytes_of}

-- N = 16, r = 1, p = 1
pub one_piece_vector : scrypt 4 1 1 64 [] [] ≡
    bytes_high_first 64 0x77d6576238657b203b19ca42c18a0497f16b4844e3074ae8dfdffa3fede21442fcd0069ded0948f8326a753a0fc81f17e8d3e0fb2e0d3628cf35e20c38d18906
unfolding scrypt mixed_pieces piece words_of bytes_of ro_mix second_loop mixes integerify little_endian block_mix every_second chain salsa20_8 double_rounds row_round column_round quarter_round pbkdf2 derived_blocks xor_of_iterations iteration hmac key_block sha256 digest_bytes hash_after compress rounds schedule first_words
one_piece_vector = refl

-- N = 2, r = 2, p = 2
pub two_pieces_vector : scrypt 1 2 2 32 (codes "password") (codes "NaCl") ≡
    bytes_high_first 32 0xfc33c1bce795d69209531989a190e987dc68a4f9f1cfb0de4f94a6443e1502fc
unfolding scrypt mixed_pieces piece words_of bytes_of ro_mix second_loop mixes integerify little_endian block_mix every_second chain salsa20_8 double_rounds row_round column_round quarter_round pbkdf2 derived_blocks xor_of_iterations iteration hmac key_block sha256 digest_bytes hash_after compress rounds schedule first_words
two_pieces_vector = refl
