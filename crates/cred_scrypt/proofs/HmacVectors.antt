-- The definition of HMAC-SHA-256 gives the vectors of RFC 4231, sections 4.2, 4.3 and 4.7. The
-- definition of PBKDF2 gives the first vector of RFC 7914, section 11, and a key of two iterations
-- by OpenSSL.
use Rattle.std.proofs.Common.{◌≡◌, refl, replicate, codes}
use Rattle.std.specs.{List.range_with_len, Int.bytes_high_first}
use Rattle.sha2.specs.Sha256.{sha256, digest_bytes, hash_after, compress, rounds, schedule, first_words}
use Rattle.cred_scrypt.specs.{Hmac.hmac, Hmac.key_block, Pbkdf2.pbkdf2, Pbkdf2.derived_blocks, Pbkdf2.xor_of_iterations, Pbkdf2.iteration}

pub short_key_vector : hmac (replicate 20 0x0b) (codes "Hi There") ≡
    bytes_high_first 32 0xb0344c61d8db38535ca8afceaf0bf12b881dc200c9833da726e9376c2e32cff7
unfolding hmac key_block sha256 digest_bytes hash_after compress rounds schedule first_words
short_key_vector = refl

pub text_key_vector : hmac (codes "Jefe") (codes "what do ya want for nothing?") ≡
    bytes_high_first 32 0x5bdcc146bf60754e6a042426089575c75a003f089d2739839dec58b964ec3843
unfolding hmac key_block sha256 digest_bytes hash_after compress rounds schedule first_words
text_key_vector = refl

-- a key longer than a block
pub long_key_vector : hmac (replicate 131 0xaa) (codes "Test Using Larger Than Block-Size Key - Hash Key First") ≡
    bytes_high_first 32 0x60e431591ee0b67f0d8a26aacbf5b77f8e0bc6213728c5140546040f0ee37f54
unfolding hmac key_block sha256 digest_bytes hash_after compress rounds schedule first_words
long_key_vector = refl

-- keys of 64 and of 65 bytes, the longest that stays as it is and the shortest that is hashed, as
-- Python's hmac has them
pub longest_block_key_vector : hmac (range_with_len 0 64) (codes "abc") ≡
    bytes_high_first 32 0x6ab541b4869dca71c4ca11d8bb1b02533b789a557583161429292c7404bc21f6
unfolding hmac key_block sha256 digest_bytes hash_after compress rounds schedule first_words
longest_block_key_vector = refl

pub shortest_hashed_key_vector : hmac (range_with_len 0 65) (codes "abc") ≡
    bytes_high_first 32 0xdfbffee4671bad00ed5d1e1999d55ed3b0cc774ac357f9ebf649c1612414fcec
unfolding hmac key_block sha256 digest_bytes hash_after compress rounds schedule first_words
shortest_hashed_key_vector = refl

pub one_turn_vector : pbkdf2 (codes "passwd") (codes "salt") 1 64 ≡
    bytes_high_first 64 0x55ac046e56e3089fec1691c22544b605f94185216dde0465e68b9d57c20dacbc49ca9cccf179b645991664b39d77ef317c71b845b1e30bd509112041d3a19783
unfolding pbkdf2 derived_blocks xor_of_iterations iteration hmac key_block sha256 digest_bytes hash_after compress rounds schedule first_words
one_turn_vector = refl

pub two_turns_vector : pbkdf2 (codes "password") (codes "salt") 2 33 ≡
    bytes_high_first 33 0xae4d0c95af6b46d32d0adff928f06dd02a303f8ef3c251dfd6e2d85a95474c4383
unfolding pbkdf2 derived_blocks xor_of_iterations iteration hmac key_block sha256 digest_bytes hash_after compress rounds schedule first_words
two_turns_vector = refl
