-- The definitions computed at outside vectors. The expected bytes are those of the RFCs or of
-- Python's hashlib.blake2b, and for H' of the formula of RFC 9106 over that function.
use Rattle.std.proofs.Common.{◌≡◌, [], ◌++◌, refl}
use Rattle.std.specs.{Prelude.codes, List.range_with_len, Int.bytes_high_first}
use Rattle.cred_blake.specs.Words.{word_at, words_of, bytes_of}
use Rattle.cred_blake.specs.Blake2b.{blake, state_after, compress, rounds, round, mix, mixing, work_vector, initial_state, key_block}
use Rattle.cred_blake.specs.HashPrime.{hash_prime, halves, chain}

-- the three letters abc: appendix A of RFC 7693
pub abc : blake 64 [] (codes "abc") ≡
    bytes_high_first 64 0xba80a53f981c4d0d6a2797b69f12f6e94c212f14685ac4b74b12bb6fdbffa2d17d87c5392aab792dc252d5de4533cc9518d38aa8dbf1925ab92386edd4009923
unfolding blake state_after compress rounds round mix mixing words_of word_at bytes_of work_vector initial_state key_block
abc = refl

-- no bytes, which are one block of zeros
pub empty : blake 64 [] [] ≡
    bytes_high_first 64 0x786a02f742015903c6c6fd852552d272912f4740e15847618a86e217f71f5419d25e1031afee585313896444934eb04b903a685b1448b755d56f701afe9be2ce
unfolding blake state_after compress rounds round mix mixing words_of word_at bytes_of work_vector initial_state key_block
empty = refl

-- a key of 64 bytes and no message: the first keyed vector of the BLAKE2 reference files
pub keyed : blake 64 (range_with_len 0 64) [] ≡
    bytes_high_first 64 0x10ebb67700b1868efb4417987acf4690ae9d972fb7a590c2f02871799aaa4786b5e996e8f0f4eb981fc214b005f42d2ff4233499391653df7aefcbc13fc51568
unfolding blake state_after compress rounds round mix mixing words_of word_at bytes_of work_vector initial_state key_block
keyed = refl

-- a key of 3 bytes, a message of 3 bytes and a digest of 20
pub keyed_short : blake 20 (codes "key") (codes "abc") ≡
    bytes_high_first 20 0x63c5e9d2e167991e7fca9fe84b4afcb2fab7cc99
unfolding blake state_after compress rounds round mix mixing words_of word_at bytes_of work_vector initial_state key_block
keyed_short = refl

-- 129 bytes, the first message of two blocks
pub two_blocks : blake 64 [] (range_with_len 0 129) ≡
    bytes_high_first 64 0xf59711d44a031d5f97a9413c065d1e614c417ede998590325f49bad2fd444d3e4418be19aec4e11449ac1a57207898bc57d76a1bcf3566292c20c683a5c4648f
unfolding blake state_after compress rounds round mix mixing words_of word_at bytes_of work_vector initial_state key_block
two_blocks = refl

-- 128 bytes, the longest message of one block
pub one_block : blake 64 [] (range_with_len 0 128) ≡
    bytes_high_first 64 0x2319e3789c47e2daa5fe807f61bec2a1a6537fa03f19ff32e87eecbfd64b7e0e8ccff439ac333b040f19b0c4ddd11a61e24ac1fe0f10a039806c5dcc0da3d115
unfolding blake state_after compress rounds round mix mixing words_of word_at bytes_of work_vector initial_state key_block
one_block = refl

-- H' to 64 bytes: one hash
pub hash_prime_64 : hash_prime 64 (codes "abc") ≡
    bytes_high_first 64 0xf32577a3172f56657d531faaa43077bb8c9726ada7bb04dd337ec5a65454abff241ad6b87a72440e5127c6f9caa70327f2a699096e52d163eb52d9cd99620593
unfolding blake state_after compress rounds round mix mixing words_of word_at bytes_of work_vector initial_state key_block hash_prime halves chain
hash_prime_64 = refl

-- H' to 65 bytes: half of one hash, and one of 33 bytes
pub hash_prime_65 : hash_prime 65 (codes "abc") ≡
    bytes_high_first 32 0x77baa447fe6f777c9bcb519545ce80badaf08ecb973fbb4ff45af7d8b569ec7c
    ++ bytes_high_first 33 0xaad65f72669d05153cdeaa563a162bb5ae4c42214551593816008dc560c5a65391
unfolding blake state_after compress rounds round mix mixing words_of word_at bytes_of work_vector initial_state key_block hash_prime halves chain
hash_prime_65 = refl

-- H' to 96 bytes: half of one hash, and one of 64 bytes
pub hash_prime_96 : hash_prime 96 (codes "abc") ≡
    bytes_high_first 32 0x41b5590d909a09f99c2c5475f782ba721397c7dc626736a3b5b0b369bab78af2
    ++ bytes_high_first 64 0x4a800ffd07bd9b94e073fe5451b20caf770b68afe0839842b4723550bdf083cf9e205e5304aaec1584f10008285f563252fcfcf207ca8c755d1652168b9024af
unfolding blake state_after compress rounds round mix mixing words_of word_at bytes_of work_vector initial_state key_block hash_prime halves chain
hash_prime_96 = refl

-- H' to 97 bytes: halves of two hashes, and one of 33 bytes
pub hash_prime_97 : hash_prime 97 (codes "abc") ≡
    bytes_high_first 64 0xc82ccb541fdbecd1ce8090f61f39905cbf4bc03cebd133a002c7babe4ea204fba111552004c5a5338c62d4c7561af5de2665d24d30de9407b9ba1a6ab372054d
    ++ bytes_high_first 33 0x3e6fdd0c7aa46b48980189af43f3502d68d007a02b1c4efe04c13b9f39d932f335
unfolding blake state_after compress rounds round mix mixing words_of word_at bytes_of work_vector initial_state key_block hash_prime halves chain
hash_prime_97 = refl
