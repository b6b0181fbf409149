-- The definitions of Salsa20/8, BlockMix and ROMix give the vectors of RFC 7914, sections 8 to 10.
use Rattle.std.proofs.Common.{◌≡◌, List, ℕ, ◌++◌, refl}
use Rattle.std.specs.Int.{bytes_high_first}
use Rattle.cred_scrypt.specs.Salsa.{salsa20_8, double_rounds, row_round, column_round, quarter_round}
use Rattle.cred_scrypt.specs.Mixing.{block_mix, chain, every_second, integerify, little_endian, mixes, ro_mix, second_loop}
use Rattle.cred_scrypt.specs.Scrypt.{words_of}

-- the words of a block's 64 bytes, which are written as in the RFC
abbrev pub block : ℕ → List ℕ
block bytes = words_of (bytes_high_first 64 bytes) 16

-- section 8
abbrev pub core_input : List ℕ
core_input = block 0x7e879a214f3ec9867ca940e641718f26baee555b8c61c1b50df846116dcd3b1dee24f319df9b3d8514121e4b5ac5aa3276021d2909c74829edebc68db8b8c25e

abbrev pub core_output : List ℕ
core_output = block 0xa41f859c6608cc993b81cacb020cef05044b2181a2fd337dfd7b1c6396682f29b4393168e3c9e6bcfe6bc5b7a06d96bae424cc102c91745c24ad673dc7618f81

pub core_vector : salsa20_8 core_input ≡ core_output
unfolding words_of salsa20_8 double_rounds row_round column_round quarter_round
core_vector = refl

-- sections 9 and 10: two blocks, with r = 1
abbrev pub blocks : List ℕ
blocks =
    block 0xf7ce0b653d2d72a4108cf5abe912ffdd777616dbbb27a70e8204f3ae2d0f6fad89f68f4811d1e87bcc3bd7400a9ffd29094f0184639574f39ae5a1315217bcd7
    ++ block 0x894991447213bb226c25b54da86370fbcd984380374666bb8ffcb5bf40c254b067d27c51ce4ad5fed829c90b505a571b7f4d1cad6a523cda770e67bceaaf7e89

abbrev pub blocks_mixed : List ℕ
blocks_mixed =
    block 0xa41f859c6608cc993b81cacb020cef05044b2181a2fd337dfd7b1c6396682f29b4393168e3c9e6bcfe6bc5b7a06d96bae424cc102c91745c24ad673dc7618f81
    ++ block 0x20edc975323881a80540f64c162dcd3c21077cfe5f8d5fe2b1a4168f953678b77d3b3d803b60e4ab920996e59b4d53b65d2a225877d5edf5842cb9f14eefe425

pub block_mix_vector : block_mix 1 blocks ≡ blocks_mixed
unfolding words_of block_mix every_second chain salsa20_8 double_rounds row_round column_round quarter_round
block_mix_vector = refl

-- section 10, with N = 16
abbrev pub blocks_walked : List ℕ
blocks_walked =
    block 0x79ccc193629debca047f0b70604bf6b62ce3dd4a9626e355fafc6198e6ea2b46d58413673b99b029d665c357601fb426a0b2f4bba200ee9f0a43d19b571a9c71
    ++ block 0xef1142e65d5a266fddca832ce59faa7cac0b9cf1be2bffca300d01ee387619c4ae12fd4438f203a0e4e1c47ec314861f4e9087cb33396a6873e8f9d2539a4b8e

pub ro_mix_vector : ro_mix 1 16 blocks ≡ blocks_walked
unfolding words_of ro_mix second_loop mixes integerify little_endian block_mix every_second chain salsa20_8 double_rounds row_round column_round quarter_round
ro_mix_vector = refl
