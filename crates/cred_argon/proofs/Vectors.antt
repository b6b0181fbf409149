-- The definitions computed at vectors from outside. vectors/compress.py of hash_tests computed
-- those of the compression function and of the address block: it is Argon2 in plain Python, and
-- gives the tags of RFC 9106, section 5.
use Rattle.std.proofs.Common.{◌≡◌, ℕ, List, [], ◌∷◌, refl, replicate, flat_map}
use Rattle.std.specs.{Prelude.slice_index, List.range_with_len, Int.bytes_high_first}
use Rattle.cred_blake.specs.Words.{word_at, words_of, bytes_of}
use Rattle.cred_blake.specs.Blake2b.{blake, state_after, compress as blake_compress, rounds, round, mix, mixing as blake_mixing, work_vector, initial_state, key_block}
use Rattle.cred_blake.specs.HashPrime.{hash_prime, halves, chain}
use Rattle.cred_argon.specs.{declared.kind.Kind.TheVariants.Id, declared.kind.Version.TheVariants.V13, Argon.first_hash, Cells.first_cell, Cells.address_block}
use Rattle.cred_argon.specs.Compress.{mixing, column_step, diagonal_step, permutation, rows, columns, xor_words, compress}
use Rattle.cred_argon.specs.{Parameters.Parameters, Parameters.parameters, Places.place, Places.reference_set, Places.reference_place}

mixed_words : mixing 1 2 3 4 ≡ (1099511639303, 6489126338118157830, 3244562069547450371, 3244562056560705536)
unfolding mixing
mixed_words = refl

permuted_words : permutation (range_with_len 0 16)
    ≡ 4309413561690544949 ∷ 10591790002093387956 ∷ 4054907587149926025 ∷ 12186936810293155319
    ∷ 6987944521133659505 ∷ 11961256884274195702 ∷ 7717811659818223130 ∷ 7145962203480256264
    ∷ 13478285582766688587 ∷ 8998272025916050531 ∷ 15850783893021893847 ∷ 16649433534529282490
    ∷ 16981378724759909900 ∷ 5484704648486101607 ∷ 13959069891332574114 ∷ 5484003764239343556 ∷ []
unfolding column_step diagonal_step mixing
permuted_words = refl

-- the words of the bytes in these rows of 64
compressed_block : compress (range_with_len 0 128) (replicate 128 0) ≡ words_of (flat_map (bytes_high_first 64) (
    0x94b5ca062068b5c190013b7f3782f5ead72fe913fb742c7d45d7dadb0cb6036a76223e1734ec3eac68fc8f39bb0cc36996ea84b3c30ad285dd0246926a29061b
    ∷ 0x17ad743bee6135c560ee6ba66a6923df8a47034f24a65e93f9e35a0b088bdba1b61109dba63074a528a70f7e91716d597f212694d9beedba24a56fbedaca417a
    ∷ 0xe1ce0c76498cbc9e29ff94543161f9bdfbfc95497140ac3fe7c3a245306a14cfff50f592139aa93c1da90bacb9927377567baf30033a8263e414a15b42d036e4
    ∷ 0xb8f68623e3af13c2ecf02d45ef63c2e35cafb63adecc8712ad5c85babb0de7015ab5a526e30d5c48a20a0f1f4f8db8719aaa6d9df204279de0d3a68f4d5249ea
    ∷ 0x03a340db5064ae5658f67e7d03b8292c3f327bb7a4175d5a6125b9478e47bdced4bf5ac5f5f871dcb714ee8cf07aff1c21c5541d4cac783393271971b4362262
    ∷ 0x0d4ce65a0b07bb0d91e9d7387225eaea2c49c3c486d458b752120ad938693870cbd3ceb0bef4f9f0e48d8c164fdb178eb83b1c160051f20cfdca7b752027a768
    ∷ 0x7668925d46c8b815e80c2c487edfcb460a0487487b9a2715c5ba92884f1eaab4536d583b3241d2499d142848b819511ff688d0e6e5e6c152b40134f997550b34
    ∷ 0xccee5d0d37b68c928ea41962007faa5b4932f7db06814f4f00908578b9664f01e4703c7965fd5dc5dca7f0f8e86ce5293ebb0ff05d396ecab2525bcf9f645135
    ∷ 0xa506289f57584203d5a1462cd23307245fd4e1b28019b534695e10009221301742600477915e0547914b60dbeeee1f41bc14253791bfa840aa988f19b40ab0db
    ∷ 0xeb71e7418bd056a2fcdbf832cb142770f7f302bdaee626694af0a0ad0ee4811be4c3323063a4ac598c0c7821228f493573b71269bcbb886ea2cf13b1adfdaffe
    ∷ 0xde5c23a34770654cbf8f417031231447c16b8f061954ae6df515345cff3f5910e19d3181e2ab63e4e73c1c240a9f9fade6e54e01997ddc5801043dc50872f168
    ∷ 0x921088c30c7aabe152875afe7d094c72fd6647f5df625194364b2eec2c19745c8b8d909145ea45afe079b9de4434becda878fbbcbe277543b89cab1f99ffcdbc
    ∷ 0xd04e12d25bce1a0671119c9bb4d64c481e075c1afc108012e44c581c6d0fe23b247071f5391c8b5a644a3b995bf795f197d311d03c2b1cbf011b522085bc7b6c
    ∷ 0xfccce80a05435da45026948ed4695c212b5c64e4eaf45f4d221eb6e6d1c87f0d68ac89c9cc8be4fdd03f2103db847d8c70358025ce4bf8dc904821d547f56ea2
    ∷ 0x254813438bf7d1b95b5d56b067a37278bd32795d2d9b46dc3c0acdc6f818c4238eee52a8b0d911228f60f9be6800ea526b7ab8fc63a283f81a13e3850d51139d
    ∷ 0xfd580f50faa88fa86d41d2df747c472d7fe354f521115f04915e7b2d2a2d8c946811a267f98de643c19f65a17d73ed35cfd71c6ecb8e868d87bf8a58fa794d36 ∷ [])) 128
unfolding compress columns rows xor_words column_step diagonal_step mixing words_of word_at
compressed_block = refl

-- The memory of one lane of eight columns, in segments of two: what the sixth column of the first
-- pass may refer to, and what the first of the second pass may (RFC 9106, section 3.4.2, by hand).
set_of_first_pass : reference_set 2 (place 0 0 5) 0 ≡ place 0 0 0 ∷ place 0 0 1 ∷ place 0 0 2 ∷ place 0 0 3 ∷ []
unfolding reference_set
set_of_first_pass = refl

set_of_second_pass : reference_set 2 (place 1 0 0) 0 ≡ place 0 0 2 ∷ place 0 0 3 ∷ place 0 0 4 ∷ place 0 0 5 ∷ place 0 0 6 ∷ []
unfolding reference_set
set_of_second_pass = refl

-- by half of the greatest j1 the sixth column refers to the third, and j2 names another lane
place_in_one_lane : reference_place 2 1 (place 0 0 5) 2147483648 0 ≡ place 0 0 2
unfolding reference_place reference_set
place_in_one_lane = refl

place_in_two_lanes : reference_place 2 2 (place 0 0 2) 0 3 ≡ place 0 1 0
unfolding reference_place reference_set
place_in_two_lanes = refl

-- the parameters of RFC 9106, section 5.3
abbrev standard : Parameters
standard = parameters V13 Id 32 3 4 32

-- the first hash in that section
abbrev standard_hash : List ℕ
standard_hash = bytes_high_first 64 0x2889de487eb42ae500c0007ed9252f1069eadec40d5765b485de6dc2437a67b8546a2f0acc1a0882db8fcf74714b472e94df421a5da1112ffa11434370a1e997

first_hash_vector : first_hash standard (replicate 32 1) (replicate 16 2) (replicate 8 3) (replicate 12 4) ≡ standard_hash
unfolding first_hash blake state_after blake_compress rounds round mix blake_mixing words_of word_at bytes_of work_vector initial_state key_block
first_hash_vector = refl

-- the first word of block 0 in that section
first_cell_word : slice_index (first_cell standard_hash 0 0) 0 ≡ 0x6b2e09f10671bd43
unfolding first_cell hash_prime halves chain blake state_after blake_compress rounds round mix blake_mixing words_of word_at bytes_of work_vector initial_state key_block
first_cell_word = refl

-- a word of the address block of the second lane and slice of the first pass
address_word_vector : slice_index (address_block standard 0 1 1 1) 0 ≡ 4487447645306391564
unfolding address_block compress columns rows xor_words column_step diagonal_step mixing
address_word_vector = refl
