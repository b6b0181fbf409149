-- The blocks of Argon2's memory on each pass, each by the blocks that it names (RFC 9106, sections
-- 3.2 and 3.4). There is no memory here, and no order in which it is filled.
use Rattle.std.specs.Prelude.{ℕ, zero, suc, ◌+◌, ◌-◌, ◌*◌, ◌/◌, ◌%◌, ◌^◌, List, [], ◌∷◌, ◌++◌, Bool, true, false, not, nat_lt, ◌==◌, ◌&&◌, if◌then◌else◌, slice_index, replicate}
use Rattle.std.specs.Int.{w32, to_le_bytes}
use Rattle.cred_blake.specs.{Words.words_of, HashPrime.hash_prime}
use Rattle.cred_argon.specs.{declared.kind.Kind.Kind, declared.kind.Kind.TheVariants.D, declared.kind.Kind.TheVariants.I, declared.kind.Kind.TheVariants.Id}
use Rattle.cred_argon.specs.{declared.kind.Version.Version, declared.kind.Version.TheVariants.V10, declared.kind.Version.TheVariants.V13}
use Rattle.cred_argon.specs.{declared.place.Place.Place, Parameters.Parameters, Parameters.segment_len, Numbers.kind_number}
use Rattle.cred_argon.specs.{Compress.compress, Compress.xor_words, Places.place, Places.reference_place, Times.time_of}

-- the first two blocks of a lane, from the first hash h
unfoldable pub first_cell : List ℕ → ℕ → ℕ → List ℕ
first_cell h lane column =
    words_of (hash_prime 1024 (h ++ to_le_bytes w32 column ++ to_le_bytes w32 lane)) 128

-- whether the words that name a reference come from the block before it (section 3.4.1), else from
-- the place alone
abbrev pub is_dependent : Kind → ℕ → ℕ → Bool
is_dependent D pass slice = true
is_dependent I pass slice = false
is_dependent Id pass slice = not ((pass == 0) && nat_lt slice 2)

-- the input of the address block of this number, for a lane's segment in a slice of a pass (section
-- 3.4.1.2)
abbrev pub address_input : Parameters → ℕ → ℕ → ℕ → ℕ → List ℕ
address_input a pass lane slice number =
    pass ∷ lane ∷ slice ∷ (4 * segment_len a * a.lanes) ∷ a.passes ∷ kind_number a.kind ∷ number
    ∷ replicate 121 0

unfoldable pub address_block : Parameters → ℕ → ℕ → ℕ → ℕ → List ℕ
address_block a pass lane slice number =
    compress (replicate 128 0) (compress (replicate 128 0) (address_input a pass lane slice number))

-- the word at a place's position in its segment
abbrev pub address_word : Parameters → Place → ℕ
address_word a p =
    let k = p.column % segment_len a in
    slice_index (address_block a p.pass p.lane (p.column / segment_len a) (k / 128 + 1)) (k % 128)

-- the place before in its lane: before the first column comes the last of the pass before
abbrev pub previous : ℕ → Place → Place
previous s p =
    if p.column == 0 then place (p.pass - 1) p.lane (4 * s - 1)
    else place p.pass p.lane (p.column - 1)

-- the same place on the pass before
abbrev pub older : Place → Place
older p = place (p.pass - 1) p.lane p.column

-- the word that names the reference of a place, where `cells` gives the blocks
abbrev pub word_by : Parameters → (Place → List ℕ) → Place → ℕ
word_by a cells p =
    if is_dependent a.kind p.pass (p.column / segment_len a)
    then slice_index (cells (previous (segment_len a) p)) 0
    else address_word a p

-- its low half is j1, its high half j2
abbrev pub reference_by : Parameters → (Place → List ℕ) → Place → Place
reference_by a cells p =
    let w = word_by a cells p in reference_place (segment_len a) a.lanes p (w % 2 ^ 32) (w / 2 ^ 32)

-- G of the block before and the reference
abbrev pub compression_at : Parameters → (Place → List ℕ) → Place → List ℕ
compression_at a cells p =
    compress (cells (previous (segment_len a) p)) (cells (reference_by a cells p))

abbrev pub is_first : Place → Bool
is_first p = (p.pass == 0) && nat_lt p.column 2

-- whether a block replaces the old one at its place: on the first pass, and at version 0x10 on each
-- pass
abbrev pub is_fresh : Version → ℕ → Bool
is_fresh V10 pass = true
is_fresh V13 pass = pass == 0

-- the block at a place, where `cells` gives the blocks that it names
unfoldable pub cell_by : Parameters → List ℕ → (Place → List ℕ) → Place → List ℕ
cell_by a h cells p =
    if is_first p then first_cell h p.lane p.column
    else (if is_fresh a.version p.pass then compression_at a cells p
    else xor_words (cells (older p)) (compression_at a cells p))

-- the recursion, to a depth
unfoldable pub cell_within : Parameters → List ℕ → ℕ → Place → List ℕ
cell_within a h zero p = []
cell_within a h (suc n) p = cell_by a h (cell_within a h n) p

-- the block at a place, where h is the first hash; each block that it names lies earlier in time
unfoldable pub cell : Parameters → List ℕ → Place → List ℕ
cell a h p = cell_within a h (suc (time_of (segment_len a) p)) p
