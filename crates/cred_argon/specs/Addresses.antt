-- The address blocks that the code keeps, and the words that it reads from them.
use Rattle.std.specs.Prelude.{◌≡◌, ℕ, ◌+◌, ◌/◌, List, Bool, true, false, Option, None, Some, slice_index}
use Rattle.cred_argon.specs.{declared.address.AddressBlock.AddressBlock, declared.turn.Turn.Turn, Cells.is_dependent, Cells.address_block}

-- whether the slice that is worked has its words from the blocks before
abbrev pub follows_blocks : Turn → Bool
follows_blocks c = is_dependent c.params.kind c.pass c.slice

-- the address block at hand in a lane's segment: none, or the block of its number, if words come
-- from the place alone
abbrev pub KeepsAddresses : Turn → ℕ → Option AddressBlock → Type 0
KeepsAddresses c lane None = Unit {0}
KeepsAddresses c lane (Some kept) =
    (follows_blocks c ≡ false)
    × (kept.block.0 ≡ address_block c.params c.pass lane c.slice kept.number)

-- the address block that serves an offset: none if words come from the blocks before, and otherwise
-- the block of the offset
abbrev pub ServesOffset : Turn → ℕ → ℕ → Option AddressBlock → Type 0
ServesOffset c lane k None = follows_blocks c ≡ true
ServesOffset c lane k (Some kept) =
    (follows_blocks c ≡ false)
    × (kept.block.0 ≡ address_block c.params c.pass lane c.slice (k / 128 + 1))

-- the word that names a reference: the first of the block before, if no address block is at hand
abbrev pub word_from : Option AddressBlock → List ℕ → ℕ → ℕ
word_from None before k = slice_index before 0
word_from (Some kept) before k = slice_index kept.block.0 k
