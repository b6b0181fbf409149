-- Memory that is kept from hash to hash.
use Rattle.std.specs.Prelude.{◌≡◌, ℕ, ◌≤◌, List, All, replicate, sum_by, vec_capacity, Vec}
use Rattle.cred_argon.specs.declared.block.Block.{Block}

abbrev pub zero_words : List ℕ
zero_words = replicate 128 0

-- a buffer with zeros in its whole room
abbrev pub IsWiped : {A : Type 0} → Vec Block A → Type 0
IsWiped buffer = buffer.items ≡ replicate (vec_capacity buffer) (record { 0 = zero_words })

-- the spare buffers have room for `kept` blocks, at most `most`, and each is wiped
pub record IsScratch {A : Type 0} (most kept : ℕ) (spare : List (Vec Block A)) : Type 0 where
  pub count : kept ≡ sum_by vec_capacity spare
  pub bound : kept ≤ most
  pub wiped : All IsWiped spare
