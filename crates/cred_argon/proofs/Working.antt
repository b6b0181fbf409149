-- A segment while it is worked.
use Rattle.std.proofs.Common.{◌≡◌, ℕ, ◌<◌, ◌≤◌, List, Option, Vec, length, slice_index_or, vec_len, inl, inr, arith}
use Rattle.std.proofs.lemmas.Bool.{cases_lt}
use Rattle.cred_argon.specs.{declared.block.Block.Block, declared.segment.Segment.Segment, declared.segment.Shared.Shared}
use Rattle.cred_argon.specs.{declared.address.AddressBlock.AddressBlock, Parameters.Parameters, Parameters.segment_len, Addresses.KeepsAddresses}
use Rattle.cred_argon.specs.{SegmentWork.IsWorking, Segments.SharedHolds, Turns.OwnHolds, Turns.first_offset}

-- the segment has as many blocks as were worked before
at_least : {A : Type 0} (c : Shared (Vec Segment A)) (start now : Segment) (addresses : Option AddressBlock) (s k : ℕ) → IsWorking c start now addresses s k → k ≤ vec_len now.blocks
at_least c start now addresses s k working = elim (cases_lt 0 c.turn.pass) [
  | inl later ↦ omega (arith, working.later later, working.inside)
  | inr first ↦ omega (arith, working.first (omega (arith, first)))
]

-- the same cells, after which one block more may have come
pub own_extended : {A : Type 0} (c : Shared (Vec Segment A)) (start now : Segment) (addresses : Option AddressBlock) (s k : ℕ) (h : List ℕ) (items : List Block)
    → IsWorking c start now addresses s k
    → ((i : ℕ) (d : Block) → i < vec_len now.blocks → slice_index_or items i d ≡ slice_index_or now.blocks.items i d)
    → OwnHolds h c.turn now.lane k now.blocks.items → OwnHolds h c.turn now.lane k items
own_extended c start now addresses s k h items working same own = record {
  new = λ i d below. rw (same i d (omega (arith, below, at_least c start now addresses s k working))) (own.new i d below);
  old = λ i d above below later.
      rw (same i d (omega (arith, below, working.later later, working.length_is))) (own.old i d above below later);
}
