-- A run that is worked segment by segment fills the memory with its cells.
use Rattle.std.proofs.Common.{◌≡◌, ℕ, zero, suc, ◌<◌, ◌≤◌, ◌+◌, ◌-◌, ◌*◌, List, false, drop, slice_index_or, nat_lt, ◌∙◌, arith}
use Rattle.std.proofs.{lemmas.Bool.Decides.nat_tests, lemmas.List.get_or-take, lemmas.List.get_or-drop}
use Rattle.cred_argon.specs.{declared.block.Block.Block, Parameters.Parameters, Parameters.segment_len, Parameters.IsRaw}
use Rattle.cred_argon.specs.{declared.params.TheConstants.MAX_RAW_TAG, Lanes.HoldsBlocks, Lanes.IsReady, Lanes.IsRun, Lanes.own_blocks, Lanes.blocks_before}
use Rattle.cred_argon.proofs.CellLaw.{segment_some}

own_at : (a : Parameters) (l k : ℕ) (blocks : List Block) (d : Block) → k < segment_len a
    → slice_index_or (own_blocks a l blocks) k d ≡ slice_index_or blocks (l * segment_len a + k) d
own_at a l k blocks d below = get_or-take (segment_len a) (drop (l * segment_len a) blocks) k d below ∙ get_or-drop (l * segment_len a) blocks k d

-- a segment may be worked when those before it are
is_ready : (a : Parameters) (h : List ℕ) (fresh worked : ℕ → List Block) → 2 ≤ segment_len a → IsRun a h fresh worked
    → (g : ℕ) → ((m : ℕ) → m < g → HoldsBlocks a h m (worked m)) → (l : ℕ) → l < a.lanes
    → IsReady a h g l (worked (g - 3)) (worked (g - 2)) (worked (g - 1)) (own_blocks a l (blocks_before fresh worked g))
is_ready a h fresh worked some run g earlier l lane = record {
  three_back = λ late. earlier (g - 3) (omega (arith, late));
  two_back = λ late. earlier (g - 2) (omega (arith, late));
  one_back = λ late. earlier (g - 1) (omega (arith, late));
  before = λ late k d offset.
      let test : nat_lt g 4 ≡ false = grind (arith, nat_tests, late) in
      rw (own_at a l k (blocks_before fresh worked g) d offset, test) (earlier (g - 4) (omega (arith, late)) l k d lane offset);
  first = λ start i d two.
      rw (own_at a l i (blocks_before fresh worked g) d (omega (arith, two, some)), start) (run.begun l i d lane two);
}

held_below : (a : Parameters) (h : List ℕ) (fresh worked : ℕ → List Block) → 2 ≤ segment_len a → IsRun a h fresh worked
    → (n g : ℕ) → g < n → g < 4 * a.passes → HoldsBlocks a h g (worked g)
held_below a h fresh worked some run zero g below inside = absurd (omega (arith, below))
held_below a h fresh worked some run (suc n) g below inside = λ l k d lane offset.
    rw (← own_at a l k (worked g) d offset)
    (run.each g l inside lane
    (is_ready a h fresh worked some run g
    (λ m less. held_below a h fresh worked some run n m (omega (arith, below, less)) (omega (arith, less, inside))) l lane) k d offset)

pub run_fills : (a : Parameters) (h : List ℕ) (fresh worked : ℕ → List Block) → IsRaw a → IsRun a h fresh worked
    → HoldsBlocks a h (4 * a.passes - 1) (worked (4 * a.passes - 1))
run_fills a h fresh worked raw run =
    held_below a h fresh worked (segment_some MAX_RAW_TAG a raw) run (4 * a.passes) (4 * a.passes - 1)
    (omega (arith, raw.some_pass)) (omega (arith, raw.some_pass))
