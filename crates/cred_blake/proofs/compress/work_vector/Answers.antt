use Rattle.std.proofs.{Common.◌≡◌, Common.◌∷◌, Common.◌++◌, Common.List, Common.ℕ, Common.length, Common.slice_index, Common.ap, Common.sym}
use Rattle.std.proofs.NetLemmas.Arrays.{eight_items}
use Rattle.cred_blake.specs.Blake2b.{work_vector}
use Rattle.cred_blake.proofs.compress.work_vector.Goals as goal
use Rattle.cred_blake.proofs.compress.work_vector.Goals.{then-last, else-last}

-- the eight words of h, before the words v
eight_words : (h v : List ℕ) → length h ≡ 8
    → slice_index h 0 ∷ slice_index h 1 ∷ slice_index h 2 ∷ slice_index h 3
    ∷ slice_index h 4 ∷ slice_index h 5 ∷ slice_index h 6 ∷ slice_index h 7 ∷ v ≡ h ++ v
eight_words h v len = ap (λ (words : List ℕ). words ++ v) (sym (eight_items h len))

pub returns : goal.returns
unfolding work_vector
returns c = elim c.if-last.branch [
  | then-last w ↦ rw (w.flagged-is, w.if-last.true) (eight_words c.args.h.now _ c.told-h)
  | else-last w ↦ rw (w.flagged-is, w.if-last.false) (eight_words c.args.h.now _ c.told-h)
]
