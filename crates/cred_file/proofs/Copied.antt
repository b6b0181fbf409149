-- A copy of a book, as its accounts are entered into an empty one.
use Rattle.std.proofs.Common.{◌≡◌, ◌⊎◌, inl, inr, subst, ◌∙◌}
use Rattle.std.specs.FinMap as fin
use Rattle.sqlite.specs.{State.State}
use Rattle.cred_file.specs.Cells.{Cells}
use Rattle.cred_file.specs.{Copies.MayCopy, Keeps.HoldsBook, Keeps.LeavesOnly}

-- a crash leaves an empty book, or all of it
pub may_copy : (old new : State) (first after copy : Cells) → first ≡ fin.empty → after ≡ copy → LeavesOnly new (λ b. (b ≡ first) ⊎ (b ≡ after)) → MayCopy old new copy
may_copy old new first after copy none all left db may =
    let found = left db may in
    inr (elim found.1 [ inl is ↦ inl (subst (λ b. HoldsBook db b) (is ∙ none) found.2) | inr is ↦ inr (subst (λ b. HoldsBook db b) (is ∙ all) found.2) ])
