-- Without lines there is no bad line.
use Rattle.std.proofs.Common.{◌≡◌, ◌==◌, true, List, [], length, inl, inr, sym, ◌∙◌}
use Rattle.std.proofs.{lemmas.Bool.Decides.eqb_tells, lemmas.List.nil_from_length}
use Rattle.cred_admin.specs.declared.import.BadLine.{BadLine}

pub none_bad : (bad : List BadLine) → (length bad == 0) ≡ true → bad ≡ []
none_bad bad is = elim (eqb_tells (length bad) 0) [ inl w ↦ nil_from_length bad w.1 | inr w ↦ cc (sym is ∙ w.0) ]
