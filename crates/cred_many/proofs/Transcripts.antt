-- What a writer takes, one text after another.
use Rattle.std.proofs.Common.{◌≡◌, ℕ, ◌+◌, List, [], ◌++◌, length, take, Some, Bool, Result, Ok, Err, IfErr, OnErr, OnOk, subst, refl, sym, ◌∙◌, append-nil, arith}
use Rattle.std.proofs.{KnownBytes.Appends-nil, KnownBytes.Appends-trans, Math.Seq.take-append-add, lemmas.List.append_cancel_left, lemmas.List.length-append, lemmas.List.take-append-le}
use Rattle.std.specs.Io.KnownBytes.{Appends}
use Rattle.cred_cli.specs.{Steps.WriteFails, declared.fault.ScriptFault.ScriptFault}
use Rattle.cred_cli.proofs.Writes.{taken_later}
use Rattle.cred_many.specs.Transcript.{TakesFront, TakesMore, Written}

pub takes_none : (w : Written) → TakesMore w w []
takes_none w = record { named = refl; taken = sym (append-nil w.taken); held = Appends-nil w.held }

pub takes_both : (a b c : Written) (xs ys : List ℕ) → TakesMore a b xs → TakesMore b c ys → TakesMore a c (xs ++ ys)
takes_both a b c xs ys first rest = record {
  named = rest.named ∙ first.named;
  taken = taken_later a.taken b.taken c.taken xs ys first.taken rest.taken;
  held = Appends-trans a.held b.held c.held xs ys first.held rest.held;
}

-- a front of the first part is one of the whole
pub front_of_first : (a b : Written) (xs ys : List ℕ) → TakesFront a b xs → TakesFront a b (xs ++ ys)
front_of_first a b xs ys (n, short, taken) = (n, omega (arith, short, length-append xs ys), rw (take-append-le n xs ys (omega (arith, short))) taken)

-- and so is one of the second part, behind the first
pub front_behind_first : (a b c : Written) (xs ys : List ℕ) → TakesMore a b xs → TakesFront b c ys → TakesFront a c (xs ++ ys)
front_behind_first a b c xs ys first (n, short, taken) =
    (length xs + n, omega (arith, short, length-append xs ys), rw (take-append-add xs ys n) (takes_both a b c xs (take n ys) first taken))

-- ---- what `write_whole` says

pub whole_taken : {E : Type 0} (r : Result (Unit {0}) E) (old new : Written) (bytes : List ℕ) → new.name ≡ old.name → OnOk r (new.taken ≡ old.taken ++ bytes) → OnOk r (Appends old.held new.held bytes)
    → OnOk r (TakesMore old new bytes)
whole_taken (Ok u) old new bytes named taken held = record { named = named; taken = taken; held = held }
whole_taken (Err e) old new bytes named taken held = tt

pub front_taken : (r : Result (Unit {0}) ScriptFault) (old new : Written) (bytes : List ℕ) (failed : Bool) → new.name ≡ old.name
    → (passed : List ℕ) × (new.taken ≡ old.taken ++ passed) × Appends old.held new.held passed → IfErr r (WriteFails (Some old.taken) (Some new.taken) bytes failed) → OnErr r (TakesFront old new bytes)
front_taken (Ok u) old new bytes failed named takes fails = tt
front_taken (Err e) old new bytes failed named (passed, taken, held) (is, broke, front) =
    let same : passed ≡ take front.0 bytes = append_cancel_left old.taken passed (take front.0 bytes) (sym taken ∙ front.2) in
    (front.0, front.1, record { named = named; taken = front.2; held = subst (Appends old.held new.held) same held })
