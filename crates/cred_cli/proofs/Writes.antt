-- Several writes in a row.
use Rattle.std.proofs.Common.{◌≡◌, ℕ, ◌<◌, ◌+◌, List, [], ◌++◌, length, take, drop, Option, Bool, true, Result, Ok, Err, IfOk, OnErr, sym, ap, ◌∙◌, arith, append_assoc, append-nil, take-append-drop}
use Rattle.std.proofs.{lemmas.List.length-append, lemmas.List.take-append-le, Math.Seq.take-append_seam, Math.Seq.take-append-add, KnownBytes.Appends-kept, KnownBytes.Appends-nil, KnownBytes.Appends-trans}
use Rattle.std.specs.{Result.result_unwrap_or, Io.KnownBytes.Appends, Io.KnownBytes.WriteAppends}
use Rattle.cred_cli.specs.{Outcome.FrontWritten, Watched.Passes}

-- what is written is a proper front, while something is left
pub front_written : (bytes front rest : List ℕ) (before now : Option (List ℕ)) → bytes ≡ front ++ rest → 0 < length rest → Appends before now front → FrontWritten before now bytes
front_written bytes front rest before now cut left written =
    (length front, omega (arith, ap length cut, length-append front rest), rw (cut, take-append_seam) written)

-- a front of the first part is one of the whole
pub front_more : (a b : Option (List ℕ)) (xs ys : List ℕ) → FrontWritten a b xs → FrontWritten a b (xs ++ ys)
front_more a b xs ys (n, short, written) = (n, omega (arith, short, length-append xs ys), rw (take-append-le n xs ys (omega (arith, short))) written)

-- a front of the second part, behind the first part, is one of the whole too
pub front_behind : (a b c : Option (List ℕ)) (xs ys : List ℕ) → Appends a b xs → FrontWritten b c ys → FrontWritten a c (xs ++ ys)
front_behind a b c xs ys first (n, short, written) =
    (length xs + n, omega (arith, short, length-append xs ys), rw (take-append-add xs ys n) (Appends-trans a b c xs (take n ys) first written))

-- the next write moves the cut
pub cut_later : (bytes front rest : List ℕ) (n : ℕ) → bytes ≡ front ++ rest → bytes ≡ (front ++ take n rest) ++ drop n rest
cut_later bytes front rest n cut = cut ∙ rw append_assoc (ap (λ xs. front ++ xs) (sym (take-append-drop n rest)))

-- the cut of the taken bytes moves too
pub taken_later : (a b c front more : List ℕ) → b ≡ a ++ front → c ≡ b ++ more → c ≡ a ++ (front ++ more)
taken_later a b c front more taken later = later ∙ ap (λ xs. xs ++ more) taken ∙ append_assoc a front more

module _ {E : Type 0} (bytes : List ℕ) where
  -- the bytes that a write took, if it took any
  pub wrote : (r : Result ℕ E) (a b : Option (List ℕ)) → WriteAppends a b r bytes → Appends a b (take (result_unwrap_or r 0) bytes)
  wrote (Ok n) a b written = written
  wrote (Err e) a b kept = Appends-kept _ _ _ _ (Appends-nil a) kept

  pub passed : (r : Result ℕ E) (old new : List ℕ) → Passes old new r bytes → new ≡ old ++ take (result_unwrap_or r 0) bytes
  passed (Ok n) old new taken = taken
  passed (Err e) old new kept = kept ∙ sym (append-nil old)

  -- the write took no byte
  pub none_more : (r : Result ℕ E) (a b c : Option (List ℕ)) (front : List ℕ) → result_unwrap_or r 0 ≡ 0 → Appends a b front → WriteAppends b c r bytes → Appends a c front
  none_more r a b c front none written more = rw append-nil at (Appends-trans a b c front [] written (rw none at (wrote r b c more)))

  pub none_taken : (r : Result ℕ E) (a b c front : List ℕ) → result_unwrap_or r 0 ≡ 0 → b ≡ a ++ front → Passes b c r bytes → c ≡ a ++ front
  none_taken r a b c front none taken later = rw (none, append-nil) at (passed r b c later) ∙ taken

  pub has_failed : (r : Result ℕ E) (failed : Bool) → result_unwrap_or r 0 ≡ 0 → 0 < length bytes → IfOk r (λ n. n ≡ 0 → 0 < length bytes → failed ≡ true) → OnErr r (failed ≡ true) → failed ≡ true
  has_failed (Ok n) failed none left took broke = took none left
  has_failed (Err e) failed none left took broke = broke
