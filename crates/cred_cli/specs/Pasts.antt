-- The additions to a past.
use Rattle.std.specs.Prelude.{◌≡◌, ℕ, List, [], ◌∷◌, ◌++◌, refl}
use Rattle.std.proofs.Common.{sym, append-nil}
use Rattle.cred_cli.specs.{Calls.Call, declared.past.Past.Past}

-- A past goes on: the bytes that had passed, the logged calls and its name stay as they were.
pub record GoesOn (old new : Past) : Type 0 where
  pub given : (bytes : List ℕ) × (new.given ≡ old.given ++ bytes)
  pub taken : (bytes : List ℕ) × (new.taken ≡ old.taken ++ bytes)
  pub calls : (calls : List Call) × (new.calls ≡ calls ++ old.calls)
  pub named : new.name ≡ old.name

pub given_more : (past : Past) (bytes : List ℕ)
    → GoesOn past (record past { given = past.given ++ bytes })
given_more past bytes = record {
  given = (bytes, refl);
  taken = ([], sym (append-nil past.taken));
  calls = ([], refl);
  named = refl;
}

pub taken_more : (past : Past) (bytes : List ℕ)
    → GoesOn past (record past { taken = past.taken ++ bytes })
taken_more past bytes = record {
  given = ([], sym (append-nil past.given));
  taken = (bytes, refl);
  calls = ([], refl);
  named = refl;
}

pub called_more : (past : Past) (call : Call)
    → GoesOn past (record past { calls = call ∷ past.calls })
called_more past call = record {
  given = ([], sym (append-nil past.given));
  taken = ([], sym (append-nil past.taken));
  calls = (call ∷ [], refl);
  named = refl;
}
