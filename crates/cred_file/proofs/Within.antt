-- The table within a transaction, and at its commit.
use Rattle.std.proofs.Common.{◌≡◌, ◌⊎◌, inl, inr, ℕ, List, true, false, OnErr, Ok, Err, Result, refl, sym, ap, subst, ◌∙◌}
use Rattle.sqlite.specs.{Order.Row, Tree.Trees, Effect.Database, Listing.understood}
use Rattle.sqlite_schema.specs.declared.command.Command.{Command}
use Rattle.sqlite.specs.{State.State, State.HasCleanDisk, State.Survives, State.Executes, State.Shows, State.mode_of, Held.Held, Held.state, Store.Ghosts}
use Rattle.sqlite.proofs.{Callers.runs_as, Callers.statement_of, StateLemmas.survives_then}
use Rattle.sqlite_catalog.specs.Listing.{IsSound}
use Rattle.cred_file.specs.Cells.{Cells}
use Rattle.cred_file.specs.{Schema.IsBookSchema, Table.StandsFor, Keeps.IsTableOf, Keeps.LeavesOnly}
use Rattle.cred_file.specs.Transactions.{IsUnderWay}
use Rattle.cred_file.proofs.{Keeping.IsSettled, Keeping.IsStep, Keeping.holds, Keeping.step_does}

-- nothing is committed until the commit
pub still : (old new : State) (P : Cells → Type 0) → HasCleanDisk new → Survives old new (λ _. ⊥) → LeavesOnly old P → LeavesOnly new P
still old new P clean s was db may = elim (s.crash clean db may) [ inl before ↦ was db before | inr none ↦ absurd none ]

pub begun : {S : Type 0} (g : Ghosts S) (conn now : Held S) (book : Cells) → now ≡ record conn { in_transaction = true } → IsTableOf (state g conn) book → IsUnderWay (state g now) book book
begun g conn now book is was = subst (λ h. IsUnderWay (state g h) book book) (sym is) (record { schema = was.schema; stands = was.stands; sound = was.sound; inside = refl; left = was.left })

-- a transaction that isn't committed leaves the first book
pub uncommitted : (old mid new : State) (book other : Cells) → HasCleanDisk new → Survives old mid (λ _. ⊥) → Survives mid new (λ _. ⊥) → LeavesOnly old (λ b. b ≡ book) → LeavesOnly new (λ b. (b ≡ book) ⊎ (b ≡ other))
uncommitted old mid new book other clean one two was db may =
    let l = still old new (λ b. b ≡ book) clean (survives_then old mid new _ _ _ (λ _ db none. none) (λ _ db none. none) one two) was db may in (l.0, inl l.1, l.2)

-- a statement that makes one book of another
module _ {sql : List ℕ} {params : Row} {command : Command} {from to : Cells} (it : IsStep sql params command from to) (old new : State) (first : Cells) where
  pub within : (count : ℕ) → HasCleanDisk new → Survives old new (λ _. ⊥) → IsUnderWay old first from → Executes sql params old new (Ok count) → IsUnderWay new first to
  within count clean s was h =
      let w = it.runs old new _ count (runs_as sql params old new old.now.schema refl command (it.means _ was.schema).0 (it.means _ was.schema).1 count h) in
      let made = step_does it old.now.schema was.schema old.step_limit (mode_of old) old.now new.now (statement_of sql (understood old.now.schema sql)) w.tally refl was.stands w.changed in
      record {
        schema = subst IsBookSchema (sym made.0) was.schema;
        stands = made.1;
        sound = w.sound;
        inside = w.shown.mode ∙ was.inside;
        left = still old new _ clean s was.left;
      }

-- ---- the commit

pub committed : (old new : State) (first book : Cells) → IsSettled new → IsUnderWay old first book → Shows old new old.now old.now false → IsTableOf new book
committed old new first book settled was shown =
    let trees : new.now.trees ≡ old.now.trees = ap (λ (d : Database). d.trees) shown.now_is in
    let schema = subst IsBookSchema (sym (ap (λ (d : Database). d.schema) shown.now_is)) was.schema in
    let stands = subst (λ (t : Trees). StandsFor (t 0) book) (sym trees) was.stands in
    let sound = subst (λ (d : Database). IsSound d.schema d.trees) (sym shown.now_is) was.sound in
    record {
      schema = schema;
      stands = stands;
      sound = sound;
      autocommit = shown.mode;
      left = λ db may. (
        book,
        refl,
        holds db book new.now schema sound stands
            (settled db shown.is_open may ∙ ap (λ (d : Database). d.trees) (shown.committed_is ∙ sym shown.now_is)),
      );
    }

pub commit_left : (old new : State) (first book : Cells) → HasCleanDisk new → IsUnderWay old first book → Survives old new (λ db. db ≡ old.now.trees) → LeavesOnly new (λ b. (b ≡ first) ⊎ (b ≡ book))
commit_left old new first book clean was s db may = elim (s.crash clean db may) [
  | inl before ↦ let l = was.left db before in (l.0, inl l.1, l.2)
  | inr is ↦ (book, inr refl, holds db book old.now was.schema was.sound was.stands is)
]

-- what holds anyway holds of an answer that is Err
pub on_any : {A E P : Type 0} (r : Result A E) → P → OnErr r P
on_any (Ok a) p = tt
on_any (Err e) p = p
