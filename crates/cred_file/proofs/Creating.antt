-- The effect of CREATE TABLE on an empty database.
use Rattle.std.proofs.Common.{◌≡◌, ◌⊎◌, inl, inr, ℕ, [], false, if◌then◌else◌, Option, None, Ok, refl, sym, ap, subst, ◌∙◌}
use Rattle.std.specs.FinMap as fin
use Rattle.sqlite.specs.{Command.TheVariants.CreateTable, Change.created, Change.next_tree, Does.Tally, Does.Does, Does.lacks_sequence, Effect.Database}
use Rattle.sqlite.specs.State.{State, HasCleanDisk, Survives, CommitsBy, MayWrite, Writes, Executes, mode_of}
use Rattle.sqlite.specs.{declared.run.Mode.Mode, Tree.Trees}
use Rattle.sqlite.proofs.Callers.{runs_as}
use Rattle.cred_file.specs.{Schema.IsBookSchema, Schema.account, Schema.book_schema, Schema.create_text, Schema.no_schema, Table.StandsFor}
use Rattle.cred_file.specs.Keeps.{HoldsBook, IsTableOf}
use Rattle.cred_file.proofs.{Changes.same_value, Changes.went, Keeping.IsSettled, Keeping.holds, Keeping.commits_as, Keeping.only_writes, Texts.create_is, Texts.create_plain, Texts.created_is}

-- a table that was just made is a book's
made_book : IsBookSchema (book_schema [])
made_book = record { tables = inl refl; indexes = refl; views = refl }

-- the statement creates the table, without a row
does_create : (limit : Option ℕ) (mode : Mode) (db after : Database) (tally : Tally) → db.schema ≡ no_schema
    → Does limit mode [] db create_text None CreateTable (Ok (tally, after)) → (after.schema ≡ book_schema []) × StandsFor (after.trees 0) fin.empty
does_create limit mode db after tally has does =
    let all = went does in
    let first = went all.1 in
    let made = first.1 in
    let both : Ok made.table ≡ Ok account = sym made.defined ∙ create_is.2 in
    let same : made.table ≡ account = cc in
    let schema : first.0.schema ≡ book_schema [] = made.is ∙ ap (λ s. created s made.table) has ∙ ap (created no_schema) same ∙ created_is in
    let plain : lacks_sequence first.0.schema ≡ false = ap lacks_sequence schema in
    let now : after ≡ first.0 = ap (λ (p : Tally × Database). p.1) (same_value all.2) ∙ same_value (rw plain at first.2) in
    let empty : after.trees 0 ≡ [] = ap (λ (d : Database). d.trees 0) now ∙ subst (λ s. first.0.trees (next_tree s) ≡ []) has made.empty in
    (ap (λ (d : Database). d.schema) now ∙ schema, subst (λ rows. StandsFor rows fin.empty) (sym empty) (record { lines = []; each = tt; apart = tt; book_is = refl }))

pub creates : (old new : State) (count : ℕ) → IsSettled new → old.now.schema ≡ no_schema → old.in_transaction ≡ false → Executes create_text [] old new (Ok count) → IsTableOf new fin.empty
creates old new count settled has autocommit h =
    let w = subst (λ t. Writes old new None CreateTable t [] count) create_is.1 (runs_as create_text [] old new no_schema has CreateTable create_is.0 create_plain count h) in
    let made = does_create old.step_limit (mode_of old) old.now new.now w.tally has w.changed in
    let committed : new.committed ≡ new.now = w.shown.committed_is ∙ ap (λ b. if b then old.committed else new.now) autocommit in
    record {
      schema = subst IsBookSchema (sym made.0) made_book;
      stands = made.1;
      sound = w.sound;
      autocommit = w.shown.mode ∙ autocommit;
      left = λ db may. (fin.empty, refl, holds db fin.empty new.now (subst IsBookSchema (sym made.0) made_book) w.sound made.1 (settled db w.shown.is_open may ∙ ap (λ (d : Database). d.trees) committed));
    }

pub create_left : (old new : State) → HasCleanDisk new → old.now.schema ≡ no_schema → Survives old new (CommitsBy create_text [] old) → (db : Trees) → new.may_leave db
    → old.may_leave db ⊎ HoldsBook db fin.empty
create_left old new clean has s db may = elim (s.crash clean db may) [
  | inl before ↦ inl before
  | inr commits ↦
      let m = subst (λ t. MayWrite old None CreateTable t [] db) create_is.1 (only_writes [] (λ e. cc, λ n e. cc) old _ db (commits_as create_text [] no_schema CreateTable create_is.0 create_plain old has db commits)) in
      let made = does_create old.step_limit (mode_of old) old.now m.2 m.1 has m.3 in
      inr (holds db fin.empty m.2 (subst IsBookSchema (sym made.0) made_book) m.4 made.1 m.5)
]
