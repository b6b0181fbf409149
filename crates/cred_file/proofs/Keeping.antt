-- The effect of the statements on a connection that keeps a book.
use Rattle.std.proofs.Common.{is_some, arith, ◌≤◌, ◌≡◌, ◌⊎◌, inl, inr, ℕ, List, [], ◌∷◌, append-nil, true, false, if◌then◌else◌, cond, ◌+◌, Some, None, Option, Ok, Err, Result, IsTrue, refl, sym, ap, subst, subst₂, ◌∙◌}
use Rattle.std.specs.FinMap as fin
use Rattle.std.specs.{FinMap.len-insert, Cmp.Lexicographic.nat_list_cmp_total}
use Rattle.sqlite.specs.declared.types.Value.{Value}
use Rattle.sqlite.specs.declared.types.Value.TheVariants.{Null, Text}
use Rattle.sqlite.specs.{declared.error.Error.Error, Values.bound_value, Order.Row, Tree.Trees, Schema.Schema}
use Rattle.sqlite.specs.{Command.TheVariants.Commit, Command.TheVariants.Insert, Command.TheVariants.Release, Command.TheVariants.Update, Command.TheVariants.Delete, Source.TheVariants.Values, Table.Table, Effect.Database}
use Rattle.sqlite.specs.Listing.{understood}
use Rattle.sqlite.specs.State.{State, HasCleanDisk, Survives, Executes, CommitsBy, MayCommit, MayWrite, Writes, Runs, mode_of}
use Rattle.sqlite.specs.{declared.run.Mode.Mode, Does.Does, Does.Tally, Held.Held, Held.state, Store.Ghosts}
use Rattle.sqlite_schema.specs.declared.command.Command.{Command}
use Rattle.sqlite.proofs.Callers.{IsPlain, command_of, statement_of, runs_as}
use Rattle.cred_phc.specs.{Values.RecordValue}
use Rattle.std.proofs.{Common.nat_lt, Common.◌<◌, Common.false, Common.◌||◌, Common.OnOk, Common.IfErr, lemmas.Bool.lt-ltb, lemmas.Bool.le-ltb}
use Rattle.cred_file.specs.Cells.{Cell, Cells}
use Rattle.cred_book.specs.{Accounts.Accounts, Accounts.register_capacity, Calls.EntersWithin, Names.is_name, declared.error.BookError.BookError}
use Rattle.sqlite_catalog.specs.Listing.{IsSound}
use Rattle.cred_file.specs.Schema.{IsBookSchema, book_schema, statistics, insert_text, update_text, delete_text, rename_text}
use Rattle.cred_file.specs.{Failures.Changes, Failures.Refuses, Failures.put_text, Rows.Suits, Rows.is_update, Table.StandsFor, Table.Tells, Changes.after_attempt, Changes.moved, Changes.PutsEntry}
use Rattle.cred_file.specs.{Keeps.HoldsBook, Keeps.IsTableOf, Keeps.IsRenamable, Keeps.LeavesOnly, Keeps.Keeps, Keeps.IsOrWith, declared.fault.Lost.Lost}
use Rattle.sqlite_trees.specs.View.{doubt}
use Rattle.cred_book.specs.declared.error.BookError.TheVariants as error
use Rattle.cred_book.proofs.Rows.{no_some}
use Rattle.cred_file.specs.declared.row_statement.RowStatement.{RowStatement}
use Rattle.cred_file.specs.declared.row_statement.RowStatement.TheVariants as statement
use Rattle.cred_file.proofs.Texts.{Means, of_book, insert_is, update_is, delete_is, rename_is, matched, deleting, renaming, terms}
use Rattle.cred_file.proofs.Changes.{AreQuiet, does_insert, does_update, does_delete, does_rename}

-- while the store is open, a crash leaves the last commit
abbrev pub IsSettled : State → Type 0
IsSettled s = (db : Trees) → IsTrue s.is_open → s.may_leave db → db ≡ s.committed.trees

-- the trees of a sound database
pub holds : (db : Trees) (book : Cells) (of : Database) → IsBookSchema of.schema → IsSound of.schema of.trees → StandsFor (of.trees 0) book → db ≡ of.trees → HoldsBook db book
holds db book of schema sound stands is = record {
  schema = of.schema;
  of_book = schema;
  sound = subst (IsSound of.schema) (sym is) sound;
  stands = subst (λ (t : Trees). StandsFor (t 0) book) (sym is) stands;
}

module _ (sql : List ℕ) (params : Row) (schema : Schema) (command : Command) (is : command_of (understood schema sql) ≡ command) (plain : IsPlain (understood schema sql)) where
  pub commits_as : (s : State) → s.now.schema ≡ schema → (db : Trees) → CommitsBy sql params s db → MayCommit s None command (statement_of sql (understood schema sql)) params db
  unfolding CommitsBy
  commits_as s has db h =
      let known = sym h.1.is ∙ ap (λ s. understood s sql) has in
      let bare = subst IsPlain (sym known) plain in
      subst₂ (λ k t. MayCommit s None k t params db) (ap command_of known ∙ is) (ap (statement_of sql) known) (rw (bare.0, bare.1, append-nil params) at h.2)

-- what ends no transaction commits only what it writes
pub only_writes : {command : Command} (params : Row) → (command ≡ Commit → ⊥) × ((name : List ℕ) → command ≡ Release name → ⊥) → (s : State) (text : List ℕ) (db : Trees) → MayCommit s None command text params db
    → MayWrite s None command text params db
only_writes params ends_nothing s text db (inl h) = absurd (elim h.0 [ inl e ↦ ends_nothing.0 e | inr e ↦ ends_nothing.1 e.0 e.2 ])
only_writes params ends_nothing s text db (inr h) = h

-- a statement that makes one book of another
pub record IsStep (sql : List ℕ) (params : Row) (command : Command) (from to : Cells) : Type 1 where
  pub means : (schema : Schema) → IsBookSchema schema → Means schema sql command
  pub does : (beside : List Table) → AreQuiet beside → (limit : Option ℕ) (mode : Mode) (db after : Database) (text : List ℕ) (tally : Tally) → db.schema ≡ book_schema beside → StandsFor (db.trees 0) from
      → Does limit mode params db text None command (Ok (tally, after)) → (after.schema ≡ book_schema beside) × StandsFor (after.trees 0) to
  pub runs : (old new : State) (text : List ℕ) (count : ℕ) → Runs old new None command text params count → Writes old new None command text params count
  pub ends_nothing : (command ≡ Commit → ⊥) × ((name : List ℕ) → command ≡ Release name → ⊥)

module _ {sql : List ℕ} {params : Row} {command : Command} {from to : Cells} (it : IsStep sql params command from to) where
  -- with the statistics and without them
  pub step_does : (schema : Schema) → IsBookSchema schema → (limit : Option ℕ) (mode : Mode) (db after : Database) (text : List ℕ) (tally : Tally) → db.schema ≡ schema → StandsFor (db.trees 0) from
      → Does limit mode params db text None command (Ok (tally, after)) → (after.schema ≡ schema) × StandsFor (after.trees 0) to
  step_does schema is limit mode db after text tally has stands d = of_book (λ s. db.schema ≡ s → (after.schema ≡ s) × StandsFor (after.trees 0) to)
      (λ has. it.does [] (λ k d e. refl) limit mode db after text tally has stands d) (λ has. it.does (statistics ∷ []) (λ k d e. refl) limit mode db after text tally has stands d) schema is has

module _ {sql : List ℕ} {params : Row} {command : Command} {from to : Cells} (it : IsStep sql params command from to) (old new : State) where
  pub step_done : (count : ℕ) → IsSettled new → IsTableOf old from → Executes sql params old new (Ok count) → IsTableOf new to
  step_done count settled was h =
      let w = it.runs old new _ count (runs_as sql params old new old.now.schema refl command (it.means _ was.schema).0 (it.means _ was.schema).1 count h) in
      let made = step_does it old.now.schema was.schema old.step_limit (mode_of old) old.now new.now (statement_of sql (understood old.now.schema sql)) w.tally refl was.stands w.changed in
      let schema = subst IsBookSchema (sym made.0) was.schema in
      let committed : new.committed ≡ new.now = w.shown.committed_is ∙ ap (λ b. if b then old.committed else new.now) was.autocommit in
      record {
        schema = schema;
        stands = made.1;
        sound = w.sound;
        autocommit = w.shown.mode ∙ was.autocommit;
        left = λ db may. (to, refl, holds db to new.now schema w.sound made.1 (settled db w.shown.is_open may ∙ ap (λ (d : Database). d.trees) committed));
      }

  pub step_left : HasCleanDisk new → Survives old new (CommitsBy sql params old) → IsTableOf old from → LeavesOnly new (λ b. (b ≡ from) ⊎ (b ≡ to))
  step_left clean s was db may =
      elim (s.crash clean db may) [
        | inl before ↦ let l = was.left db before in (l.0, inl l.1, l.2)
        | inr commits ↦
            let m = only_writes params it.ends_nothing old _ db (commits_as sql params old.now.schema command (it.means _ was.schema).0 (it.means _ was.schema).1 old refl db commits) in
            let made = step_does it old.now.schema was.schema old.step_limit (mode_of old) old.now m.2 (statement_of sql (understood old.now.schema sql)) m.1 refl was.stands m.3 in
            (to, inr refl, holds db to m.2 (subst IsBookSchema (sym made.0) was.schema) m.4 made.1 m.5)
      ]

-- what is bound for such a value is the value
pub bound_told : (value : Value) (v : Cell) → Tells value v → bound_value value ≡ value
bound_told Null v tells = refl
bound_told (Text t) v tells = refl
bound_told _ v tells = absurd tells

-- ---- the statements

-- what follows of a count, and of an error
pub when_ok : {P : Type 0} (r : Result ℕ Error) → ((count : ℕ) → r ≡ Ok count → P) → OnOk r P
when_ok (Ok count) f = f count refl
when_ok (Err e) f = tt

when_err : {P : Error → Type 0} (r : Result ℕ Error) → ((e : Error) → r ≡ Err e → P e) → IfErr r P
when_err (Ok count) f = tt
when_err (Err e) f = f e refl

-- a statement that is a step from each book that fits
pub changes : {S : Type 0} (g : Ghosts S) (old new : Held S) {sql : List ℕ} {params : Row} {command : Command} {Fits : Cells → Type 0} {after : Cells → Cells} {Fails : Error → Type 0}
    → ((book : Cells) → Fits book → IsStep sql params command book (after book)) → ((e : Error) → Refuses g old new sql params e → Fails e) → (r : Result ℕ Error) → IsSettled (state g new)
    → (HasCleanDisk (state g new) → Executes sql params (state g old) (state g new) r) → Survives (state g old) (state g new) (CommitsBy sql params (state g old)) → Changes g old new Fits after Fails r
changes g old new {sql} {params} step fails r settled runs survives =
    let was = state g old in
    let now = state g new in
    record {
      done = λ clean. when_ok r (λ count is book fits held. step_done (step book fits) was now count settled held (subst (Executes sql params was now) is (runs clean)));
      left = λ clean book fits held. step_left (step book fits) was now clean survives held;
      refused = when_err r (λ e is. fails e (λ clean. subst (Executes sql params was now) is (runs clean)));
      clean = survives.clean;
    }

-- what each statement is that writes a row
abbrev pub row_command : RowStatement → Command
row_command statement.Insert = Insert 0 (Values terms 3)
row_command statement.Update = Update 0 (record { lets = []; body = matched })

module _ (book : Cells) (name : List ℕ) where
  insert_step : (value : Value) (v : Cell) → IsTrue (is_name name) → Tells value v → fin.contains_key book name ≡ false
      → IsStep insert_text (Text name ∷ value ∷ []) (Insert 0 (Values terms 3)) book (fin.insert book name v)
  insert_step value v named tells absent = record {
    means = insert_is;
    does = λ beside quiet limit mode db after text tally has stands. does_insert beside quiet limit mode name db after text tally book has stands named value v tells absent;
    runs = λ o n t c h. h;
    ends_nothing = (λ e. cc, λ n e. cc);
  }

  update_step : (value : Value) (v : Cell) → Tells value v → fin.contains_key book name ≡ true
      → IsStep update_text (Text name ∷ value ∷ []) (Update 0 (record { lets = []; body = matched })) book (fin.insert book name v)
  update_step value v tells there = record {
    means = update_is;
    does = λ beside quiet limit mode db after text tally has stands. does_update beside quiet limit mode name db after text tally book has stands value v tells there;
    runs = λ o n t c h. h;
    ends_nothing = (λ e. cc, λ n e. cc);
  }

  pub row_step : (s : RowStatement) (value : Value) (v : Cell) → IsTrue (is_name name) → Tells value v → Suits s name book
      → IsStep (put_text (is_update s)) (Text name ∷ value ∷ []) (row_command s) book (fin.insert book name v)
  row_step statement.Insert value v named tells absent = insert_step value v named tells absent
  row_step statement.Update value v named tells there = update_step value v tells there

  pub delete_step : fin.contains_key book name ≡ true
      → IsStep delete_text (Text name ∷ []) (Delete 0 (record { lets = []; body = deleting })) book (fin.remove book name)
  delete_step there = record {
    means = delete_is;
    does = λ beside quiet limit mode db after text tally has stands. does_delete beside quiet limit mode name db after text tally book has stands there;
    runs = λ o n t c h. h;
    ends_nothing = (λ e. cc, λ n e. cc);
  }

  pub rename_step : (other : List ℕ) → IsTrue (is_name other) → IsRenamable name other book
      → IsStep rename_text (Text name ∷ Text other ∷ []) (Update 0 (record { lets = []; body = renaming })) book (moved book name other)
  rename_step other named fits = record {
    means = rename_is;
    does = λ beside quiet limit mode db after text tally has stands. does_rename beside quiet limit mode name db after text tally book has stands other named fits.0 fits.1;
    runs = λ o n t c h. h;
    ends_nothing = (λ e. cc, λ n e. cc);
  }

-- ---- what a book in a database keeps true

-- a table of the book, with no change lost
pub keeps_first : {S : Type 0} (g : Ghosts S) (new : Held S) (book : Cells) → fin.len book ≤ register_capacity → (HasCleanDisk (state g new) → IsTableOf (state g new) book) → Keeps g new book None
keeps_first g new book low made = record {
  table = λ clean none. made clean;
  left = λ clean. (made clean).left;
  few = λ b is. subst (λ b. fin.len b ≤ register_capacity) (sym is) low;
}

-- the book fits, as it is kept
pub fits : {S : Type 0} {g : Ghosts S} {conn : Held S} {book : Cells} (lost : Option Lost) → Keeps g conn book lost → false ≡ is_some lost → fin.len book ≤ register_capacity
fits {book = book} lost keeps whole = keeps.few book (subst (λ l. IsOrWith book l book) (sym (no_some lost (sym whole))) refl)

module _ {S : Type 0} (g : Ghosts S) (old new : Held S) (book : Cells) (lost : Option Lost) (keeps : Keeps g old book lost) (whole : false ≡ is_some lost)
    (clean : doubt (state g old).is_clean ≤ doubt (state g new).is_clean) (now after : Cells) where
  none : lost ≡ None
  none = no_some lost (sym whole)

  early : HasCleanDisk (state g new) → HasCleanDisk (state g old)
  early late = omega (arith, clean)

  pub keeps_done : now ≡ after → fin.len after ≤ register_capacity → (HasCleanDisk (state g new) → IsTableOf (state g old) book → IsTableOf (state g new) after) → Keeps g new now lost
  keeps_done is low does = subst (λ b. Keeps g new b lost) (sym is) (subst (Keeps g new after) (sym none) (record {
    few = λ b same. subst (λ b. fin.len b ≤ register_capacity) (sym same) low;
    table = λ late _. does late (keeps.table (early late) none);
    left = λ late. (does late (keeps.table (early late) none)).left;
  }))

  pub keeps_lost : now ≡ book → (loss l : Lost) → loss ≡ l → fin.len (after_attempt book l.attempt) ≤ register_capacity
      → (HasCleanDisk (state g new) → IsTableOf (state g old) book → LeavesOnly (state g new) (λ b. (b ≡ book) ⊎ (b ≡ after_attempt book l.attempt))) → Keeps g new now (Some loss)
  keeps_lost is loss l said low does = subst (λ b. Keeps g new b (Some loss)) (sym is) (subst (λ l. Keeps g new book (Some l)) (sym said) (record {
    few = λ b is. elim is [ inl same ↦ subst (λ b. fin.len b ≤ register_capacity) (sym same) (fits lost keeps whole) | inr more ↦ subst (λ b. fin.len b ≤ register_capacity) (sym more) low ];
    table = λ late e. absurd cc;
    left = λ late. does late (keeps.table (early late) none);
  }))

-- how many accounts there are with a new name, and with an old one
pub len_new : (book : Cells) (name : List ℕ) (v : Cell) → fin.contains_key book name ≡ false → fin.len book < register_capacity → fin.len (fin.insert book name v) ≤ register_capacity
len_new book name v absent room =
    let grown : fin.len (fin.insert book name v) ≡ fin.len book + 1 = len-insert nat_list_cmp_total book name v ∙ ap (λ b. cond b (fin.len book) (fin.len book + 1)) absent in omega (arith, grown, room)

pub len_old : (book : Cells) (name : List ℕ) (v : Cell) → fin.contains_key book name ≡ true → fin.len book ≤ register_capacity → fin.len (fin.insert book name v) ≤ register_capacity
len_old book name v there low =
    let same : fin.len (fin.insert book name v) ≡ fin.len book = len-insert nat_list_cmp_total book name v ∙ ap (λ b. cond b (fin.len book) (fin.len book + 1)) there in omega (arith, same, low)

-- a name that isn't entered changes nothing
pub not_entered : (room : ℕ) (old new : Accounts) (name : List ℕ) (v : Option RecordValue) (e : BookError) → EntersWithin room old new name v (Err e) → new ≡ old
not_entered room old new name v error.Exists h = h.1
not_entered room old new name v error.Full h = h.2
not_entered room old new name v error.Memory h = h.2
not_entered room old new name v _ h = absurd h

-- a name that is replaced is put
pub put_replaced : (room : ℕ) (old new : Accounts) (name : List ℕ) (v : Option RecordValue) (r : Result (Unit {0}) BookError) → fin.contains_key old name ≡ true → OnOk r (new ≡ fin.insert old name v) → IfErr r (λ e. (e ≡ error.Memory) × (new ≡ old)) → PutsEntry room old new name v r
put_replaced room old new name v (Ok u) there done memory = (ap (λ b. b || nat_lt (fin.len old) room) there, done)
put_replaced room old new name v (Err e) there done memory = subst (λ e. PutsEntry room old new name v (Err e)) (sym memory.0) (ap (λ b. b || nat_lt (fin.len old) room) there, memory.1)

-- a new name that is entered is put
pub put_entered : (room : ℕ) (old new : Accounts) (name : List ℕ) (v : Option RecordValue) (r : Result (Unit {0}) BookError) → fin.contains_key old name ≡ false → EntersWithin room old new name v r → PutsEntry room old new name v r
put_entered room old new name v (Ok u) absent h = (ap (λ b. b || nat_lt (fin.len old) room) absent ∙ lt-ltb (fin.len old) room h.1, h.2)
put_entered room old new name v (Err error.Exists) absent h = absurd (let there = h.0 in cc)
put_entered room old new name v (Err error.Full) absent h = (ap (λ b. b || nat_lt (fin.len old) room) absent ∙ le-ltb (fin.len old) room h.1, h.2)
put_entered room old new name v (Err error.Memory) absent h = (ap (λ b. b || nat_lt (fin.len old) room) absent ∙ lt-ltb (fin.len old) room h.1, h.2)
put_entered room old new name v (Err _) absent h = h
