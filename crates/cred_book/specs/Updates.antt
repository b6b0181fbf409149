-- A store of rows that many clients change by conditional updates, such as a table of a database.
-- Beside it, the history of one thread, which does whole operations one by one. A row is whatever
-- the store keeps at a key: a record or none, or a text of any scheme.
use Rattle.std.specs.Prelude.{◌≡◌, ◌↔◌, ◌⊎◌, ⊤, ℕ, List, [], ◌∷◌, Bool, true, if◌then◌else◌, Option, Some, None}
use Rattle.std.specs.FinMap as map
use Rattle.cred_phc.specs.Values.{RecordValue}
use Rattle.cred_book.specs.{Accounts.Accounts, Names.name_cmp, Works.Task, Works.name_of, Works.whole, declared.request.Reply.Reply}
use Rattle.cred_book.specs.declared.request.Reply.TheVariants as reply
use Rattle.cred_book.specs.declared.request.Request.{Request}

-- the rows of a store, by the bytes of their keys
abbrev pub Rows : Type 0 → Type 0
Rows V = map.FinMap name_cmp V

-- an operation at one key, for whatever row is there: the reply, and the row after. `None` is no
-- row, so an operation that makes a row turns `None` into `Some`
pub record Operation (V R : Type 0) : Type 0 where
  pub key : List ℕ
  pub act : Option V → R × Option V

-- the rows with this row, or none, at a key
abbrev pub with_row : {V : Type 0} → Rows V → List ℕ → Option V → Rows V
with_row rows key None = map.remove rows key
with_row rows key (Some row) = map.insert rows key row

-- ---- the store

-- a client's update of one row: the operation, with the copy of the row that it is to replace; the
-- reply and the row after, as the client worked them out; and whether the store did it
pub record Update (V R : Type 0) : Type 0 where
  pub operation : Operation V R
  pub copy : Option V
  pub reply : R
  pub after : Option V
  pub is_done : Bool

-- the client did the whole operation at its copy, wherever it had that from
abbrev pub IsWorked : {V R : Type 0} → Update V R → Type 0
IsWorked {V = V} {R = R} update =
    ◌≡◌ {A = R × Option V} (update.reply, update.after) (update.operation.act update.copy)

-- the row at the update's key
abbrev pub standing : {V R : Type 0} → Rows V → Update V R → Option V
standing rows update = map.get rows update.operation.key

-- the duty of a store: it does an update only if the row still equals the copy
abbrev pub IsConditional : {V R : Type 0} → Rows V → Update V R → Type 0
IsConditional rows update = update.is_done ≡ true → standing rows update ≡ update.copy

-- no duty, but possible: the store does each such update, so none fails by a lost connection
abbrev pub IsExact : {V R : Type 0} → Rows V → Update V R → Type 0
IsExact rows update = (update.is_done ≡ true) ↔ (standing rows update ≡ update.copy)

-- the rows after an update; one that isn't done changes nothing
abbrev pub updated : {V R : Type 0} → Rows V → Update V R → Rows V
updated rows update =
    if update.is_done then with_row rows update.operation.key update.after else rows

-- the updates of all clients in the order in which the store came to them; no other comes between
-- the look at the copy and the writing
abbrev pub IsLog : {V R : Type 0} → Rows V → List (Update V R) → Type 0
IsLog rows [] = ⊤
IsLog rows (update ∷ updates) =
    IsWorked update × IsConditional rows update × IsLog (updated rows update) updates

unfoldable pub store_after : {V R : Type 0} → Rows V → List (Update V R) → Rows V
store_after rows [] = rows
store_after rows (update ∷ updates) = store_after (updated rows update) updates

-- the operations of the updates that were done, and the replies to these
unfoldable pub operations_done : {V R : Type 0} → List (Update V R) → List (Operation V R)
operations_done [] = []
operations_done (update ∷ updates) = if update.is_done
    then update.operation ∷ operations_done updates else operations_done updates

unfoldable pub replies_done : {V R : Type 0} → List (Update V R) → List R
replies_done [] = []
replies_done (update ∷ updates) =
    if update.is_done then update.reply ∷ replies_done updates else replies_done updates

-- one of the updates at this key was done
unfoldable pub HasDone : {V R : Type 0} → List ℕ → List (Update V R) → Type 0
HasDone key [] = ⊥
HasDone key (update ∷ updates) =
    ((update.is_done ≡ true) × (update.operation.key ≡ key)) ⊎ HasDone key updates

-- ---- the history of one thread

-- one whole operation: the reply, and the rows after
unfoldable pub outcome_on : {V R : Type 0} → Rows V → Operation V R → R × Rows V
outcome_on rows operation = (
  (operation.act (map.get rows operation.key)).0,
  with_row rows operation.key (operation.act (map.get rows operation.key)).1,
)

unfoldable pub seq_replies : {V R : Type 0} → Rows V → List (Operation V R) → List R
seq_replies rows [] = []
seq_replies rows (operation ∷ operations) =
    (outcome_on rows operation).0 ∷ seq_replies (outcome_on rows operation).1 operations

unfoldable pub seq_after : {V R : Type 0} → Rows V → List (Operation V R) → Rows V
seq_after rows [] = rows
seq_after rows (operation ∷ operations) = seq_after (outcome_on rows operation).1 operations

-- ---- requests, in a store whose rows have a record or none

abbrev pub outcome_at : Request → Option (Option RecordValue) → Reply × Option (Option RecordValue)
outcome_at request None = (reply.NoAccount, None)
outcome_at request (Some now) = ((whole request now).0, Some (whole request now).1)

abbrev pub operation_of : Request → Operation (Option RecordValue) Reply
operation_of request = record { key = name_of request; act = outcome_at request }

-- a ticket's update, as it is worked out at its copy
abbrev pub update_of : Task → Bool → Update (Option RecordValue) Reply
update_of task is_done = record {
  operation = operation_of task.0;
  copy = Some task.1;
  reply = (outcome_at task.0 (Some task.1)).0;
  after = (outcome_at task.0 (Some task.1)).1;
  is_done = is_done;
}

-- the refusal tells the row that is there instead of the copy
abbrev pub refusal : Option (Option RecordValue) → Reply
refusal None = reply.NoAccount
refusal (Some now) = reply.Changed now

-- the reply to an update
abbrev pub answer : Accounts → Update (Option RecordValue) Reply → Reply
answer book update = if update.is_done then update.reply else refusal (standing book update)
