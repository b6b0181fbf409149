-- A store that stops: its view, and the effect of a call on it.
use Rattle.std.specs.Prelude.{◌≡◌, ◌⊎◌, ◌+◌, ◌<◌, ℕ, Bool, true, false, if◌then◌else◌, IsTrue}
use Rattle.sqlite_trees.specs.declared.error.StoreError.{StoreError}
use Rattle.sqlite_trees.specs.declared.error.StoreError.TheVariants.{Broken, Io}
use Rattle.sqlite_trees.specs.declared.store.Store.{Ghosts}
use Rattle.sqlite_trees.specs.View.{View}
use Rattle.crash_laws.specs.declared.fail_stop.FailStop.{FailStop}

-- the view of a stopped store is that of a shut one
abbrev pub shown : Bool → View → View
shown has_stopped v = record v {
  is_open = if has_stopped then false else v.is_open;
  is_broken = if has_stopped then true else v.is_broken;
}

-- its stop is one fault more
abbrev pub count : Bool → ℕ
count has_stopped = if has_stopped then 1 else 0

-- the error of the call that stops the store, and of each later call
abbrev pub refusal : Bool → StoreError
refusal has_stopped = if has_stopped then Broken else Io

-- The store passes a call on while it has calls left. The next call stops the store, and no later
-- call changes anything.
pub record IsCall {S : Type 0} {g : Ghosts S} (old new : FailStop S g) : Type 0 where
  pub passes : old.has_stopped ≡ false → 0 < old.calls_left
      → (new.has_stopped ≡ false) × (new.calls_left + 1 ≡ old.calls_left)
  pub stops : (old.calls_left ≡ 0) ⊎ IsTrue old.has_stopped
      → IsTrue new.has_stopped × (new.store ≡ old.store)
