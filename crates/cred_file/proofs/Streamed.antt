-- The facts about the table from rows that are read one at a time.
use Rattle.std.proofs.Common.{◌≡◌, List, [], ◌∷◌, ◌++◌, append_assoc, Ok, None, Option, inl, inr, ◌≤◌, refl, sym, ap, subst, ◌∙◌}
use Rattle.std.specs.{List.Sorted.IsPermutation, Prelude.ℤ, Prelude.map}
use Rattle.sqlite.specs.{Order.Row, Held.Held, Held.state, Store.Ghosts, Given.HasGiven, Listing.understood, Listing.IsSourceOf, Listing.reads_listing}
use Rattle.sqlite.specs.Effect.{Database, RefusesToRead}
use Rattle.sqlite.specs.{State.State, State.IsUnchanged, State.IsStatement, State.Shown, State.FailsToQuery, State.FailsToShow, State.IsNotRun, Clock.timed}
use Rattle.sqlite.specs.declared.error.Error.{Error}
use Rattle.sqlite_schema.specs.declared.command.Command.{Command}
use Rattle.sqlite_resolve.specs.declared.compiled.Compiled.{Compiled}
use Rattle.sqlite.proofs.Callers.{EndsIn, IsPlain, begins_shown, command_of, given_begin, unchanged_then}
use Rattle.sqlite.proofs.StreamLemmas.{fails_since}
use Rattle.cred_file.specs.Cells.{Cells}
use Rattle.cred_file.specs.{declared.fault.OpenFault.OpenFault, Schema.IsBookSchema, Table.StandsFor, Drafts.IsDraftOf, Drafts.IsNotAdded}
use Rattle.cred_file.specs.Opening.{AreAtFault, rows_text}
use Rattle.cred_file.proofs.{LeftOut.left_out, Selected.IsRising, Selected.selected, Shuffled.fault_unshown, Shuffled.shown, Shuffled.stands_unshown}
use Rattle.cred_file.proofs.Texts.{rows_is, rows_plain}

-- the query has no recursion
ends : (s : State) → IsBookSchema s.now.schema → (c : Compiled) (db : Database) → IsStatement s rows_text [] c → (params : Row) → EndsIn c.command db params
ends s has c db it params =
    subst (λ (k : Command). EndsIn k db params) (sym (rows_is _ has) ∙ ap command_of it.is) tt

still : (a b : State) → IsUnchanged a b → IsUnchanged b b
still a b same = (record { was_open = same.0.is_open; is_open = same.0.is_open; now_is = refl; committed_is = refl; mode = refl }, record { changes = refl; last_rowid = refl }, refl)

module _ {S : Type 0} (g : Ghosts S) (old : State) (h : Held S) (has : IsBookSchema old.now.schema) (same : IsUnchanged old (state g h)) where
  abbrev now : State
  now = state g h

  has_now : IsBookSchema now.now.schema
  has_now = subst (λ (d : Database). IsBookSchema d.schema) (sym same.0.now_is) has

  -- the rows so far are the first of the table's, in some order
  pub first_of : (given : List Row) → HasGiven g rows_text [] h given → (tail : List Row) × IsPermutation (given ++ tail) (map shown (old.now.trees 0)) × IsRising (given ++ tail)
  first_of given it =
      let r = begins_shown rows_text [] now now given (given_begin g rows_text [] h given it) (still old now same) (λ c db is from. ends now has_now c db is _) in
      let s = selected now now has_now (given ++ r.0) r.1 in
      (r.0, subst (λ (d : Database). IsPermutation (given ++ r.0) (map shown (d.trees 0))) same.0.now_is s.0, s.1)

  -- so one that is left out is at fault in the table
  pub fault_first : (prior : List Row) (row : Row) → HasGiven g rows_text [] h (prior ++ row ∷ []) → (book : Cells) (last : Option ℤ) → IsDraftOf prior book last
      → (why : OpenFault) → IsNotAdded row book last why → AreAtFault (old.now.trees 0) why
  fault_first prior row it book last draft why h =
      let f = first_of (prior ++ row ∷ []) it in
      let all = append_assoc prior (row ∷ []) f.0 in
      fault_unshown (old.now.trees 0) (prior ++ row ∷ f.0) (subst (λ rows. IsPermutation rows (map shown (old.now.trees 0))) all f.1) why (left_out prior f.0 row book last draft (subst IsRising all f.2) why h)

  -- and once all are given, the book is the table's
  pub stands_last : (new : State) (given : List Row) → Shown rows_text [] now new given → (book : Cells) → StandsFor given book → StandsFor (old.now.trees 0) book
  stands_last new given shows book stands =
      let p = (selected now new has_now given shows).0 in
      subst (λ (d : Database). StandsFor (d.trees 0) book) same.0.now_is (stands_unshown (now.now.trees 0) given book p stands)

-- the query that failed after some rows had failed from the first on
module _ (old mid new : State) (has : IsBookSchema old.now.schema) (same : IsUnchanged old mid) (counts : old.faults ≤ mid.faults) (limit : mid.step_limit ≡ old.step_limit) where
  abbrev since : (c : Compiled) → IsStatement mid rows_text [] c → IsStatement old rows_text [] c
  since c h = record { is = subst (λ (d : Database). understood d.schema rows_text ≡ Ok c) same.0.now_is h.is; whole = h.whole; given = h.given; now = h.now }

  plain : (c : Compiled) → understood old.now.schema rows_text ≡ Ok c → c.returning ≡ None
  plain c is = (subst IsPlain is (rows_plain _ has)).0

  pub fails_from_first : (e : Error) → FailsToQuery rows_text [] mid new e → FailsToQuery rows_text [] old new e
  unfolding FailsToQuery IsNotRun
  fails_from_first e (inl (inl h)) = inl (inl (rw (← same.0.now_is) h.0, unchanged_then old mid new same h.1))
  fails_from_first e (inl (inr h)) = inl (inr (fails_since old mid new same counts e h))
  fails_from_first e (inr h) =
      let it = since h.0 h.1 in
      let none = plain h.0 it.is in
      let full = timed [] h.0.formats h.1.now in
      let f = subst (FailsToShow mid new rows_text h.0 full e) none h.2 in
      inr (
        h.0,
        it,
        subst (FailsToShow old new rows_text h.0 full e) (sym none)
            (f.0, subst (λ (d : Database). IsSourceOf (reads_listing d.schema rows_text) d f.0) same.0.now_is f.1, subst (λ l. RefusesToRead l h.0.command f.0 full e) limit f.2, unchanged_then old mid new same f.3),
      )
