-- A commit is the whole operation unless the record has changed.
use Rattle.std.proofs.Common.{◌≡◌, ℕ, List, sym, subst, Option, Some, None, IfSome, Bool, true, false, if◌then◌else◌, unwrap_or, inl, inr, refl, ap, ◌∙◌}
use Rattle.cred_phc.specs.Values.{RecordValue}
use Rattle.cred_book.specs.{Works.Task, Works.is_for_current, Works.makes_change, Works.name_of, Works.new_record, Works.same, Works.whole, declared.request.Reply.Reply, declared.request.Request.Request}
use Rattle.cred_book.specs.declared.request.Request.TheVariants.{Enrol, Verify, Change, Upgrade, Remove}
use Rattle.cred_book.specs.declared.request.Reply.TheVariants as reply
use Rattle.cred_cli.specs.{History.Answer, History.Changed, Steps.reply_answer, Texts.reply_line}
use Rattle.cred_cli.proofs.Simulation.{whole_replies}
use Rattle.cred_many.specs.{LineOperations.IsJobOf, LineOperations.IsSound, LineOperations.hashed_for, LineOperations.is_reset, declared.line_operation.LineOperation.TheVariants.Whole, declared.line_operation.LineOperation.TheVariants.Login, declared.line_operation.LineOperation.TheVariants.Reset, declared.line_operation.LineOperation.TheVariants.Quick, declared.line_operation.LineOperation.TheVariants.Forgive, declared.line_operation.LineOperation.TheVariants.Later, Served.done, Served.NeedsMemory, Served.effect_of, Served.login_verdict, Served.record_at, Served.told_verdict, declared.line_operation.LineOperation.LineOperation}
use Rattle.cred_admin.specs.{PasswordOperations.reset_step, Marked.HeedsMarks, Marked.MarkedBook, Marked.barred, Marked.due, Marked.is_outdated, Marked.keeps_password, Marked.marked_book, Marked.marks_after, Marked.shut, Marked.tried, Marked.tried_at, Marked.tried_if, Statuses.verdict_line}
use Rattle.cred_admin.specs.declared.verdict.Verdict.{Verdict}
use Rattle.cred_admin.specs.declared.verdict.Verdict.TheVariants.{Told, Expired, Same}
use Rattle.cred_book.specs.declared.request.Request.TheVariants as request
use Rattle.cred_book.proofs.{Changes.whole_stays, Rows.row_again}
use Rattle.cred_tries.specs.Limits.{Limits}
use Rattle.cred_many.specs.{Scribe.HasEffect, Scribe.HasPlace, Scribe.IsCounted, Scribe.IsCountedAt, Scribe.IsNotSentAway, Scribe.IsOpenTo, Tries.effect_by, Tries.is_try, Tries.is_try_request, Tries.reset_effect, Tries.verdict_effect, declared.tries.Effect.Effect}
use Rattle.cred_many.specs.declared.tries.Effect.TheVariants as effect
use Rattle.std.specs.FinMap as map

-- ---- no operation is answered that the record is another

abbrev is_change : Answer → Bool
is_change Changed = true
is_change _ = false

not_changed : (r : Reply) → is_change (reply_answer r) ≡ false → is_outdated (Told r) ≡ false
not_changed (reply.Changed now) is = absurd cc
not_changed _ is = refl

abbrev IsCurrent : Option Verdict → Type 0
IsCurrent o = IfSome o (λ v. is_outdated v ≡ false)

shut_current : (r : Request) (now : Option RecordValue) → is_outdated (Told (shut r now)) ≡ false
shut_current (Enrol name pw setting) now = refl
shut_current (Verify name pw) None = refl
shut_current (Verify name pw) (Some stored) = refl
shut_current (Change name pw new setting) None = refl
shut_current (Change name pw new setting) (Some stored) = refl
shut_current (Upgrade name pw setting) None = refl
shut_current (Upgrade name pw setting) (Some stored) = refl
shut_current (Remove name pw) None = refl
shut_current (Remove name pw) (Some stored) = refl

same_current : (keeps : Bool) → IsCurrent (if keeps then Some Same else None)
same_current true = refl
same_current false = tt

due_current : (request : Request) (r : Reply) → IsCurrent (due request r)
due_current request reply.Yes = refl
due_current request reply.Kept = refl
due_current request reply.Upgraded = refl
due_current request reply.Removed = refl
due_current request reply.Replaced = same_current (keeps_password request)
due_current request _ = tt

either_current : (l c : Bool) (a b : Option Verdict) → IsCurrent a → IsCurrent b → IsCurrent (if l then a else if c then b else None)
either_current true c a b one other = one
either_current false true a b one other = other
either_current false false a b one other = tt

module _ (book : MarkedBook) (r : Request) where
  current_if : (now : Option RecordValue) (o : Option Verdict) → IsCurrent o → is_outdated (tried_if book r now o).0 ≡ false
  current_if now (Some v) is = is
  current_if now None is = not_changed (whole r now).0 (ap is_change (whole_replies r now))

  current_at : (o : Option (Option RecordValue)) → is_outdated (tried_at book r o).0 ≡ false
  current_at None = refl
  current_at (Some now) =
      let m = book.marks (name_of r) in
      current_if now (barred m r now) (either_current m.locked m.must_change (Some (Told (shut r now))) (due r (whole r now).0) (shut_current r now) (due_current r (whole r now).0))

  pub tried_current : is_outdated (tried book r).0 ≡ false
  unfolding tried
  tried_current = current_at (map.get book.accounts (name_of r))

-- ---- a commit

module _ (book new : MarkedBook) (work : Task) (v : Verdict) (is : HeedsMarks book new work v) where
  -- the commit is the whole operation
  pub commits_whole : is_outdated v ≡ false → (v, new) ≡ tried book work.0
  commits_whole current = elim is [
    | inl done ↦ done
    | inr out ↦ let said : is_outdated v ≡ true = ap is_outdated out.told in absurd cc
  ]

  -- or the commit changes nothing
  pub commits_still : is_outdated v ≡ true → new ≡ book
  commits_still outdated = elim is [
    | inl done ↦ let said : is_outdated v ≡ false = ap (λ o. is_outdated o.0) done ∙ tried_current book work.0 in absurd cc
    | inr out ↦ out.same_book
  ]

  -- the record differs from the copy
  pub commits_moved : is_outdated v ≡ true → same (record_at book (name_of work.0)) work.1 ≡ false
  commits_moved outdated = elim is [
    | inl done ↦ let said : is_outdated v ≡ false = ap (λ o. is_outdated o.0) done ∙ tried_current book work.0 in absurd cc
    | inr out ↦ ap (λ entry. same (unwrap_or entry None) work.1) out.there ∙ out.other
  ]

-- ---- what is hashed for a line

told_whole : (q : Request) (v : Verdict) → told_verdict (Whole q) v ≡ v
told_whole q (Told r) = refl
told_whole q Expired = refl
told_whole q Same = refl

told_login : (operation : LineOperation) (name pw : _) (setting : _) (v : Verdict) → operation ≡ Login name pw setting → told_verdict operation v ≡ login_verdict v
told_login operation name pw setting v is = rw is (of v)
  where
    of : (v : Verdict) → told_verdict (Login name pw setting) v ≡ login_verdict v
    of (Told r) = refl
    of Expired = refl
    of Same = refl

pub done_whole : (operation : LineOperation) (capacity : ℕ) (book later : MarkedBook) (work : Task) (found : Verdict) → hashed_for operation ≡ Some work.0 → is_reset operation ≡ false → HeedsMarks book later work found → is_outdated found ≡ false
    → (verdict_line (told_verdict operation found), later) ≡ done capacity book operation
done_whole (Whole q) capacity book later work found is kept commits current =
    let same : work.0 ≡ q = cc in
    ap (λ v. (verdict_line v, later)) (told_whole q found) ∙ ap (λ o. (verdict_line o.0, o.1)) (commits_whole book later work found commits current ∙ ap (tried book) same)
done_whole (Login name pw setting) capacity book later work found is kept commits current =
    let same : work.0 ≡ request.Upgrade name pw setting = cc in
    ap (λ v. (verdict_line v, later)) (told_login (Login name pw setting) name pw setting found refl) ∙ ap (λ o. (verdict_line (login_verdict o.0), o.1)) (commits_whole book later work found commits current ∙ ap (tried book) same)
done_whole _ capacity book later work found is kept commits current = absurd cc

pub done_reset : (operation : LineOperation) (capacity : ℕ) (book later : MarkedBook) (work : Task) (stored : RecordValue) (found : Reply) → IsJobOf operation work → is_reset operation ≡ true → Some stored ≡ (whole work.0 work.1).1
    → (found, later) ≡ reset_step book (name_of work.0) stored → (reply_line found, later) ≡ done capacity book operation
done_reset (Reset name pw setting) capacity book later work stored found job reset made put =
    let same : work.0 ≡ request.Enrol name pw setting = cc (job.0) in
    let new : Some stored ≡ Some (new_record setting pw) = made ∙ ap (λ r. (whole r work.1).1) same ∙ ap (λ copy. (whole (request.Enrol name pw setting) copy).1) (job.1 refl) in
    let stored_is : stored ≡ new_record setting pw = cc in
    ap (λ o. (reply_line o.0, o.1)) (put ∙ ap (λ r. reset_step book (name_of r) stored) same ∙ ap (reset_step book name) stored_is)
done_reset _ capacity book later work stored found job reset made put = absurd cc

-- ---- a wrong password

-- a wrong password makes no change
wrong_reply : (b : Bool) (r : Reply) → effect_by b (Told r) ≡ effect.Wrong → makes_change r ≡ false
wrong_reply true reply.No is = refl
wrong_reply true reply.Wrong is = refl
wrong_reply true reply.Enrolled is = absurd cc
wrong_reply true reply.Replaced is = absurd cc
wrong_reply true reply.Upgraded is = absurd cc
wrong_reply true reply.Removed is = absurd cc
wrong_reply false reply.Enrolled is = absurd cc
wrong_reply false reply.Replaced is = absurd cc
wrong_reply false reply.Upgraded is = absurd cc
wrong_reply false reply.Removed is = absurd cc
wrong_reply _ _ is = refl

module _ (b : Bool) (book : MarkedBook) (r : Request) where
  stays_if : (now : Option RecordValue) (o : Option Verdict) → map.get book.accounts (name_of r) ≡ Some now → effect_by b (tried_if book r now o).0 ≡ effect.Wrong → (tried_if book r now o).1 ≡ book
  stays_if now (Some v) there is = refl
  stays_if now None there is =
      let stays = wrong_reply b (whole r now).0 is in
      ap (λ change. marked_book (map.insert book.accounts (name_of r) (whole r now).1) (marks_after book (name_of r) change)) stays
      ∙ ap (λ stored. marked_book (map.insert book.accounts (name_of r) stored) book.marks) (whole_stays r now stays)
      ∙ ap (λ accounts. marked_book accounts book.marks) (row_again book.accounts (name_of r) (Some now) there)

  stays_at : (o : Option (Option RecordValue)) → map.get book.accounts (name_of r) ≡ o → effect_by b (tried_at book r o).0 ≡ effect.Wrong → (tried_at book r o).1 ≡ book
  stays_at None there is = refl
  stays_at (Some now) there is = stays_if now (barred (book.marks (name_of r)) r now) there is

  stays_tried : effect_by b (tried book r).0 ≡ effect.Wrong → (tried book r).1 ≡ book
  unfolding tried
  stays_tried is = stays_at (map.get book.accounts (name_of r)) refl is

pub wrong_stays : (b : Bool) (book new : MarkedBook) (work : Task) (v : Verdict) → HeedsMarks book new work v → is_outdated v ≡ false → effect_by b v ≡ effect.Wrong → new ≡ book
wrong_stays b book new work v is current wrong =
    let whole = commits_whole book new work v is current in
    ap (λ o. o.1) whole ∙ stays_tried b book work.0 (ap (λ o. effect_by b o.0) (sym whole) ∙ wrong)

-- ---- what an answer tells of the password

pub told_effect : (operation : LineOperation) (book new : MarkedBook) (work : Task) (v : Verdict) → hashed_for operation ≡ Some work.0 → is_reset operation ≡ false → HeedsMarks book new work v → is_outdated v ≡ false → effect_by (is_try operation) v ≡ effect_of book operation
told_effect (Whole q) book new work v is kept commits current =
    let same : work.0 ≡ q = cc in
    ap (effect_by (is_try_request q)) (ap (λ o. o.0) (commits_whole book new work v commits current ∙ ap (tried book) same))
told_effect (Login name pw setting) book new work v is kept commits current =
    let same : work.0 ≡ request.Upgrade name pw setting = cc in
    ap (effect_by true) (ap (λ o. o.0) (commits_whole book new work v commits current ∙ ap (tried book) same))
told_effect _ book new work v is kept commits current = absurd cc

-- a commit is counted under the name that the line asks about
pub commit_at : (operation : LineOperation) (book new : MarkedBook) (work : Task) (v : Verdict) (old later : Option Limits) (now : ℕ) → hashed_for operation ≡ Some work.0 → is_reset operation ≡ false → HeedsMarks book new work v → is_outdated v ≡ false
    → HasEffect now old later (name_of work.0) (effect_by (is_try operation) v) → IsCountedAt now old later book operation
commit_at operation book new work v old later now is kept commits current has = of operation is (told_effect operation book new work v is kept commits current) has
  where
    of : (operation : LineOperation) → hashed_for operation ≡ Some work.0 → effect_by (is_try operation) v ≡ effect_of book operation → HasEffect now old later (name_of work.0) (effect_by (is_try operation) v) → IsCountedAt now old later book operation
    of (Whole q) is same has = let name : name_of work.0 ≡ name_of q = ap name_of (let r : work.0 ≡ q = cc in r) in subst (λ e. HasEffect now old later (name_of q) e) same (subst (λ n. HasEffect now old later n (effect_by (is_try (Whole q)) v)) name has)
    of (Login name pw setting) is same has =
        let named : name_of work.0 ≡ name = ap name_of (let r : work.0 ≡ request.Upgrade name pw setting = cc in r) in
        subst (λ e. HasEffect now old later name e) same (subst (λ n. HasEffect now old later n (effect_by (is_try (Login name pw setting)) v)) named has)
    of (Reset name pw setting) is same has =
        let named : name_of work.0 ≡ name = ap name_of (let r : work.0 ≡ request.Enrol name pw setting = cc in r) in
        subst (λ e. HasEffect now old later name e) same (subst (λ n. HasEffect now old later n (effect_by (is_try (Reset name pw setting)) v)) named has)
    of (Quick a) is same has = absurd cc
    of (Forgive name) is same has = absurd cc
    of (Later name seconds) is same has = absurd cc

pub commit_counted : (operation : LineOperation) (book new : MarkedBook) (work : Task) (v : Verdict) (old later : Option Limits) (now : ℕ) → hashed_for operation ≡ Some work.0 → is_reset operation ≡ false → HeedsMarks book new work v → is_outdated v ≡ false
    → HasEffect now old later (name_of work.0) (effect_by (is_try operation) v) → IsCounted old later book operation
commit_counted operation book new work v old later now is kept commits current has = (now, commit_at operation book new work v old later now is kept commits current has)

-- what is hashed for a line sends no try away
pub hash_judged : (operation : LineOperation) (r : Request) → hashed_for operation ≡ Some r → IsNotSentAway operation
hash_judged (Whole q) r is = tt
hash_judged (Login name pw setting) r is = tt
hash_judged (Reset name pw setting) r is = tt
hash_judged (Quick a) r is = tt
hash_judged (Forgive name) r is = tt
hash_judged (Later name seconds) r is = absurd cc

-- a try may be judged where its password is told
pub has_place : (operation : LineOperation) (v : Verdict) (limits : Option Limits) (name : List ℕ) (now : ℕ) → (is_try operation ≡ true → IsOpenTo limits name now) → HasPlace (effect_by (is_try operation) v) limits name now
has_place operation v limits name now opens = by_try (is_try operation) v opens
  where
    first : (r : Reply) → HasPlace (reset_effect r) limits name now
    first reply.Enrolled = tt
    first reply.Replaced = tt
    first _ = tt

    any : (e : Effect) → IsOpenTo limits name now → HasPlace e limits name now
    any effect.Right opens = opens
    any effect.Wrong opens = opens
    any effect.Forgiven opens = tt
    any effect.Nothing opens = tt

    by_try : (b : Bool) (v : Verdict) → (b ≡ true → IsOpenTo limits name now) → HasPlace (effect_by b v) limits name now
    by_try true v opens = any (verdict_effect v) (opens refl)
    by_try false (Told r) opens = first r
    by_try false Expired opens = tt
    by_try false Same opens = tt

pub has_place_at : (operation : LineOperation) (v : Verdict) (old limits : Option Limits) (named name : List ℕ) (e : Effect) (now : ℕ) → limits ≡ old → named ≡ name → e ≡ effect_by (is_try operation) v → (is_try operation ≡ true → IsOpenTo old name now) → HasPlace e limits named now
has_place_at operation v old limits named name e now same is told opens =
    subst (λ l. HasPlace e l named now) (sym same) (subst (λ n. HasPlace e old n now) (sym is) (subst (λ f. HasPlace f old name now) (sym told) (has_place operation v old name now opens)))

-- what is hashed for a line is of the version of today
pub sound_current : (operation : LineOperation) (r : Request) → IsSound operation → hashed_for operation ≡ Some r → is_for_current r ≡ true
sound_current (Whole q) r sound is = let same : q ≡ r = cc in ap is_for_current (sym same) ∙ sound
sound_current (Login name pw setting) r sound is = let same : request.Upgrade name pw setting ≡ r = cc in ap is_for_current (sym same) ∙ sound
sound_current (Reset name pw setting) r sound is = let same : request.Enrol name pw setting ≡ r = cc in ap is_for_current (sym same) ∙ sound
sound_current (Quick a) r sound is = absurd cc
sound_current (Forgive name) r sound is = absurd cc
sound_current (Later name seconds) r sound is = absurd sound

-- and needs memory for its hash
pub hash_needs : (capacity : ℕ) (book : MarkedBook) (operation : LineOperation) (r : Request) → hashed_for operation ≡ Some r → NeedsMemory capacity book operation
hash_needs capacity book (Whole q) r is = tt
hash_needs capacity book (Login name pw setting) r is = tt
hash_needs capacity book (Reset name pw setting) r is = tt
hash_needs capacity book (Quick a) r is = absurd cc
hash_needs capacity book (Forgive name) r is = absurd cc
hash_needs capacity book (Later name seconds) r is = absurd cc

-- ---- a reset

pub reset_at : (operation : LineOperation) (book : MarkedBook) (work : Task) (stored : RecordValue) (found : Reply) (later : MarkedBook) (old new : Option Limits) (now : ℕ) → IsJobOf operation work → is_reset operation ≡ true → Some stored ≡ (whole work.0 work.1).1
    → (found, later) ≡ reset_step book (name_of work.0) stored → HasEffect now old new (name_of work.0) (reset_effect found) → IsCountedAt now old new book operation
reset_at (Reset name pw setting) book work stored found later old new now job reset made put has =
    let same : work.0 ≡ request.Enrol name pw setting = cc (job.0) in
    let named : name_of work.0 ≡ name = ap name_of same in
    let record_is : Some stored ≡ Some (new_record setting pw) = made ∙ ap (λ r. (whole r work.1).1) same ∙ ap (λ copy. (whole (request.Enrol name pw setting) copy).1) (job.1 refl) in
    let stored_is : stored ≡ new_record setting pw = cc in
    let told : found ≡ (reset_step book name (new_record setting pw)).0 = ap (λ o. o.0) (put ∙ ap (λ n. reset_step book n stored) named ∙ ap (reset_step book name) stored_is) in
    subst (λ r. HasEffect now old new name (reset_effect r)) told (subst (λ n. HasEffect now old new n (reset_effect found)) named has)
reset_at _ book work stored found later old new now job reset made put has = absurd cc

pub reset_counted : (operation : LineOperation) (book : MarkedBook) (work : Task) (stored : RecordValue) (found : Reply) (later : MarkedBook) (old new : Option Limits) (now : ℕ) → IsJobOf operation work → is_reset operation ≡ true → Some stored ≡ (whole work.0 work.1).1
    → (found, later) ≡ reset_step book (name_of work.0) stored → HasEffect now old new (name_of work.0) (reset_effect found) → IsCounted old new book operation
reset_counted operation book work stored found later old new now job reset made put has = (now, reset_at operation book work stored found later old new now job reset made put has)
