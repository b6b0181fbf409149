-- The answers that the limiter counts, if there is a limit.
use Rattle.std.proofs.Common.{◌≡◌, ◌⊎◌, inl, inr, ℕ, Bool, true, false, if◌then◌else◌, List, [], ◌∷◌, ◌++◌, Option, Some, None, Result, Ok, Err, OnOk, OnErr, is_err, IfSome, option_map, refl, sym, ap, ◌∙◌, subst}
use Rattle.cred_book.specs.declared.request.Reply.{Reply}
use Rattle.cred_tries.specs.Answers.{HasCounted, IsIdle, IsReadBy, IsSettled, KeepLimit, clock_of, with_told}
use Rattle.cred_tries.specs.Clocks.{after_reading}
use Rattle.cred_tries.specs.Histories.{Event, Sent}
use Rattle.cred_tries.specs.Limits.{IsFree, IsLimit, Limits, after_try, forgive_outcome, new_limits, sending}
use Rattle.cred_tries.specs.Steps.{is_name_of}
use Rattle.cred_tries.specs.declared.turn.Ending.TheVariants as ending
use Rattle.cred_tries.proofs.Answered.{after_forgiving, after_nothing, after_right, after_sending, after_wrong, forgiven_clock_is, free, forgiven_is, idle_forgiven, idle_new, idle_seen, idle_tried, keep_limit, none_counted, open_unless, right_is, sent_same, sent_seen, settled_by, tried_clock_is}
use Rattle.cred_many.specs.declared.tries.Effect.{Effect}
use Rattle.cred_many.specs.declared.tries.Effect.TheVariants as effect
use Rattle.cred_many.specs.Scribe.{AreIdle, HasEffect, HasPlace, IsOpenTo, IsSentAway, KeepsCount, is_clear, limits_with, passed_of}
use Rattle.cred_many.specs.{Served.name_asked, Tries.event_of, Tries.is_try, Tries.reset_effect, declared.line_operation.LineOperation.LineOperation}

-- ---- what an answer leaves

module _ (times : List ℕ) (told : List ℕ → List Event) (name : List ℕ) (now : ℕ) where
  counted_effect : (limit : ℕ) (e : Effect) (l : Limits) → HasCounted limit l times told → HasPlace e (Some l) name now
      → HasCounted limit (limits_with e l name now) (times ++ (limits_with e l name now).clock.passed ∷ []) (λ q. with_told (if is_name_of q name then event_of e (limits_with e l name now).clock.passed else None) (told q))
  counted_effect limit effect.Right l c place = after_right limit l times told name now c place
  counted_effect limit effect.Wrong l c place = after_wrong limit l times told name now c place
  counted_effect limit effect.Forgiven l c place = after_forgiving limit l times told name now c
  counted_effect limit effect.Nothing l c place = after_nothing limit l times told name now c

  -- with a limit or without
  pub keeps_effect : (t : Option ℕ) (old new : Option Limits) (e : Effect) → KeepsCount t old times told → HasEffect now old new name e
      → KeepsCount t new (times ++ passed_of new ∷ []) (λ q. with_told (if is_name_of q name then event_of e (passed_of new) else None) (told q))
  keeps_effect None None new e k is = subst (λ m. KeepsCount None m (times ++ passed_of m ∷ []) (λ q. with_told (if is_name_of q name then event_of e (passed_of m) else None) (told q))) (sym is) tt
  keeps_effect (Some limit) (Some l) new e k (place, is) = subst (λ m. KeepsCount (Some limit) m (times ++ passed_of m ∷ []) (λ q. with_told (if is_name_of q name then event_of e (passed_of m) else None) (told q))) (sym is) (counted_effect limit e l k place)
  keeps_effect None (Some l) new e k is = absurd k
  keeps_effect (Some limit) None new e k is = absurd k

  pub keeps_away : (t : Option ℕ) (old new : Option Limits) (seconds : ℕ) → KeepsCount t old times told → IsSentAway now old new name seconds
      → KeepsCount t new (times ++ passed_of new ∷ []) (λ q. with_told (if is_name_of q name then Some (Sent (passed_of new) seconds) else None) (told q))
  keeps_away None None new seconds k is = absurd is
  keeps_away (Some limit) (Some l) new seconds k (sent, is) = subst (λ m. KeepsCount (Some limit) m (times ++ passed_of m ∷ []) (λ q. with_told (if is_name_of q name then Some (Sent (passed_of m) seconds) else None) (told q))) (sym is) (after_sending limit l times told name now k seconds sent)
  keeps_away None (Some l) new seconds k is = absurd k
  keeps_away (Some limit) None new seconds k is = absurd k

-- ---- the limit is kept

pub limit_kept : (tries : Option ℕ) (limits : Option Limits) (times : List ℕ) (told : List ℕ → List Event) → KeepsCount tries limits times told
    → IfSome tries (λ limit. KeepLimit limit (passed_of limits) times told)
limit_kept None limits times told k = tt
limit_kept (Some limit) (Some l) times told k = keep_limit limit l times told k
limit_kept (Some limit) None times told k = absurd k

-- before the first answer
pub counted_none : (limit : Option ℕ) → IfSome limit IsLimit → (told : List ℕ → List Event) → ((name : List ℕ) → told name ≡ []) → KeepsCount limit (option_map new_limits limit) [] told
counted_none None is told none = tt
counted_none (Some limit) is told none = none_counted limit is told none

pub settled : (tries : Option ℕ) (limits : Option Limits) (times : List ℕ) (told : List ℕ → List Event) → KeepsCount tries limits times told → IfSome limits IsSettled
settled None None times told k = tt
settled (Some limit) (Some l) times told k = settled_by limit l times told k
settled None (Some l) times told k = absurd k
settled (Some limit) None times told k = absurd k

-- ---- where nothing is counted

still_at : (l : Limits) (name : List ℕ) → IsSettled l → is_clear (Some l) name ≡ true → (e : Effect) → (e ≡ effect.Wrong → ⊥) → HasEffect l.clock.reading (Some l) (Some l) name e
still_at l name settled clear effect.Right other = (free l name settled clear l.clock.reading, ap Some (sym (right_is l name settled clear)))
still_at l name settled clear effect.Wrong other = absurd (other refl)
still_at l name settled clear effect.Forgiven other = (tt, ap Some (sym (forgiven_is l name settled clear)))
still_at l name settled clear effect.Nothing other = (tt, refl)

pub still_clear : (limits : Option Limits) (name : List ℕ) → IfSome limits IsSettled → is_clear limits name ≡ true → (e : Effect) → (e ≡ effect.Wrong → ⊥) → (now : ℕ) × HasEffect now limits limits name e
still_clear None name settled clear e other = (0, refl)
still_clear (Some l) name settled clear e other = (l.clock.reading, still_at l name settled clear e other)

-- ---- no try runs

pub idle_none : AreIdle None
idle_none = tt

pub open_to : (l : Limits) (name : List ℕ) (now : ℕ) → IsIdle l → (sending l name now).0 ≡ None → IsFree l name now
open_to l name now idle is = open_unless l name now idle is

-- ---- the clock

read_with : (e : Effect) (l : Limits) (name : List ℕ) (now : ℕ) → ((limits_with e l name now).clock ≡ l.clock) ⊎ ((limits_with e l name now).clock ≡ after_reading l.clock now)
read_with effect.Right l name now = inr (tried_clock_is l name now ending.Right)
read_with effect.Wrong l name now = inr (tried_clock_is l name now ending.Wrong)
read_with effect.Forgiven l name now = inl (forgiven_clock_is l name)
read_with effect.Nothing l name now = inl refl

pub read_by_effect : (now : ℕ) (old new : Option Limits) (name : List ℕ) (e : Effect) → HasEffect now old new name e → IsReadBy now old new
read_by_effect now None new name e is = inl (ap clock_of is)
read_by_effect now (Some l) new name e (place, is) = subst (IsReadBy now (Some l)) (sym is) (read_with e l name now)

pub read_by_sending : (now : ℕ) (old new : Option Limits) (name : List ℕ) (seconds : ℕ) → IsSentAway now old new name seconds → IsReadBy now old new
read_by_sending now None new name seconds is = absurd is
read_by_sending now (Some l) new name seconds (sent, is) = subst (IsReadBy now (Some l)) (sym is) (inr refl)

-- ---- what a call says that may send a try away

module _ (now : ℕ) (l new : Limits) (name : List ℕ) (operation : LineOperation) (r : Option ℕ) (idle : IsIdle l) (named : name ≡ name_asked operation) (is : (r, new) ≡ sending l name now) where
  told : (o : Option ℕ) → r ≡ o → (sending l name now).0 ≡ o
  told o result = ap (λ o. o.0) (sym is) ∙ result

  after_is : new ≡ (sending l name now).1
  after_is = ap (λ o. o.1) is

  pub sends_early : (seconds : ℕ) → r ≡ Some seconds → IsSentAway now (Some l) (Some new) (name_asked operation) seconds
  sends_early seconds result = subst (λ n. IsSentAway now (Some l) (Some new) n seconds) named (told (Some seconds) result, ap Some (after_is ∙ sent_seen l name now seconds (told (Some seconds) result)))

  pub sends_none : r ≡ None → ◌≡◌ {A = Option Limits} (Some new) (Some l)
  sends_none result = ap Some (after_is ∙ sent_same l name now (told None result))

  pub sends_open : r ≡ None → IsOpenTo (Some l) (name_asked operation) now
  sends_open result = subst (λ n. IsFree l n now) named (open_unless l name now idle (told None result))

pub sends_idle : (now : ℕ) (l new : Limits) (name : List ℕ) (r : Option ℕ) → IsIdle l → (r, new) ≡ sending l name now → IsIdle new
sends_idle now l new name (Some seconds) idle is = subst IsIdle (sym (ap (λ o. o.1) is ∙ sent_seen l name now seconds (ap (λ o. o.0) (sym is)))) (idle_seen l name now idle)
sends_idle now l new name None idle is = subst IsIdle (sym (ap (λ o. o.1) is ∙ sent_same l name now (ap (λ o. o.0) (sym is)))) idle

-- ---- no try runs, once a call is done

pub idle_of : (o : Option Limits) (l : Limits) → AreIdle o → o ≡ Some l → IsIdle l
idle_of o l idle is = subst AreIdle is idle

pub new_idle : (limit : ℕ) (new : Limits) → new ≡ new_limits limit → IsIdle new
new_idle limit new is = subst IsIdle (sym is) (idle_new limit)

pub right_idle : (l new : Limits) (name : List ℕ) (now : ℕ) → new ≡ after_try l name now ending.Right → IsFree l name now → IsIdle l → IsIdle new
right_idle l new name now is place idle = subst IsIdle (sym is) (idle_tried l name now ending.Right place idle)

pub wrong_idle : {A E : Type 0} (r : Result A E) (l new : Limits) (name : List ℕ) (now : ℕ) → OnOk r (new ≡ after_try l name now ending.Wrong) → OnErr r (new ≡ l) → IsFree l name now → IsIdle l → IsIdle new
wrong_idle (Ok x) l new name now is other place idle = subst IsIdle (sym is) (idle_tried l name now ending.Wrong place idle)
wrong_idle (Err x) l new name now other is place idle = subst IsIdle (sym is) idle

pub forgives_idle : (l new : Limits) (name : List ℕ) (b : Bool) → (b, new) ≡ forgive_outcome l name → IsIdle l → IsIdle new
forgives_idle l new name b is idle = subst IsIdle (sym (ap (λ o. o.1) is)) (idle_forgiven l name idle)

-- ---- what a call says of an answer

pub effect_held : (now : ℕ) (first old new : Option Limits) (n name : List ℕ) (e said : Effect) → HasEffect now old new n e → old ≡ first → n ≡ name → e ≡ said → HasEffect now first new name said
effect_held now first old new n name e said has same named is =
    subst (λ f. HasEffect now f new name said) same (subst (λ m. HasEffect now old new m said) named (subst (λ q. HasEffect now old new n q) is has))

pub nothing_held : (now : ℕ) (limits : Option Limits) (name : List ℕ) → HasEffect now limits limits name effect.Nothing
nothing_held now None name = refl
nothing_held now (Some l) name = (tt, refl)

pub asked_as : (now : ℕ) (old new : Option Limits) (a b : LineOperation) (seconds : ℕ) → a ≡ b → (is_try a ≡ true) × IsSentAway now old new (name_asked a) seconds → (is_try b ≡ true) × IsSentAway now old new (name_asked b) seconds
asked_as now old new a b seconds same sent = subst (λ operation. (is_try operation ≡ true) × IsSentAway now old new (name_asked operation) seconds) same sent

pub counted_ok : {A E : Type 0} (r : Result A E) (P : Type 0) → OnOk r P → is_err r ≡ false → P
counted_ok (Ok x) P has is = has
counted_ok (Err e) P has is = absurd cc

pub opens_as : (limits : Option Limits) (now : ℕ) (a b : LineOperation) → a ≡ b → (is_try a ≡ true → IsOpenTo limits (name_asked a) now) → is_try b ≡ true → IsOpenTo limits (name_asked b) now
opens_as limits now a b same opens = subst (λ operation. is_try operation ≡ true → IsOpenTo limits (name_asked operation) now) same opens

pub reset_none : (limits : Option Limits) (name : List ℕ) (reply : Reply) (b : Bool) → reset_effect reply ≡ (if b then effect.Forgiven else effect.Nothing) → b ≡ false → (now : ℕ) → HasEffect now limits limits name (reset_effect reply)
reset_none limits name reply true told is now = absurd cc
reset_none limits name reply false told is now = subst (HasEffect now limits limits name) (sym told) (nothing_held now limits name)

pub reset_some : (old new : Option Limits) (name : List ℕ) (reply : Reply) (b : Bool) → reset_effect reply ≡ (if b then effect.Forgiven else effect.Nothing) → b ≡ true → ((now : ℕ) → HasEffect now old new name effect.Forgiven)
    → (now : ℕ) → HasEffect now old new name (reset_effect reply)
reset_some old new name reply true told is has now = subst (HasEffect now old new name) (sym told) (has now)
reset_some old new name reply false told is has now = absurd cc
