-- What answers tell of the passwords that are tried.
use Rattle.std.specs.Prelude.{ℕ, Bool, true, false, Option, Some, None}
use Rattle.cred_book.specs.{declared.request.Reply.Reply, declared.request.Request.Request}
use Rattle.cred_book.specs.declared.request.Request.TheVariants.{Enrol}
use Rattle.cred_book.specs.declared.request.Reply.TheVariants as reply
use Rattle.cred_admin.specs.declared.verdict.Verdict.{Verdict}
use Rattle.cred_admin.specs.declared.verdict.Verdict.TheVariants.{Told, Expired, Same}
use Rattle.cred_tries.specs.Histories.{Event, Right, Wrong, Forgiven}
use Rattle.cred_many.specs.{declared.line_operation.LineOperation.LineOperation, declared.tries.Effect.Effect}
use Rattle.cred_many.specs.declared.line_operation.LineOperation.TheVariants.{Whole, Login}
use Rattle.cred_many.specs.declared.tries.Effect.TheVariants as effect

-- ---- which lines are tries

abbrev pub is_try_request : Request → Bool
is_try_request (Enrol name pw setting) = false
is_try_request _ = true

-- a password is tried
abbrev pub is_try : LineOperation → Bool
is_try (Whole r) = is_try_request r
is_try (Login name pw setting) = true
is_try _ = false

-- ---- what an answer tells

-- `no` and `wrong` are failures. An account without a record has no password to guess.
abbrev pub reply_effect : Reply → Effect
reply_effect reply.No = effect.Wrong
reply_effect reply.Wrong = effect.Wrong
reply_effect reply.Yes = effect.Right
reply_effect reply.Kept = effect.Right
reply_effect reply.Upgraded = effect.Right
reply_effect reply.Replaced = effect.Right
reply_effect reply.Removed = effect.Right
reply_effect _ = effect.Nothing

abbrev pub verdict_effect : Verdict → Effect
verdict_effect (Told r) = reply_effect r
verdict_effect Expired = effect.Right
verdict_effect Same = effect.Right

-- a new password without the present one forgives the failures
abbrev pub reset_effect : Reply → Effect
reset_effect reply.Enrolled = effect.Forgiven
reset_effect reply.Replaced = effect.Forgiven
reset_effect _ = effect.Nothing

-- an administrator forgives them too, if the book has the account
abbrev pub forgiving_effect : Bool → Effect
forgiving_effect true = effect.Forgiven
forgiving_effect false = effect.Nothing

abbrev pub first_effect : Verdict → Effect
first_effect (Told r) = reset_effect r
first_effect _ = effect.Nothing

-- the effect of an operation that tries a password, or that sets a first one
abbrev pub effect_by : Bool → Verdict → Effect
effect_by true v = verdict_effect v
effect_by false v = first_effect v

-- the event of an effect at a moment
abbrev pub event_of : Effect → ℕ → Option Event
event_of effect.Right t = Some (Right t)
event_of effect.Wrong t = Some (Wrong t)
event_of effect.Forgiven t = Some (Forgiven t)
event_of effect.Nothing t = None
