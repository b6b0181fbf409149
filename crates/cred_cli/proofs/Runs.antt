-- A line that was done or met a fault, and bytes that the run took in turn.
use Rattle.std.proofs.{Common.◌≡◌, Common.ℕ, Common.suc, Common.◌<◌, Common.List, Common.[], Common.◌∷◌, Common.◌++◌, Common.length, Common.take, Common.drop, Common.get_or, Common.Some, Common.Bool, Common.Result, Common.Ok, Common.Err, Common.OnOk, Common.IfErr, Common.MatchResult, Common.sym, Common.ap, Common.subst, Common.◌∙◌, Common.append_assoc, Common.append-nil, Common.slice_get, KnownBytes.Appends-trans, lemmas.Option.slice_get_within}
use Rattle.std.specs.Io.KnownBytes.{Appends}
use Rattle.cred_cli.specs.{declared.event.Event.Event, declared.fault.ScriptFault.ScriptFault, Feeding.Breaks, Feeding.GoesOn, Feeding.IsAt, Feeding.IsAtLine, Feeding.Standing, Feeding.Takes}
use Rattle.cred_cli.specs.{declared.answer.AnswerLine.AnswerLine, Answers.IsDone, Answers.line_bytes, Events.IsSound, History.answer_at, Script.ScriptStart, Script.answers_before, Script.events_of, Steps.WriteFails, Steps.step, Texts.line_of}
use Rattle.cred_cli.proofs.{Feeds.cut_at, Simulation.IsStep, Simulation.stepped_at}

module _ (capacity : ℕ) (script : ScriptStart) (i : ℕ) (event : Event) (sound : IsSound event) (here : slice_get (events_of script.bytes) i ≡ Some event) (old : Standing) (at : IsAtLine capacity script i old) where
  next : IsStep capacity script.book (events_of script.bytes) i (step capacity old.accounts old.slots event)
  next = stepped_at capacity script.book (events_of script.bytes) i old.slots at.tickets event sound here old.accounts at.stands.accounts_are

  answer : line_of (step capacity old.accounts old.slots event).answer ≡ line_of (answer_at capacity script.book (events_of script.bytes) i)
  answer = ap line_of next.answer

  -- the answer was written, or a proper front of it was
  pub line_ended : (new : Standing) (line : AnswerLine) (failed : Bool) (r : Result (Unit {0}) ScriptFault) → IsDone (step capacity old.accounts old.slots event) new.accounts new.slots line →
      OnOk r (Appends old.written new.written (line_bytes line)) → IfErr r (WriteFails old.written new.written (line_bytes line) failed) →
      GoesOn capacity script (λ _. IsAtLine capacity script (suc i) new) new r
  unfolding answers_before
  line_ended new line failed (Ok x) done written fails = record {
    ended = record {
      stands = record {
        written = rw (← answer, ← done.0) (Appends-trans _ _ _ _ _ at.stands.written written);
        accounts_are = done.1 ∙ next.book_is;
      };
      tickets = rw done.2 next.tickets;
    };
  }
  line_ended new line failed (Err e) done written (is_write, has_failed, (n, short, front)) = rw is_write (record {
    ended = λ left. (
      i,
      slice_get_within (events_of script.bytes) i event here,
      record {
        written = rw (← answer, ← done.0) (n, short, Appends-trans _ _ _ _ _ at.stands.written front);
        accounts_are = done.1 ∙ next.book_is;
      },
    );
  })

-- ---- the script goes on

pub takes_none : (capacity : ℕ) (s : Standing) → Takes capacity [] s s (Ok tt)
takes_none capacity s script front rest cut at = record { ended = rw append-nil at }

-- some bytes, and then others
pub takes_then : (capacity : ℕ) (xs ys : List ℕ) (a b d : Standing) (r : Result (Unit {0}) ScriptFault) → Takes capacity xs a b (Ok tt) → Takes capacity ys b d r → Takes capacity (xs ++ ys) a d r
takes_then capacity xs ys a b d r first then_ script front rest cut at =
    let one = first script front (ys ++ rest) (cut ∙ simp append_assoc) at in
    let two = then_ script (front ++ xs) rest (cut ∙ simp append_assoc) one.ended in
    record { ended = subst (λ zs. MatchResult r (λ _. IsAt capacity script zs d) (Breaks capacity script d)) (append_assoc front xs ys) two.ended }

-- a fault behind the first of them
pub takes_in_part : (capacity : ℕ) (bytes : List ℕ) (i : ℕ) (a b d : Standing) (e : ScriptFault) → i < length bytes → Takes capacity (take i bytes) a b (Ok tt) → Takes capacity (get_or bytes i 0 ∷ []) b d (Err e) → Takes capacity bytes a d (Err e)
takes_in_part capacity bytes i a b d e within first then_ script front rest cut at =
    let seam : script.bytes ≡ (front ++ (take i bytes ++ get_or bytes i 0 ∷ [])) ++ (drop (suc i) bytes ++ rest) = cut ∙ ap (λ xs. (front ++ xs) ++ rest) (sym (cut_at bytes i within)) ∙ simp append_assoc in
    record { ended = (takes_then capacity (take i bytes) (get_or bytes i 0 ∷ []) a b d (Err e) first then_ script front (drop (suc i) bytes ++ rest) seam at).ended }
