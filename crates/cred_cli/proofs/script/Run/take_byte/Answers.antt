use Rattle.std.proofs.{Common.◌≡◌, Common.arith, Common.append_assoc, Common.sym, Common.ap, Common.◌∙◌, Common.length, Common.◌∷◌, Common.◌++◌, Common.[], Common.suc, Common.Some, Common.slice_get, lemmas.List.length-append, lemmas.Result.err_from_is_err_and}
use Rattle.cred_cli.specs.{Events.most_kept, Outcome.longest_script, Script.events_of, Script.line_ends}
use Rattle.cred_cli.proofs.{Feeds.ended_event, Feeds.take-kept, Feeds.take_front, Lines.line_ends-end, Lines.line_ends-more, Lines.unfinished_from-end, Lines.unfinished_from-more}
use Rattle.cred_cli.proofs.script.Run.take_byte.Goals as goal

-- a byte too many
pub returns-then-self-ge-LONGEST_SCRIPT-clause-fed : goal.returns-then-self-ge-LONGEST_SCRIPT-clause-fed
returns-then-self-ge-LONGEST_SCRIPT-clause-fed g c = λ basis script front rest at_seam at.
    let cut = at_seam ∙ append_assoc front (c.args.byte ∷ []) rest in
    let size : length front ≡ longest_script = omega (arith, at.taken_is, c.args.self.now.progress.not_too_long) in
    record {
      ended = λ left. (
        omega (arith, size, ap length cut, length-append front (c.args.byte ∷ rest)),
        rw (take_front script.bytes front (c.args.byte ∷ rest) longest_script cut size) at.place.stands,
      );
    }

-- a byte of a line
pub returns-then-byte-ne10-clause-fed : goal.returns-then-byte-ne10-clause-fed
returns-then-byte-ne10-clause-fed g c = λ basis script front rest cut at. record {
  ended = record {
    place = rw (line_ends-more front c.args.byte c.if-byte-ne10.true) at.place;
    lines_are = at.lines_are ∙ sym (line_ends-more front c.args.byte c.if-byte-ne10.true);
    start_is = c.push.ensures ∙ rw (at.start_is, unfinished_from-more [] front c.args.byte c.if-byte-ne10.true) (take-kept most_kept _ c.args.byte);
    taken_is = omega (arith, at.taken_is, length-append front (c.args.byte ∷ []));
  };
}

-- a line end
pub returns-clause-fed : goal.returns-clause-fed
returns-clause-fed g c = λ basis script front rest at_seam at.
    let here = rw c.if-byte-ne10.false at (at_seam ∙ append_assoc front (c.args.byte ∷ []) rest) in
    let event : slice_get (events_of script.bytes) (line_ends front) ≡ Some c.of_line-event.result = rw (c.of_line-event.ensures.event, c.bytes.ensures, at.start_is) (ended_event script.bytes front rest here) in
    let ends : line_ends (front ++ c.args.byte ∷ []) ≡ suc (line_ends front) = rw c.if-byte-ne10.false (line_ends-end front) in
    let done = c.in_ok-answer_line.ensures.answered basis c.args.self.now.progress script (line_ends front) at.place event in
    record {
      ended = record {
        place = rw ends done.ended;
        lines_are = omega (arith, ends, at.lines_are);
        start_is = rw (c.if-byte-ne10.false, unfinished_from-end [] front) c.clear.ensures;
        taken_is = omega (arith, at.taken_is, length-append front (c.args.byte ∷ []));
      };
    }

-- a fault at a line end
pub returns-in_err-answer_line-clause-fed : goal.returns-in_err-answer_line-clause-fed
returns-in_err-answer_line-clause-fed g c = λ basis script front rest at_seam at.
    let here = rw c.if-byte-ne10.false at (at_seam ∙ append_assoc front (c.args.byte ∷ []) rest) in
    let event : slice_get (events_of script.bytes) (line_ends front) ≡ Some c.of_line-event.result = rw (c.of_line-event.ensures.event, c.bytes.ensures, at.start_is) (ended_event script.bytes front rest here) in
    let told = err_from_is_err_and c.from_residual.result c.from_residual.ensures.1 in
    let done = c.in_err-answer_line.ensures.answered basis c.args.self.now.progress script (line_ends front) at.place event in
    record { ended = rw (told.1, told.2) done.ended }
