use Rattle.std.proofs.Common.{rules, [], arith, refl, sym, ◌∙◌}
use Rattle.cred_cli.proofs.Readings.{came, came_to_end}
use Rattle.cred_many.specs.Reading.{place}
use Rattle.cred_many.proofs.Lines.{counted, many_lines}
use Rattle.cred_many.proofs.scribe.reading.read_lines.Goals as goal

pub loop-call-init : goal.loop-call-init
loop-call-init g c = record {
  at = λ all known. (all, c.requires.input ∙ known, record { front = []; cut = refl; start_is = c.requires.start; number_is = c.requires.number });
  handed = c.requires.handed ∙ sym c.requires.given;
  number = c.requires.number ∙ sym c.requires.handed;
  going = c.requires.going;
  channel = refl;
  size = search rules;
}

pub new-requires : goal.new-requires
new-requires g c =
    many_lines _ (place c.loop-call.decoder.start c.loop-call.decoder.number) _ (λ all known. let (rest, left, at) = c.loop-call.invariant.at all known in (rest, at))
    (omega (arith, c.if-lines-ge-MOST_LINES.true, c.handed.ensures, c.lines.ensures, c.loop-call.invariant.number))

pub read_last-requires-clause-end : goal.read_last-requires-clause-end
read_last-requires-clause-end g c = λ all known.
    let (rest, left, at) = c.loop-call.invariant.at all known in
    let none = came_to_end _ _ rest _ _ c.in-Ok-eq0.field-0-test left c.in-Ok-eq0.ensures.bytes.0 (c.in-Ok-eq0.ensures.bytes.1 c.in-Ok-eq0.field-0-test (omega (arith, c.loop-call.invariant.size))) in
    rw none at at

pub take_bytes-requires-clause-before : goal.take_bytes-requires-clause-before
take_bytes-requires-clause-before g c = λ all known.
    let (rest, left, at) = c.loop-call.invariant.at all known in
    let more = came _ _ rest _ left c.in-Ok.ensures.bytes.0 in
    (more.left, rw more.cut at at)

pub loop-call-preserved : goal.loop-call-preserved
loop-call-preserved g c = record {
  at = λ all known.
      let (rest, left, at) = c.loop-call.invariant.at all known in
      let more = came _ _ rest _ left c.in-Ok.ensures.bytes.0 in
      (more.left, more.now_is, c.in-Ok-take_bytes.ensures.on all more.left known (rw more.cut at at));
  handed = counted _ _ _ _ _ c.loop-call.invariant.handed c.in-Ok-take_bytes.ensures.handed c.in-Ok.ensures.given;
  number = c.in-Ok-take_bytes.ensures.number;
  going = (c.in-Ok.ensures.ended ∙ (search rules), c.in-Ok.ensures.failed);
  channel = c.in-Ok-take_bytes.ensures.channel ∙ c.loop-call.invariant.channel;
  size = omega (arith, c.loop-call.invariant.size, c.read.auto.buf);
}
