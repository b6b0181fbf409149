use Rattle.std.proofs.{Common.◌+◌, Common.◌∙◌, Common.refl, Common.◌++◌, Common.[], Common.◌∷◌, Common.ap, Common.arith, Common.drop, Common.get_or, Common.length, lemmas.List.drop_all, lemmas.List.drop_more}
use Rattle.cred_cli.specs.Script.{line_ends}
use Rattle.cred_cli.proofs.Lines.{line_ends-append}
use Rattle.cred_many.proofs.Lines.{line_ends-short}
use Rattle.cred_many.proofs.scribe.reading.take_bytes.Goals as goal

pub loop-byte-init : goal.loop-byte-init
loop-byte-init g c = record {
  next = c.requires.before;
  on = λ final moves. moves;
  number = c.requires.number;
  handed = omega arith;
  channel = refl;
  few = omega arith;
}

pub take_byte-requires-clause-before : goal.take_byte-requires-clause-before
take_byte-requires-clause-before g c = λ all known.
    let (rest, at) = (rw (drop_more c.args.bytes.now c.loop-byte.byte-index 0 (omega arith)) at c.loop-byte.invariant.next) all known in
    (drop (c.loop-byte.byte-index + 1) c.args.bytes.now ++ rest, at)

pub take_byte-requires-clause-few : goal.take_byte-requires-clause-few
take_byte-requires-clause-few g c =
    let long = ap length (drop_more c.args.bytes.now c.loop-byte.byte-index 0 (omega arith)) in omega (arith, long, c.loop-byte.invariant.few, c.requires.few)

pub loop-byte-preserved : goal.loop-byte-preserved
loop-byte-preserved g c =
    let byte = get_or c.args.bytes.now c.loop-byte.byte-index 0 in
    let others = drop (c.loop-byte.byte-index + 1) c.args.bytes.now in
    let cut = drop_more c.args.bytes.now c.loop-byte.byte-index 0 (omega arith) in
    let ends = ap line_ends cut in
    let apart = line_ends-append (byte ∷ []) others in
    let one = line_ends-short (byte ∷ []) in
    let long = ap length cut in
    record {
      next = λ all known. let (rest, at) = (rw cut at c.loop-byte.invariant.next) all known in (rest, c.in_ok-take_byte.ensures.on all (others ++ rest) known at);
      on = λ final moves. c.loop-byte.invariant.on final (rw cut (λ all rest known at. moves all rest known (c.in_ok-take_byte.ensures.on all (others ++ rest) known at)));
      number = c.in_ok-take_byte.ensures.number;
      handed = omega (arith, ends, apart, c.loop-byte.invariant.handed, c.in_ok-take_byte.ensures.handed);
      channel = c.in_ok-take_byte.ensures.channel ∙ c.loop-byte.invariant.channel;
      few = omega (arith, long, one, c.loop-byte.invariant.few, c.in_ok-take_byte.ensures.handed);
    }

pub returns-clause-on : goal.returns-clause-on
returns-clause-on g c = c.loop-byte.invariant.on _ (rw (drop_all c.loop-byte.byte-index c.args.bytes.now (omega arith)) (λ all rest known at. at))

pub returns-clause-handed : goal.returns-clause-handed
returns-clause-handed g c = let none = ap line_ends (drop_all c.loop-byte.byte-index c.args.bytes.now (omega arith)) in omega (arith, none, c.loop-byte.invariant.handed)
