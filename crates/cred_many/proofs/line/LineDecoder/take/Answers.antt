use Rattle.std.proofs.Common.{refl}
use Rattle.cred_many.specs.Reading.{place}
use Rattle.cred_many.proofs.Lines.{byte_taken, end_taken, line_came}
use Rattle.cred_many.proofs.line.LineDecoder.take.Goals as goal

pub returns-then-byte-ne10-clause-on : goal.returns-then-byte-ne10-clause-on
returns-then-byte-ne10-clause-on g c =
    byte_taken _ (place c.args.self.now.start c.args.self.now.number) (place c.push.new.self c.args.self.now.number) c.args.byte c.if-byte-ne10.true c.push.ensures refl

pub end_line-requires-clause-whole : goal.end_line-requires-clause-whole
end_line-requires-clause-whole g c = line_came _ (place c.args.self.now.start c.args.self.now.number) (rw c.if-byte-ne10.false at c.requires.next)

pub returns-clause-on : goal.returns-clause-on
returns-clause-on g c =
    rw c.if-byte-ne10.false (end_taken _ (place c.args.self.now.start c.args.self.now.number) (place c.end_line.new.self.start c.end_line.new.self.number) c.end_line.ensures.start c.end_line.ensures.number)
