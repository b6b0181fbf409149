use Rattle.cred_many.specs.Transcript.{written_of}
use Rattle.cred_many.proofs.Transcripts.{front_taken, whole_taken}
use Rattle.cred_many.proofs.output.write_text.Goals as goal

pub returns-clause-done : goal.returns-clause-done
returns-clause-done g c =
    whole_taken c.write_whole.result (written_of g.W.Write.contents c.args.writer.now) (written_of g.W.Write.contents c.write_whole.new.writer) c.args.text.now
    c.write_whole.ensures.named c.write_whole.ensures.taken c.write_whole.ensures.done

pub returns-clause-front : goal.returns-clause-front
returns-clause-front g c =
    front_taken c.write_whole.result (written_of g.W.Write.contents c.args.writer.now) (written_of g.W.Write.contents c.write_whole.new.writer) c.args.text.now _
    c.write_whole.ensures.named c.write_whole.ensures.takes c.write_whole.ensures.taken_in_part
