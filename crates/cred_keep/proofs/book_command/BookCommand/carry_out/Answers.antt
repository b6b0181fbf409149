use Rattle.std.proofs.Common.{◌∙◌, ap, inl, refl}
use Rattle.cred_cli.specs.Watched.{Contract, transcript_reading, transcript_writing}
use Rattle.cred_admin.specs.{Marked.kept_book, Seen.seen}
use Rattle.cred_keep.specs.BookCommands.{Performs, status_of_end, unless_lost}
use Rattle.cred_keep.proofs.OnBasis.{on_transcript}
use Rattle.cred_keep.proofs.book_command.BookCommand.carry_out.Goals as goal

pub returns-in-Ok-clause-done : goal.returns-in-Ok-clause-done
returns-in-Ok-clause-done g c =
    let it = c.perform-ended in
    inl (record {
      opened = c.in-Ok.book;
      found = c.in-Ok.ensures.found;
      kept = it.new.book;
      ended = unless_lost it.new.book.lost it.result;
      leaves = record { ends = (it.result, it.ensures.done Contract tt, refl); keeps = rw c.close.ensures.same at c.close.ensures.kept };
      closed = c.close.ensures.same;
      told = c.tell_end-status.ensures ∙ ap (λ l. status_of_end (unless_lost l it.result)) c.lost.ensures;
    })

pub returns-in-Ok-clause-transcript : goal.returns-in-Ok-clause-transcript
returns-in-Ok-clause-transcript g c = λ rest may.
    let it = c.perform-ended in
    let performs : Performs c.args.self.now (seen (transcript_reading rest it.new.reader) (transcript_writing c.args.writer.now it.new.writer) (kept_book c.in-Ok.book) (kept_book it.new.book)) it.result =
    on_transcript g.R.Read.remaining g.W.Write.contents c.args.reader.now it.new.reader c.args.writer.now it.new.writer c.requires.new_reader.given
    (λ r w. Performs c.args.self.now (seen r w (kept_book c.in-Ok.book) (kept_book it.new.book)) it.result) c.requires.new_reader.ended it.ensures.done rest may in
    inl (record {
      opened = c.in-Ok.book;
      found = c.in-Ok.ensures.found;
      kept = it.new.book;
      ended = unless_lost it.new.book.lost it.result;
      leaves = record { ends = (it.result, performs, refl); keeps = rw c.close.ensures.same at c.close.ensures.kept };
      closed = c.close.ensures.same;
      told = c.tell_end-status.ensures ∙ ap (λ l. status_of_end (unless_lost l it.result)) c.lost.ensures;
    })
