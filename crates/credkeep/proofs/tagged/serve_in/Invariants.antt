use Rattle.cred_admin.specs.Marked.{kept_book}
use Rattle.cred_many.specs.{Service.service, Transcript.written_of}
use Rattle.credkeep.proofs.tagged.serve_in.Given as goal

-- the service that begins here
abbrev pub ghosts-serve_named : goal.ghosts-serve_named
ghosts-serve_named g a = record {
  service = service (kept_book a.book) (g.R.Read.remaining a.reader) (written_of g.W.Write.contents a.writer) a.config.now (g.G.Rng.stream a.salts);
}
