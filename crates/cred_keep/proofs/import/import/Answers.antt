use Rattle.std.proofs.{Common.ap, Common.refl, Common.rules, Common.subst, Common.sym, Common.◌+◌, Common.◌≤◌, Common.◌∙◌, lemmas.Result.err_from_is_err_and}
use Rattle.std.specs.FinMap as map
use Rattle.cred_book.specs.Accounts.{register_capacity}
use Rattle.cred_admin.specs.{Import.Tally, Import.tally, Marked.kept_book}
use Rattle.cred_cli.specs.Watched.{reading_on}
use Rattle.cred_file.specs.Cells.{mark_at}
use Rattle.cred_keep.specs.Imports.{book_after}
use Rattle.cred_keep.proofs.{NoneBad.none_bad, NotTaken.not_taken}
use Rattle.cred_keep.proofs.import.import.Goals as goal
use Rattle.cred_keep.proofs.import.import.Goals.{in-Refused+else-not-is_empty, in-LeftOut-1}

pub returns : goal.returns
returns g c = λ basis fits.
    let found = c.in_ok-accounts.ensures.done basis fits in
    let same = found.2 ∙ ap (λ b. tally c.args.how.rules b found.0) c.book.ensures in
    let taken = c.in_ok-take.ensures in (
      found.0,
      found.1,
      record {
        good = λ refused. elim c.match-how.branch [ in-Refused+else-not-is_empty w ↦ sym (ap (λ (t : Tally). t.bad) same) ∙ none_bad c.in_ok-accounts.field-0.bad.items (search (rules, w.is_empty.ensures)) | in-LeftOut-1 w ↦ search (rules, refused) ];
        room = subst (λ (t : Tally). map.len c.args.book.now.book + map.len t.accounts ≤ register_capacity) same taken.0;
        book = taken.1 ∙ ap (λ (t : Tally). book_after c.args.how.effect (kept_book c.args.book.now) t.accounts t.changed t.marks) same;
        effect = refl;
        added = search (rules, ap (λ (t : Tally). map.len t.accounts) same);
        changed = search (rules, ap (λ (t : Tally). map.len t.changed) same);
        kept = ap (λ (t : Tally). t.kept) same;
        bad = ap (λ (t : Tally). t.bad) same;
        text = search rules;
      },
    )

pub returns-in_err-take : goal.returns-in_err-take
returns-in_err-take g c = λ basis fits.
    let told = err_from_is_err_and c.from_residual-in_err-take.result c.from_residual-in_err-take.ensures.1 in
    let found = c.in_ok-accounts.ensures.done basis fits in
    let same = ap (λ (t : Tally). t.accounts) found.2 ∙ ap (λ b. (tally c.args.how.rules b found.0).accounts) c.book.ensures in
    rw (told.1, told.2)
    (not_taken c.args.how (reading_on basis g.R.Read.remaining c.args.reader.now c.gather.new.reader) (kept_book c.args.book.now) (kept_book c.take.new.book) c.in_ok-accounts.field-0.accounts c.in_ok-accounts.field-0.changed (mark_at c.in_ok-accounts.field-0.marks) found.0 (c.in_ok-accounts.ensures.kept ∙ c.requires) found.1 same _ c.in_err-take.ensures)
