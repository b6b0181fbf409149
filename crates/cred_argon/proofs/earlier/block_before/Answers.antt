use Rattle.std.proofs.Common.{◌≡◌, ◌<◌, ◌≤◌, ◌-◌, ◌∙◌, ◌==◌, true, length, ap, sym, arith}
use Rattle.std.proofs.lemmas.Bool.Decides.{nat_tests}
use Rattle.cred_argon.specs.{Parameters.segment_len, Turns.number, Cells.cell}
use Rattle.cred_argon.proofs.Distances.{before_first, begun_later}
use Rattle.cred_argon.proofs.earlier.block_before.Goals as goal

pub returns-then-is_empty : goal.returns-then-is_empty
returns-then-is_empty g c h held done =
    let shared = c.args.shared.now.turn in
    let a = shared.params in
    let value = c.segment_len-last.ensures.value in
    let some : 2 ≤ segment_len a = rw value at c.segment_len-last.ensures.at_least in
    let test : (length c.args.done.now == 0) ≡ true = sym c.is_empty.ensures ∙ c.if-is_empty.true in
    let none : length c.args.done.now ≡ 0 = grind (arith, nat_tests, test) in
    let later : 0 < number shared = begun_later shared (length c.args.done.now) c.requires.computed none in
    let last = c.block_of.ensures h (number shared - 1) (held.newest later) in
    rw none (rw value at last ∙ ap (cell a h) (before_first shared.pass shared.slice (segment_len a) c.args.lane c.requires.shaped.slice some later))
