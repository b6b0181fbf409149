use Rattle.std.proofs.Common.{◌≡◌, ◌<◌}
use Rattle.cred_admin.specs.Import.{tally, tally_from, tally_of}
use Rattle.cred_admin.proofs.import.gather_lines.Given as goal

-- the lines that are left, behind what those before them come to, come to the whole
abbrev pub invariant-loop-number : goal.invariant-loop-number
invariant-loop-number l = record {
  goes : tally_from l.fn.rules l.fn.book (tally_of l.found) l.number l.lines ≡ tally l.fn.rules l.fn.book l.fn.text;
  kept : l.found.kept < l.number;
}
