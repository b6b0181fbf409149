use Rattle.std.proofs.Common.{bit_xor}
use Rattle.cred_argon.specs.Compress.{compress, rows, xor_words}
use Rattle.cred_argon.proofs.Whole.{xor_words_is, halves_put}
use Rattle.cred_argon.proofs.block.compress_onto.Goals as goal

pub returns : goal.returns
returns g c =
    let x = c.args.x.now.0 in
    let y = c.args.y.now.0 in
    let v = rows (xor_words x y) in
    xor_words_is c.args.out.now.0 (compress x y) c.add_half-2.new.out c.add_half-2.ensures.len
    (halves_put bit_xor x y c.args.out.now.0 c.add_half.new.out c.add_half-2.new.out
    c.left_columns-left.result c.right_columns-right.result
    c.add_half.ensures.added c.add_half.ensures.kept c.add_half-2.ensures.added c.add_half-2.ensures.kept
    (c.left_columns-left.ensures v c.rows_from-top.ensures c.rows_from-low.ensures)
    (c.right_columns-right.ensures v c.rows_from-top.ensures c.rows_from-low.ensures))
