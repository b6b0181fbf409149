use Rattle.cred_argon.specs.Compress.{rows, xor_words}
use Rattle.cred_argon.proofs.Whole.{compress_is, halves_put}
use Rattle.cred_argon.proofs.block.compress_over.Goals as goal

pub returns : goal.returns
returns g c =
    let x = c.args.x.now.0 in
    let y = c.args.y.now.0 in
    let v = rows (xor_words x y) in
    compress_is x y c.write_half-2.new.out c.write_half-2.ensures.len
    (halves_put (λ _ word. word) x y c.args.out.now.0 c.write_half.new.out c.write_half-2.new.out
    c.left_columns-left.result c.right_columns-right.result
    c.write_half.ensures.written c.write_half.ensures.kept c.write_half-2.ensures.written c.write_half-2.ensures.kept
    (c.left_columns-left.ensures v c.rows_from-top.ensures c.rows_from-low.ensures)
    (c.right_columns-right.ensures v c.rows_from-top.ensures c.rows_from-low.ensures))
