use Rattle.std.proofs.Common.{◌∙◌, arith}
use Rattle.lin_formats.proofs.Beginnings.{all_there, kept}
use Rattle.lin_formats.proofs.hints.keep_first.Goals as goal

pub returns-then-len-ge-KEPT : goal.returns-then-len-ge-KEPT
returns-then-len-ge-KEPT c = λ text is. all_there c.args.first.now.items text c.args.piece.now is (omega (arith, c.if-len-ge-KEPT.true, c.len.ensures))

pub returns : goal.returns
returns c = λ text is.
    let more = c.at_most-more in
    c.in_ok-extend_from_slice.ensures.items
    ∙ kept c.args.first.now.items text c.args.piece.now _ _ is (omega (arith, c.if-len-ge-KEPT.false, c.len.ensures, c.len-room.ensures))
    (omega (arith, c.if-len-ge-KEPT.false, c.len.ensures, c.len-room.ensures)) more.ensures.within more.ensures.fits more.ensures.all
