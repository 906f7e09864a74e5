use Rattle.std.proofs.Common.{◌++◌, ap, sym}
use Rattle.lin_tables.proofs.Letters.{put_ok, short_whole}
use Rattle.lin_tables.proofs.spellings.put_short.Goals as goal

pub returns-then-word-le-LONGEST : goal.returns-then-word-le-LONGEST
returns-then-word-le-LONGEST c =
    put_ok c.extend_from_slice.result _ _ _ _ c.extend_from_slice.ensures.items (ap (λ l. c.args.line.now.items ++ l) (sym (short_whole c.args.word.now c.if-word-le-LONGEST.true)))
