use Rattle.std.specs.Prelude.{codes, decimal}
use Rattle.lin_texts.specs.lemmas.Putting.{put_last}
use Rattle.lin_draw.proofs.fades.put_name.Goals as goal

pub returns : goal.returns
returns c = put_last c.put_number.result c.args.text.now.items c.extend_from_slice.new.self.items c.put_number.new.line.items (codes "lincheck-fade-") (decimal c.args.right)
    c.in_ok-extend_from_slice.ensures.items c.put_number.ensures
