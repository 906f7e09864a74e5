use Rattle.std.proofs.Common.{◌+◌, subst}
use Rattle.lin_edn.specs.Segments.{IsFront}
use Rattle.lin_edn.proofs.Segments.{front_stands}
use Rattle.lin_edn.proofs.shapes.Segment.stands.Goals as goal

pub returns : goal.returns
returns c all =
    let inside = c.self.inside in
    let s = c.args.input.now in
    subst (λ m. IsFront s c.args.from m.run (c.args.from + m.size)) c.self.view_is
    (front_stands s inside.bytes c.args.from inside.begun inside.until inside.end c.requires c.self.told c.self.invariant (c.begin_with.ensures all))
