use Rattle.std.proofs.Common.{arith}
use Rattle.std.proofs.lemmas.Option.{slice_get_within}
use Rattle.lin_objects.specs.Kinds.{kind_of}
use Rattle.lin_order.specs.Merging.{lists_of, AreLegalParts}
use Rattle.lin_session.proofs.kept.Objects.merged_order.Goals as goal

pub returns-in-Ok : goal.returns-in-Ok
returns-in-Ok c =
    let h = c.args.events.now in
    let kept = c.requires.right.1 in
    let parts = lists_of c.in_ok-parts.parts.items in
    let legal : AreLegalParts (kind_of c.args.kinds.now) h parts = record {
      keys = c.args.self.now.keys.keys;
      distinct = kept.distinct;
      legal = c.in_ok-parts.ensures;
      complete = λ at event stands. kept.known at event (let below = slice_get_within h at event stands in omega (arith, below, c.requires.split)) stands;
    } in
    c.merged_orders_are_legal.ensures (kind_of c.args.kinds.now) h parts c.in-Ok.order.items legal c.in-Ok.ensures
