use Rattle.std.proofs.lemmas.Result.{IfOk-weaker}
use Rattle.lin_objects.specs.Kinds.{kind_of}
use Rattle.lin_order.specs.Parts.{events_at}
use Rattle.lin_engines.specs.declared.ends.End.TheVariants.{Alive}
use Rattle.lin_session.proofs.Advancing.{object_there, right_there, spelled_length, told_at}
use Rattle.lin_session.proofs.Asking.{order_told}
use Rattle.lin_session.proofs.kept.Objects.order_listed.Goals as goal

pub order-requires-clause-right : goal.order-requires-clause-right
order-requires-clause-right c = (
  events_at c.args.events.now c.index.result.now.picks.items,
  spelled_length c.args.self.now c.args.i c.requires.listed c.index.result.now c.index.ensures c.positions_spell_parts.ensures c.requires.right.0 c.args.events.now c.requires.split (kind_of c.args.kinds.now) c.requires.right.1,
  right_there c.args.self.now c.args.i c.requires.listed c.index.result.now c.index.ensures c.positions_spell_parts.ensures c.requires.right.0 c.args.events.now c.requires.split (kind_of c.args.kinds.now) c.requires.right.1,
)

pub order-requires-clause-alive : goal.order-requires-clause-alive
order-requires-clause-alive c =
    told_at c.args.self.now c.args.i c.requires.listed c.index.result.now c.index.ensures c.positions_spell_parts.ensures c.requires.right.0 c.args.events.now c.requires.split (kind_of c.args.kinds.now) c.requires.right.1 Alive
    c.requires.alive

pub returns : goal.returns
returns c =
    let s = c.args.self.now in
    let old = c.index.result.now in
    let K = kind_of c.args.kinds.now in
    let spell = c.positions_spell_parts.ensures in
    let h = c.args.events.now in
    IfOk-weaker c.order.result _ _
    (λ order told key key_at.
    let is = object_there s c.args.i c.requires.listed old c.index.ensures spell c.requires.right.0 h c.requires.split K c.requires.right.1 key key_at in
    order_told spell K c.requires.right.0 h s.split key old c.requires.split is c.parts_keep_orders.ensures.renamed c.parts_keep_orders.ensures.all c.requires.well_formed order.items
    (told (events_at h old.picks.items)
    (spelled_length s c.args.i c.requires.listed old c.index.ensures spell c.requires.right.0 h c.requires.split K c.requires.right.1)
    (right_there s c.args.i c.requires.listed old c.index.ensures spell c.requires.right.0 h c.requires.split K c.requires.right.1)))
    c.order.ensures
