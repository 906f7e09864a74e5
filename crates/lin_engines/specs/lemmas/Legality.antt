-- What is told of a witness.
use Rattle.std.specs.Prelude.{List, take}
use Rattle.lin_events.specs.declared.events.Event.{Event}
use Rattle.lin_order.specs.Linearizable.{IsLegalOrderAs}
use Rattle.lin_engines.specs.declared.witness.Witness.{Witness}
use Rattle.lin_engines.specs.Witnesses.{IsWitness, order_in}

-- it is a legal order
pub witness_legal : (w : Witness) (h : List Event) → IsWitness w h → IsLegalOrderAs w.object.kind (take w.of h) (order_in w)
witness_legal w h right = record { order_of = right.reached.ends.order_of; legal = (w.config.0, right.reached.ends.runs) }
