use Rattle.lin_answers.specs.Answers.{kinds_in}
use Rattle.lin_objects.specs.Kinds.{functions_of}
use Rattle.lin_order.specs.Parts.{part}
use Rattle.lin_explain.proofs.certain.certificates_are_certain.Goals as goal

-- the whole's legal order has one of the object, and that is one of the object's own events
pub returns : goal.returns
returns c now key certificate fine holds linear =
    c.certificates_exclude_orders.ensures (part key now.history) (kinds_in now key) certificate holds
    ((c.parts_keep_orders.ensures.linearizable (functions_of (kinds_in now)) (kinds_in now) key now.history fine).0 ((c.linearizability_is_local.ensures (kinds_in now) now.history).0 linear key))
