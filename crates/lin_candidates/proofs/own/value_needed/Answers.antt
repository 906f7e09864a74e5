use Rattle.lin_order.specs.lemmas.Assembling.{operation_inside}
use Rattle.lin_certificates.specs.Words.{Needs}
use Rattle.lin_candidates.proofs.NoneOwn.{of_call}
use Rattle.lin_candidates.proofs.own.value_needed.Goals as goal

pub returns-in_default : goal.returns-in_default
returns-in_default c = λ v is. c.in_default.ensures is.0 is.3

pub ok_end-requires-clause-within : goal.ok_end-requires-clause-within
ok_end-requires-clause-within c = operation_inside c.args.events.now c.args.at c.in-Some.call.now c.in-Some.ensures

pub returns-in-Some-ok_end : goal.returns-in-Some-ok_end
returns-in-Some-ok_end c =
    of_call c.args.events.now c.args.at Needs c.in-Some.call.now c.in-Some-ok_end.field-0-0 c.in-Some-ok_end.reply.now c.in-Some.ensures c.in-Some-ok_end.ensures _ c.needed_for.ensures

pub returns-in-None : goal.returns-in-None
returns-in-None c = λ v is. c.in-None.ensures is.1 is.2 is.4
