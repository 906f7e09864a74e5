use Rattle.std.proofs.lemmas.Result.{IfOk-weaker}
use Rattle.lin_program.proofs.LineOrders.{ends_behind, some_of}
use Rattle.lin_program.proofs.said.end_in_order.Goals as goal

pub returns-clause-ends : goal.returns-clause-ends
returns-clause-ends c =
    let split = c.in-Some.ensures.cases.0 in
    IfOk-weaker c.is_order.result _ _ (λ is h. ends_behind c.in-Some.others.now c.args.words.now c.in-Some.last.now is split (some_of _ c.if-is_empty.ensures) h) c.is_order.ensures.is
