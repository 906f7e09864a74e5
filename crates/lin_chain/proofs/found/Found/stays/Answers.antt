use Rattle.std.proofs.Common.{◌≡◌, ◌≤◌, ◌<◌, subst, sym, arith}
use Rattle.std.proofs.lemmas.Bool.{leb-true}
use Rattle.std.proofs.lemmas.Bool.Decides.{Decides-ltb}
use Rattle.lin_chain.specs.Chains.{IsFound}
use Rattle.lin_chain.proofs.Chaining.{failure_stays, order_stays}
use Rattle.lin_chain.proofs.found.Found.stays.Goals as goal

pub returns-in-Order : goal.returns-in-Order
returns-in-Order c = λ stays kind h edited is same.
    subst (IsFound kind edited) (sym c.in-Order.is) (order_stays kind h edited c.args.place c.in-Order.of c.in-Order.field-0.items (leb-true c.in-Order.of c.args.place stays) same (subst (IsFound kind h) c.in-Order.is is))

pub returns-in-Failure : goal.returns-in-Failure
returns-in-Failure c = λ stays kind h edited is same.
    subst (IsFound kind edited) (sym c.in-Failure.is) (failure_stays kind h edited c.args.place c.in-Failure.at ((Decides-ltb c.in-Failure.at c.args.place).0 stays) same (subst (IsFound kind h) c.in-Failure.is is))
