use Rattle.std.proofs.Common.{◌≤◌, length, sym, subst, arith}
use Rattle.std.proofs.lemmas.List.{take_all}
use Rattle.lin_order.specs.Linearizable.{IsLegalOrderAs}
use Rattle.lin_order.specs.Parts.{events_at}
use Rattle.lin_engines.specs.lemmas.Picks.{length-events_at}
use Rattle.lin_chain.specs.Chains.{kind_in}
use Rattle.lin_chain.proofs.Chaining.{right_with_found}
use Rattle.lin_chain.proofs.chain.Chain.find_ahead.Goals as goal

pub returns-clause-right : goal.returns-clause-right
returns-clause-right c =
    let h = events_at c.args.events.now c.args.picks.now in
    let long = length-events_at c.args.events.now c.args.picks.now c.requires.inside in
    let found : IsLegalOrderAs c.kind.result h c.in-Some.order.items = rw c.in-Some.is at c.in_ok-order.ensures.legal in
    let legal : IsLegalOrderAs (kind_in c.args.self.now) h c.in-Some.order.items = subst (λ k. IsLegalOrderAs k h c.in-Some.order.items) c.kind.ensures found in
    right_with_found c.args.self.now _ h (omega (arith, long), subst (λ l. IsLegalOrderAs (kind_in c.args.self.now) l c.in-Some.order.items) (sym (take_all (length c.args.picks.now) h (omega (arith, long)))) legal) c.requires.right
