use Rattle.std.proofs.Common.{◌≡◌, ◌≤◌, length, subst, sym, arith}
use Rattle.std.proofs.lemmas.List.{take_all}
use Rattle.lin_order.specs.Linearizable.{IsLegalOrderAs}
use Rattle.lin_order.specs.Parts.{events_at}
use Rattle.lin_engines.specs.lemmas.Picks.{length-events_at}
use Rattle.lin_chain.specs.Chains.{kind_in}
use Rattle.lin_chain.proofs.Chaining.{beside_within, right_with_found}
use Rattle.lin_chain.proofs.chain.Chain.keep_order.Goals as goal

pub returns-then-is_gone-clause-right : goal.returns-then-is_gone-clause-right
returns-then-is_gone-clause-right c =
    let h = events_at c.args.events.now c.args.picks.now in
    let long = length-events_at c.args.events.now c.args.picks.now c.requires.inside in
    right_with_found c.args.self.now _ h (omega (arith, long), subst (λ l. IsLegalOrderAs (kind_in c.args.self.now) l c.args.order.items) (sym (take_all (length c.args.picks.now) h (omega (arith, long)))) c.requires.legal) c.requires.right

pub returns-else-is_gone-clause-mark : goal.returns-else-is_gone-clause-mark
returns-else-is_gone-clause-mark c =
    let h = events_at c.args.events.now c.args.picks.now in
    let long = length-events_at c.args.events.now c.args.picks.now c.requires.inside in
    let within = beside_within (kind_in c.args.self.now) h c.args.self.now.beside c.requires.right.beside in
    let all = c.in_ok-go_on.ensures.all in
    omega (arith, long, within, all)
