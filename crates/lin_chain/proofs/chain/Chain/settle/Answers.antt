use Rattle.std.proofs.Common.{◌≡◌, ◌≤◌, ◌∙◌, length, ap, sym, subst}
use Rattle.lin_order.specs.Parts.{events_at}
use Rattle.lin_engines.specs.Exacts.{HasExact}
use Rattle.lin_engines.specs.lemmas.Picks.{length-events_at}
use Rattle.lin_chain.specs.Chains.{told_in}
use Rattle.lin_chain.specs.declared.chain.Chain.{Chain}
use Rattle.lin_chain.proofs.chain.Chain.settle.Goals as goal

pub returns-in-Some-clause-end : goal.returns-in-Some-clause-end
returns-in-Some-clause-end c =
    let long = length-events_at c.args.events.now c.args.picks.now c.requires.inside in
    c.in-Some.ensures.right (events_at c.args.events.now c.args.picks.now) c.args.budget (sym long) c.requires.right c.requires.retried

pub finish-requires-clause-spared : goal.finish-requires-clause-spared
finish-requires-clause-spared c = λ exact enough.
    let told = c.in_ok-extend.ensures.decided (subst HasExact (c.take_turns.ensures.kept.kind ∙ c.extend.ensures.kept.kind) exact) enough in
    let same = (c.take_turns.ensures.again told.0 told.1 told.2).1 in
    (told.0, ap (λ (chain : Chain). told_in chain (length c.args.picks.now)) same ∙ told.1, told.2)
