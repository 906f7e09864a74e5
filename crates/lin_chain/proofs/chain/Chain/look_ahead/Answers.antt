use Rattle.std.proofs.Common.{◌≤◌, ◌/◌, length, arith}
use Rattle.lin_order.specs.Parts.{events_at}
use Rattle.lin_engines.specs.lemmas.Picks.{length-events_at}
use Rattle.lin_chain.proofs.Chaining.{kept_searched, kept_with_others}
use Rattle.lin_chain.proofs.chain.Chain.look_ahead.Goals as goal

pub returns-clause-kept : goal.returns-clause-kept
returns-clause-kept c =
    let h = events_at c.args.events.now c.args.picks.now in
    let long = length-events_at c.args.events.now c.args.picks.now c.requires.inside in
    kept_searched c.args.budget h c.args.self.now c.find_ahead.new.self (length c.args.picks.now / 8) (omega (arith, long)) (kept_with_others c.args.budget h c.args.self.now c.find_ahead.new.self c.find_ahead.ensures.others c.find_ahead.ensures.right c.requires.retried c.find_ahead.ensures.mark)
