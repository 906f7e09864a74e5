use Rattle.std.proofs.Common.{◌≡◌, ◌<◌, ◌≤◌, ◌∙◌, ap, subst, arith}
use Rattle.lin_order.specs.Parts.{events_at}
use Rattle.lin_engines.specs.Exacts.{HasExact}
use Rattle.lin_chain.specs.Chains.{IsKept}
use Rattle.lin_chain.specs.declared.chain.Chain.{Chain}
use Rattle.lin_chain.proofs.Chaining.{kept_with_frontier}
use Rattle.lin_chain.proofs.chain.Chain.take_some.Goals as goal
use Rattle.lin_chain.proofs.chain.Chain.take_some.Goals.{After-next}

kept_next : (c : After-next) → c.loop-self.self.frontier.mark ≤ c.next.new.self.mark → IsKept c.args.budget (events_at c.args.events.now c.args.picks.now) c.args.self.now (record c.loop-self.self { frontier = c.next.new.self })
kept_next c more =
    let was = c.loop-self.invariant in
    kept_with_frontier c.args.budget (events_at c.args.events.now c.args.picks.now) c.args.self.now c.loop-self.self c.next.new.self c.next.ensures.kind c.next.ensures.right (c.next.ensures.retried was.kept.retried)
    (λ exact. c.next.ensures.under 1024 (c.requires.spared (subst HasExact was.kept.kind exact)) (was.kept.right.spared exact)) more was.kept

pub loop-self-preserved : goal.loop-self-preserved
loop-self-preserved c =
    let was = c.loop-self.invariant in
    let further = c.in_ok-next.ensures.further in
    let spent = c.in_ok-next.ensures.spent in
    record {
      kept = kept_next (goal.at.loop-self-preserved c).After-next (omega (arith, further));
      others = ap (λ (chain : Chain). record chain { frontier = c.next.new.self }) was.others;
      spent = omega (arith, was.spent, spent);
      scans = c.next.ensures.scans ∙ was.scans;
    }

pub returns-in_err-next-clause-kept : goal.returns-in_err-next-clause-kept
returns-in_err-next-clause-kept c = kept_next (goal.at.returns-in_err-next-clause-kept c).After-next (let same = c.in_err-next.ensures.refused in omega (arith, same))
