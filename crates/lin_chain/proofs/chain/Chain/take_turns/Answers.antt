use Rattle.std.proofs.Common.{◌≡◌, ◌≤◌, ◌<◌, ◌∙◌, true, false, length, ap, sym, subst, arith}
use Rattle.lin_order.specs.Parts.{events_at}
use Rattle.lin_chain.specs.Chains.{mark_in, told_in}
use Rattle.lin_chain.specs.declared.chain.Chain.{Chain}
use Rattle.lin_chain.proofs.Chaining.{kept_then}
use Rattle.lin_chain.proofs.Working.{spent_then}
use Rattle.lin_chain.proofs.chain.Chain.take_turns.Goals as goal

pub loop-number-preserved : goal.loop-number-preserved
loop-number-preserved c =
    let was = c.loop-number.invariant in
    let start = c.args.self.now in
    let mid = c.loop-number.self in
    record {
      kept = kept_then c.args.budget (events_at c.args.events.now c.args.picks.now) start mid c.take_turn.new.self was.kept c.take_turn.ensures.kept;
      spent = spent_then (mark_in start) (mark_in mid) (mark_in c.take_turn.new.self) (length c.args.picks.now) c.args.meter.now.steps c.loop-number.meter.steps c.take_turn.new.meter.steps was.kept.stopped c.take_turn.ensures.kept.stopped was.spent c.in_ok-take_turn.ensures.spent;
      idle = λ told. absurd (cc (c.is_decided.ensures.1 (told.0, ap (λ (chain : Chain). told_in chain (length c.args.picks.now)) (was.idle told).0 ∙ told.1, told.2), c.if-is_decided.false));
      scans = c.take_turn.ensures.scans ∙ was.scans;
    }
