use Rattle.std.proofs.Common.{◌≤◌, sym, subst}
use Rattle.lin_frontier.specs.Opens.{IsPast}
use Rattle.lin_frontier.specs.Frontiers.{IsNextEvent}
use Rattle.lin_engines.specs.declared.replay.Replay.{Replay}
use Rattle.lin_engines.proofs.replay.Replay.stay.Goals as goal

pub returns-clause-open : goal.returns-clause-open
returns-clause-open c = λ functions h next.
    let same = c.hold.ensures.others in
    c.take_in.ensures.open functions h
    (subst (λ (r : Replay). IsNextEvent functions h r.pending.operations.items r.reached c.args.event.now) (sym same) next)

pub returns-clause-past : goal.returns-clause-past
returns-clause-past c = λ h place mark below past.
    let same = c.hold.ensures.others in
    c.take_in.ensures.past h place mark (subst (λ (r : Replay). place ≤ r.reached) (sym same) below) (subst (λ (r : Replay). IsPast r.pending h place mark) (sym same) past)
