use Rattle.std.proofs.Common.{◌≡◌, ◌<◌, ◌≤◌, IsTrue, true, false, length, refl, sym, subst, arith}
use Rattle.std.specs.Prelude.{not}
use Rattle.lin_order.specs.Parts.{events_at}
use Rattle.lin_engines.specs.lemmas.Picks.{event_there, length-events_at}
use Rattle.lin_engines.specs.Engines.{IsNext}
use Rattle.lin_engines.proofs.Lanes.{standing_further}
use Rattle.lin_engines.proofs.lane.Lane.next.Goals as goal
use Rattle.lin_engines.proofs.lane.Lane.next.Given.{Over}
use Rattle.lin_engines.proofs.lane.Lane.next.Goals.{After-index-events-picks}

next_is : (g : Over) (c : After-index-events-picks g) → IsNext (events_at c.args.events.now c.args.picks.now) c.args.self.now.mark c.index-events-picks.result
next_is g c = record {
  well_formed = c.requires.well_formed;
  stands = event_there c.args.events.now c.args.picks.now c.args.self.now.mark c.index-events-picks.result c.requires.inside c.requires.due c.index-events-picks.is;
}

pub returns-then-not-is_on-clause-right : goal.returns-then-not-is_on-clause-right
returns-then-not-is_on-clause-right g c =
    let long = length-events_at c.args.events.now c.args.picks.now c.requires.inside in
    let due = c.requires.due in
    record {
      seen = c.requires.right.seen;
      within = omega (arith, long);
      may = c.requires.right.may;
      standing = standing_further _ _ (events_at c.args.events.now c.args.picks.now) _ c.args.self.now.mark (length c.args.picks.now) c.args.self.now.said (λ on. cc (c.is_on.ensures.1 on, c.if-not-is_on.true)) (omega (arith, due)) c.requires.right.standing;
    }

pub take_in-requires-clause-right : goal.take_in-requires-clause-right
take_in-requires-clause-right g c = (events_at c.args.events.now c.args.picks.now, next_is g (goal.at.take_in-requires-clause-right g c).After-index-events-picks, c.requires.right)

pub returns-clause-right : goal.returns-clause-right
returns-clause-right g c = c.take_in.ensures.right (events_at c.args.events.now c.args.picks.now) (next_is g (goal.at.returns-clause-right g c).After-index-events-picks) c.requires.right

pub returns-clause-under : goal.returns-clause-under
returns-clause-under g c = λ most less was. c.take_in.ensures.under most less
