use Rattle.std.proofs.Common.{◌≡◌, ◌≤◌, List, length, subst, sym, arith}
use Rattle.lin_events.specs.declared.events.Event.{Event}
use Rattle.lin_order.specs.Parts.{events_at}
use Rattle.lin_objects.specs.declared.any.Any.{Any}
use Rattle.lin_engines.specs.declared.witness.Witness.{Witness}
use Rattle.lin_engines.specs.Witnesses.{IsWitness}
use Rattle.lin_engines.specs.declared.lane.Lane.{Lane}
use Rattle.lin_engines.specs.Lanes.{IsStanding}
use Rattle.lin_engines.specs.Witnessing.{IsWitnessLane, kind_of_witness, reach_of_witness}
use Rattle.lin_engines.specs.declared.says.Says.TheVariants.{Gone}
use Rattle.lin_engines.proofs.witnesses.mend.Goals as goal
use Rattle.lin_engines.proofs.witnesses.mend.Goals.{After-reach}

-- a witness that has given up may stand at any of the events that were given to it
still_gone : (c : After-reach) → IsWitnessLane (record c.args.lane.now { engine = c.reach.new.witness }) (events_at c.args.events.now c.args.picks.now)
still_gone c =
    let h = events_at c.args.events.now c.args.picks.now in
    let lane = c.args.lane.now in
    let within = c.reach.ensures.within in
    let all = c.requires.all in
    let place = c.requires.place in
    record {
      seen = c.reach.ensures.right;
      within = c.requires.right.within;
      may = c.requires.right.may;
      standing = subst (IsStanding (kind_of_witness c.reach.new.witness) lane.budget h (reach_of_witness c.reach.new.witness) lane.mark) (sym c.requires.gone) (omega (arith, within, all, place));
    }

pub returns-in_err-reach-clause-right : goal.returns-in_err-reach-clause-right
returns-in_err-reach-clause-right c = still_gone (goal.at.returns-in_err-reach-clause-right c).After-reach

pub returns-else-of-picks-clause-right : goal.returns-else-of-picks-clause-right
returns-else-of-picks-clause-right c = still_gone (goal.at.returns-else-of-picks-clause-right c).After-reach
