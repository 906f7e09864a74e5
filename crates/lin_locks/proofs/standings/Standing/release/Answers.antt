use Rattle.std.proofs.Common.{true, false, not, set, sym, ap, subst, ◌∙◌, Ok, Some}
use Rattle.std.specs.Bool.{if◌then◌else◌}
use Rattle.lin_events.specs.declared.calls.Reply.TheVariants.{Done}
use Rattle.lin_order.specs.ConfigurationLaws.{with_event}
use Rattle.lin_locks.specs.inner.Fillings.{AreFilled}
use Rattle.lin_locks.specs.inner.Known.{part_of}
use Rattle.lin_locks.specs.inner.Sides.{AreSides}
use Rattle.lin_locks.proofs.Going.{filled_paid_on, filled_round, filled_turned}
use Rattle.lin_locks.proofs.Knowing.{ended}
use Rattle.lin_locks.proofs.Siding.{round, sides_fail, sides_paid, sides_turned}
use Rattle.lin_locks.proofs.standings.Standing.release.Goals as goal

pub returns-in-Pays-clause-on : goal.returns-in-Pays-clause-on
returns-in-Pays-clause-on c change is functions h event name end body ending was =
    let alternates = (c.well_formed_is_alternating.ensures functions (with_event h event)).0 ending.well_formed in
    let pays = c.take_in_return.ensures.pays c.in-Pays.end (c.in_ok-turn.was ∙ ap Ok c.in-Pays.is) in
    let order = c.args.self.now.order.items in
    let own = part_of c.args.self.now.releases in
    let other = part_of c.args.self.now.acquires in
    let now = part_of c.take_in_return.new.own in
    let held = c.args.self.now.held in
    let sides = round h true other own held was.sides in
    record {
      sides = subst (λ s. AreSides (with_event h event) true s now held) (sym pays.1)
          (round (with_event h event) false now other held (sides_paid functions h event name alternates Done body c.args.begin ending.key false ending.is_open own now other held pays.0 sides));
      order = subst (λ l. AreFilled (with_event h event) true l (part_of c.take_in_return.new.other) now held) (sym pays.2)
          (subst (λ s. AreFilled (with_event h event) true (set order pays.0.debt.slot (Some c.args.begin)) s now held) (sym pays.1)
          (filled_round (with_event h event) false (set order pays.0.debt.slot (Some c.args.begin)) now other held
          (filled_paid_on functions h event name alternates body c.args.begin ending.key false ending.is_open order own now other held pays.0 sides (filled_round h true order other own held was.order))));
    }

pub returns-in-Stands-clause-on : goal.returns-in-Stands-clause-on
returns-in-Stands-clause-on c change is functions h event name end body ending was =
    let alternates = (c.well_formed_is_alternating.ensures functions (with_event h event)).0 ending.well_formed in
    let said = c.in_ok-turn.was ∙ ap Ok c.in-Stands.is in
    let stands = c.take_in_return.ensures.stands c.in-Stands.end said in
    let owes = c.take_in_return.ensures.owes c.in-Stands.end said in
    let order = c.args.self.now.order.items in
    let own = part_of c.args.self.now.releases in
    let other = part_of c.args.self.now.acquires in
    let now = part_of c.take_in_return.new.own in
    let later = part_of c.take_in_return.new.other in
    let held = c.args.self.now.held in
    let sides = round h true other own held was.sides in
    record {
      sides = round (with_event h event) false now later false
          (sides_turned functions h event name alternates Done body c.args.begin ending.key false ending.is_open own now other later held c.fits.result c.args.end end c.fits.ensures
          (λ yes'. ((stands yes').0, (stands yes').1)) (λ no'. ((owes no').0, (owes no').1.owing)) sides);
      order = filled_round (with_event h event) false c.take_in_return.new.order.items now later false
          (filled_turned functions h event name alternates body c.args.begin ending.key false ending.is_open order own now other later held c.fits.result c.take_in_return.new.order.items c.args.end end c.fits.ensures
          stands owes sides (filled_round h true order other own held was.order));
    }

pub returns-in-Fails-clause-down : goal.returns-in-Fails-clause-down
returns-in-Fails-clause-down c is functions h event name end body ending was legal =
    let alternates = (c.well_formed_is_alternating.ensures functions (with_event h event)).0 ending.well_formed in
    let found = ended functions (with_event h event) alternates legal in
    let fails = c.take_in_return.ensures.fails (c.in_ok-turn.was ∙ ap Ok c.in-Fails.is) in
    let own = part_of c.args.self.now.releases in
    let other = part_of c.args.self.now.acquires in
    sides_fail functions h event name alternates Done body c.args.begin ending.key false ending.is_open own other c.args.self.now.held
    (c.fits.ensures ∙ ap (λ b. if b then not false else false) fails.0) fails.1 fails.2 (round h true other own c.args.self.now.held was.sides) found.0 found.1
