use Rattle.std.proofs.Common.{◌+◌, ◌∙◌, refl, ap, sym, subst, take}
use Rattle.lin_frontier.specs.Frontiers.{IsNextEvent}
use Rattle.lin_frontier.specs.declared.opens.OpenList.{OpenList}
use Rattle.lin_frontier.specs.Opens.{IsPast}
use Rattle.lin_engines.specs.Witnesses.{listed, order_in}
use Rattle.lin_engines.proofs.Growing.{completed, next_event, reopened, went_on}
use Rattle.lin_engines.proofs.witness.Witness.complete.Goals as goal

pub returns-in_err-reserve-clause-right : goal.returns-in_err-reserve-clause-right
returns-in_err-reserve-clause-right c = λ functions h name reply well there is has before w.
    reopened c.args.self.now c.reserve.new.self h c.reserve.ensures.operations (λ place mark below past. c.reserve.ensures.past h place mark past) w

pub returns-then-not-take_in-clause-right : goal.returns-then-not-take_in-clause-right
returns-then-not-take_in-clause-right c = λ functions h name reply well there is has before w.
    let same = c.take_in.ensures.same c.if-not-take_in.true in
    reopened c.args.self.now c.take_in.new.self h (ap (λ (o : OpenList). o.operations.items) same ∙ c.reserve.ensures.operations) (λ place mark below past. subst (λ (o : OpenList). IsPast o h place mark) (sym same) (c.reserve.ensures.past h place mark past)) w

pub returns-clause-right : goal.returns-clause-right
returns-clause-right c = λ functions h name reply well there is has before w.
    let a = c.args.self.now in
    let event = c.args.event.now in
    let next = next_event c.beginnings_are_well_formed.ensures functions h a.of event (listed a.opened) well there w.opened in
    went_on a c.take_in.new.self c.in_ok-config.config (a.of + 1) h event refl there (λ place mark below past. c.take_in.ensures.past h place mark below (c.reserve.ensures.past h place mark past)) before
    (completed a.object.kind c.configurations_after_events.ensures.ok functions (take a.of h) event name reply is next.well_formed (order_in a) a.config c.in_ok-config.config has c.in_ok-config.ensures w.reached.ends)
    (c.take_in.ensures.open functions (take a.of h) (subst (λ l. IsNextEvent functions (take a.of h) l a.of event) (sym c.reserve.ensures.operations) next)) w
