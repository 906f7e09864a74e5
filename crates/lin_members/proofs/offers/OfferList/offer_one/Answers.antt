use Rattle.std.proofs.Common.{sym, ◌∙◌, true≢false}
use Rattle.indexmap.proofs.MapLemmas.{OnOk-map}
use Rattle.lin_members.specs.lemmas.Offering.{offering_nothing, offering_same, offering_steps}
use Rattle.lin_members.proofs.offers.OfferList.offer_one.Goals as goal

pub returns-then-not-may_be_told-clause-offered : goal.returns-then-not-may_be_told-clause-offered
returns-then-not-may_be_told-clause-offered g c = offering_nothing _ c.args.shown.now.round c.args.self.now (λ x gives. true≢false (sym (c.may_be_told.ensures.1 (gives.0, gives.1, gives.2)) ∙ c.if-not-may_be_told.true))

pub returns-clause-offered : goal.returns-clause-offered
returns-clause-offered g c =
    let are = rw c.state.ensures at c.in_ok-know.ensures.steps in
    let may = c.may_be_told.ensures.0 c.if-not-may_be_told.false in
    OnOk-map c.offer_steps.result _ _ (λ told.
    offering_same _ _ c.args.shown.now.round c.args.self.now c.offer_steps.new.self (λ x gives. (may.0, may.1, may.2, gives)) (λ x one. one.3)
    (offering_steps (g.O.SeqObject.step c.args.shown.now.object.now) c.args.shown.now.config.now.0 c.args.operation.now c.args.shown.now.round c.args.self.now _ c.offer_steps.new.self are (rw c.deref.ensures.value at told))) c.offer_steps.ensures
