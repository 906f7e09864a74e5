use Rattle.std.proofs.Common.{sym, subst, IfSome}
use Rattle.lin_events.specs.declared.items.Item.{Item}
use Rattle.lin_events.specs.declared.calls.Val.{Val}
use Rattle.lin_events.specs.declared.calls.Val.TheVariants.{Item as Held}
use Rattle.lin_certificates.specs.Certificates.{Certifies}
use Rattle.lin_certificates.specs.declared.certificate.Certificate.TheVariants as Form
use Rattle.lin_candidates.proofs.NoneOwn.{none_always, none_is, none_on, overwritten_needed, unwritten_needed}
use Rattle.lin_candidates.proofs.own.of_needed.Goals as goal

pub returns-in_err-value-clause-unwritten : goal.returns-in_err-value-clause-unwritten
returns-in_err-value-clause-unwritten c =
    let all : (item : Item) → Certifies c.args.events.now c.args.kind (Form.Unwritten c.args.at item) → ⊥ =
    λ item is. c.in_err-value.ensures (Held item) (unwritten_needed c.args.events.now c.args.at c.args.kind item is) in
    none_always c.from_residual.result all

pub returns-in_err-value-clause-overwritten : goal.returns-in_err-value-clause-overwritten
returns-in_err-value-clause-overwritten c =
    let all : (v : Val) → Certifies c.args.events.now c.args.kind (Form.Overwritten c.args.at v) → ⊥ =
    λ v is. c.in_err-value.ensures v (overwritten_needed c.args.events.now c.args.at c.args.kind v is) in
    none_always c.from_residual.result all

pub returns-clause-unwritten : goal.returns-clause-unwritten
returns-clause-unwritten c =
    let not = none_is c.certificate_that_holds-found.result c.if-is_some.ensures c.certificate_that_holds-found.ensures.all in
    let all : (item : Item) → Certifies c.args.events.now c.args.kind (Form.Unwritten c.args.at item) → ⊥ =
    λ item is.
    subst (λ r. IfSome r (λ certificate. Certifies c.args.events.now c.args.kind certificate → ⊥))
    (c.unwritten_certificate.ensures item (c.in_ok-value.ensures (Held item) (unwritten_needed c.args.events.now c.args.at c.args.kind item is))) not is in
    none_always c.certificate_that_holds.result all

pub returns-clause-overwritten : goal.returns-clause-overwritten
returns-clause-overwritten c = none_on c.certificate_that_holds.result (λ not v is.
    not (subst (λ w. Certifies c.args.events.now c.args.kind (Form.Overwritten c.args.at w)) (sym (c.in_ok-value.ensures v (overwritten_needed c.args.events.now c.args.at c.args.kind v is))) is)) c.certificate_that_holds.ensures.all
