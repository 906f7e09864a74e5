use Rattle.std.proofs.Common.{sym, subst}
use Rattle.lin_events.specs.declared.items.Item.{Item}
use Rattle.lin_certificates.specs.Certificates.{Certifies, TookOut}
use Rattle.lin_certificates.specs.declared.certificate.Certificate.TheVariants as Form
use Rattle.lin_candidates.proofs.NoneOwn.{none_always, none_on}
use Rattle.lin_candidates.proofs.own.of_taken.Goals as goal

pub returns-in_err-item-clause-all : goal.returns-in_err-item-clause-all
returns-in_err-item-clause-all c =
    let all : (n : Item) → TookOut c.args.events.now n c.args.at → Certifies c.args.events.now c.args.kind (Form.Taken n) → ⊥ = λ n took is. c.in_err-item.ensures n took in
    none_always c.from_residual.result all

pub returns-clause-all : goal.returns-clause-all
returns-clause-all c = none_on c.certificate_that_holds.result (λ not n took is.
    not (subst (λ k. Certifies c.args.events.now c.args.kind (Form.Taken k)) (sym (c.in_ok-item.ensures n took)) is)) c.certificate_that_holds.ensures.all
