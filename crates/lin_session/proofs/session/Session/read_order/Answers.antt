use Rattle.std.proofs.Common.{sym, ap, length, subst, ◌∙◌}
use Rattle.std.proofs.lemmas.Result.{IfOk-weaker}
use Rattle.lin_events.specs.WellFormed.{IsWellFormed}
use Rattle.lin_objects.specs.Kinds.{functions_of, kind_of}
use Rattle.lin_answers.specs.declared.answers.Answer.TheVariants.{Yes}
use Rattle.lin_answers.specs.Answers.{IsAnswer, kinds_in}
use Rattle.lin_session.specs.Sessions.{Standing}
use Rattle.lin_session.specs.inner.Judgements.{IsOrderFor}
use Rattle.lin_session.proofs.Scopes.{IsAnswer-yes}
use Rattle.lin_session.proofs.session.Session.read_order.Goals as goal
use Rattle.lin_session.proofs.session.Session.read_order.Goals.{After-deref}

fine : (c : After-deref) → IsWellFormed (functions_of (kind_of c.self.inside.kinds)) c.self.inside.events.items
fine c = subst (λ (s : Standing). IsWellFormed (functions_of (kinds_in s.present)) s.present.history) (sym c.self.view_is) c.requires.yes.0

pub order-requires-clause-split : goal.order-requires-clause-split
order-requires-clause-split c =
    c.self.invariant.apart (ap (λ (s : Standing). s.low) c.self.view_is ∙ c.requires.settled) (fine (goal.at.order-requires-clause-split c).After-deref) ∙ ap length (sym c.deref.ensures.value)

pub order-requires-clause-well_formed : goal.order-requires-clause-well_formed
order-requires-clause-well_formed c =
    subst (IsWellFormed (functions_of (kind_of c.self.inside.kinds))) (sym c.deref.ensures.value) (fine (goal.at.order-requires-clause-well_formed c).After-deref)

pub returns : goal.returns
returns c =
    IfOk-weaker c.order.result _ _
    (λ order legal. subst (λ (s : Standing). IsAnswer s.present c.args.scope (Yes order)) c.self.view_is
    (IsAnswer-yes (record { history = c.self.inside.events.items; kinds = c.self.inside.kinds; budget = c.self.inside.budget }) c.args.scope order (fine (goal.at.returns c).After-deref)
    (subst (λ l. IsOrderFor (kind_of c.self.inside.kinds) l c.args.scope order.items) c.deref.ensures.value legal)))
    c.order.ensures
