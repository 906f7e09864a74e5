use Rattle.std.proofs.Common.{◌≡◌, [], length, subst, sym, ap, ◌∙◌}
use Rattle.lin_events.specs.WellFormed.{IsWellFormed}
use Rattle.lin_objects.specs.Kinds.{functions_of}
use Rattle.lin_order.specs.Parts.{part}
use Rattle.lin_answers.specs.Answers.{kinds_in}
use Rattle.lin_session.specs.Sessions.{Standing}
use Rattle.lin_session.proofs.Found.{none_weaker}
use Rattle.lin_session.proofs.session.Session.positions.Goals as goal

pub returns-clause-none : goal.returns-clause-none
returns-clause-none c =
    none_weaker c.positions.result _ _
    (λ empty low fine.
    let inside = subst (λ (s : Standing). IsWellFormed (functions_of (kinds_in s.present)) s.present.history) (sym c.self.view_is) fine in
    let all = c.self.invariant.apart (ap (λ (s : Standing). s.low) c.self.view_is ∙ low) inside ∙ ap length (sym c.deref.ensures.value) in
    subst (λ (s : Standing). part c.args.key s.present.history ≡ []) c.self.view_is (subst (λ l. part c.args.key l ≡ []) c.deref.ensures.value (empty all)))
    c.positions.ensures.none
