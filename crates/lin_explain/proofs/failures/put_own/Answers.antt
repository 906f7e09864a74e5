use Rattle.std.proofs.Common.{◌∙◌, ℕ, List, option_map, subst, sym}
use Rattle.std.proofs.lemmas.Result.{IfOk-weaker}
use Rattle.lin_events.specs.declared.events.Event.{Event}
use Rattle.lin_tables.specs.WindowOperations.{IsFailing}
use Rattle.lin_explain.specs.Failures.{IsFailureText}
use Rattle.lin_explain.proofs.failures.put_own.Goals as goal

pub unreachable-requires : goal.unreachable-requires
unreachable-requires c =
    let failing = c.requires.failure.failing in
    c.in_default.ensures.failing failing.0 (subst (λ l. IsFailing l failing.0) (sym c.as_slice-2.ensures.value) failing.1)

pub put_failure-requires-clause-fails : goal.put_failure-requires-clause-fails
put_failure-requires-clause-fails c = subst (λ l. IsFailing l c.in-Some.call) (c.as_slice-2.ensures.value ∙ sym c.as_slice-4.ensures.value) c.in-Some.ensures.failing

pub returns-clause-told : goal.returns-clause-told
returns-clause-told c =
    let fallen = c.args.fallen.now in
    let places = option_map (λ p. p.now) c.args.origin.now.places in
    let call = c.in-Some.call in
    let text = λ (events : List Event) (picks : List ℕ).
    IsFailureText fallen.kind fallen.budget (record { names = c.args.origin.now.names.now; events = events; picks = picks; places = places }) c.args.prefix call fallen.ending in
    IfOk-weaker c.put_failure.result _ _
    (λ failed told. (
      told.0,
      call,
      subst (λ p. text fallen.own.events.items p told.0 failed) c.as_slice-6.ensures.value
          (subst (λ l. text l c.as_slice-6.result.now told.0 failed) c.as_slice-4.ensures.value told.1),
      told.2,
    )) c.put_failure.ensures.told
