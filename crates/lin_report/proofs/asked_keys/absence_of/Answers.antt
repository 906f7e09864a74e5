use Rattle.std.proofs.Common.{◌∙◌, ap, subst, sym}
use Rattle.lin_report.specs.AskedKeys.{HasEvents, IsAbsence, absence_text}
use Rattle.lin_report.proofs.AskedKeys.{none_has, one_has}
use Rattle.lin_report.proofs.asked_keys.absence_of.Goals as goal

pub returns-then-has_events : goal.returns-then-has_events
returns-then-has_events c = subst (HasEvents c.args.events.now) (sym c.in-Some.is) (one_has c.in-Some.key c.args.events.now (sym c.has_events.ensures ∙ c.if-has_events.true))

pub returns : goal.returns
returns c =
    subst (λ key. IsAbsence c.args.names.now c.args.events.now key c.in_ok-absence_words.field-0.items) (sym c.in-Some.is) (
      none_has c.in-Some.key c.args.events.now (sym c.has_events.ensures ∙ c.if-has_events.false),
      (c.in_ok-keys.keys.items, c.in_ok-keys.ensures, c.in_ok-absence_words.ensures ∙ ap (absence_text c.args.names.now c.in-Some.key) c.as_slice.ensures.value),
    )
