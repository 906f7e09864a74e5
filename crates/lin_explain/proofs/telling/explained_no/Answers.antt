use Rattle.std.proofs.Common.{◌≡◌, ◌≤◌, ◌+◌, ◌*◌, ◌++◌, ◌∙◌, ap, arith, length, option_map, refl, subst, sym}
use Rattle.lin_events.specs.declared.meter.Meter.{Meter}
use Rattle.lin_events.specs.Meters.{ticked}
use Rattle.lin_explain.specs.Failures.{IsNoText}
use Rattle.lin_explain.proofs.Answered.{prefix_within}
use Rattle.lin_explain.proofs.Passing.{own_is, passed_least}
use Rattle.lin_explain.proofs.telling.explained_no.Goals as goal

pub returns-clause-told : goal.returns-clause-told
returns-clause-told c =
    let failed = c.in_ok-failed.failed in
    let told = c.in_ok-failed.ensures.told in
    let lines = told.2 ∙ ap (λ l. l ++ told.0) c.new-lines.ensures.items in (
      failed,
      refl,
      subst (λ l. IsNoText c.args.origin.now.names.now c.args.history (option_map (λ p. p.now) c.args.origin.now.places) c.args.prefix l failed) (sym lines)
          (told.1 c.args.history c.in_ok-fallen.ensures.fallen),
    )

pub returns-clause-counted : goal.returns-clause-counted
returns-clause-counted c =
    let now = c.args.history in
    let n = c.args.prefix in
    let before = c.args.meter.now.steps in
    let after = c.put_no.new.meter.steps in
    let fallen = c.in_ok-fallen.fallen in
    let own = length fallen.own.events.items in
    let first = ap (λ (m : Meter). m.steps) c.in_ok-fallen.ensures.counted in
    let within = prefix_within now c.requires.0 n c.requires.1 in
    let some = within.0 in
    let counted = passed_least before (2 * n) (4 * own) (n + 4 * own) c.fallen_from.new.meter.steps after (omega (arith, some)) c.fallen_from.ensures.least first c.in_ok-failed.ensures.counted (omega arith) in
    subst (λ k. ticked before (n + 4 * k) ≤ after) (sym (own_is now n fallen c.in_ok-fallen.ensures.fallen)) counted
