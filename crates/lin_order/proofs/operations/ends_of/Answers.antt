use Rattle.std.proofs.Common.{Some, Vec, Global, Option, ℕ, set, sym, ap, ◌∙◌}
use Rattle.lin_order.specs.lemmas.Lists.{none_if}
use Rattle.lin_order.proofs.Latest.{step_first, step_again, step_latest}
use Rattle.lin_order.proofs.operations.ends_of.Goals as goal
use Rattle.lin_order.proofs.operations.ends_of.Goals.{in-Some, in_default}

pub loop-at-preserved : goal.loop-at-preserved
loop-at-preserved c =
    let h = c.args.events.now in
    let i = c.loop-at.at in
    let event = c.index-events-at.result in
    let is = c.index-events-at.is in
    let was = sym c.in_ok-earlier.ensures.old in
    let pushed = c.in_ok-push.ensures.items in
    let table = c.loop-at.invariant.table in
    let latest = c.loop-at.invariant.latest in
    let now = c.match-earlier.ends.items in
    record {
      table = elim c.match-earlier.branch [
        | in-Some w ↦
            let made = ap (λ (v : Vec (Option ℕ) Global). v.items) w.ends-is in
            let last = ap (λ l. set l w.in-Some.earlier (Some i)) pushed in
            step_again h i event c.loop-at-test.true is _ now _ table latest w.in-Some.earlier (was ∙ w.in-Some.is) (made ∙ last)
        | in_default w ↦
            let made = ap (λ (v : Vec (Option ℕ) Global). v.items) w.ends-is in
            step_first h i event c.loop-at-test.true is _ now _ table latest (was ∙ none_if _ w.in_default.not-Some) (made ∙ pushed)
      ];
      latest = step_latest h i event c.loop-at-test.true is _ _ latest c.in_ok-earlier.ensures.updates.0;
    }
