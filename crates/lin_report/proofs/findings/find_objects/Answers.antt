use Rattle.std.proofs.Common.{◌+◌, ◌∙◌, get_or, pos, refl, subst, sym, take}
use Rattle.lin_events.specs.declared.items.Item.TheVariants.{Int}
use Rattle.lin_answers.specs.Answers.{IsVerdict}
use Rattle.lin_answers.specs.Edits.{Present}
use Rattle.lin_answers.specs.declared.answers.Scope.TheVariants.{Object}
use Rattle.lin_report.specs.Reports.{AreFindings}
use Rattle.lin_report.proofs.ObjectFindings.{one_more_found}
use Rattle.lin_report.proofs.Still.{still_more}
use Rattle.lin_report.proofs.findings.find_objects.Goals as goal

pub returns-in_err-verdict-clause-still : goal.returns-in_err-verdict-clause-still
returns-in_err-verdict-clause-still c =
    still_more (get_or c.args.keys.now c.loop-key.key-index (Int (pos 0))) c.args.session.now c.loop-key.session c.ask.new.self c.loop-key.invariant.still c.ask.ensures.question c.ask.ensures.present

pub returns-in_err-push-clause-still : goal.returns-in_err-push-clause-still
returns-in_err-push-clause-still c =
    still_more (get_or c.args.keys.now c.loop-key.key-index (Int (pos 0))) c.args.session.now c.loop-key.session c.ask.new.self c.loop-key.invariant.still c.ask.ensures.question c.ask.ensures.present

pub loop-key-preserved : goal.loop-key-preserved
loop-key-preserved c =
    let now = c.args.session.now.present in
    let keys = c.args.keys.now in
    let at = c.loop-key.key-index in
    let key = get_or keys at (Int (pos 0)) in
    let verdict = c.in_ok-verdict.verdict in
    let right = subst (λ (present : Present). IsVerdict present (Object key) verdict) c.loop-key.invariant.present c.in_ok-verdict.ensures.verdict in
    record {
      found = subst (AreFindings now (take (at + 1) keys)) (sym c.in_ok-push.ensures.items)
          (one_more_found now keys at key c.loop-key.found.items verdict c.loop-key-test.true refl c.loop-key.invariant.found right);
      present = c.ask.ensures.present ∙ c.loop-key.invariant.present;
      still = still_more key c.args.session.now c.loop-key.session c.ask.new.self c.loop-key.invariant.still c.ask.ensures.question c.ask.ensures.present;
    }
