use Rattle.std.proofs.Common.{drop, Ok, subst}
use Rattle.lin_edn.specs.Grammar.{longest}
use Rattle.lin_edn.specs.inner.Machine.{run, between}
use Rattle.lin_edn.specs.inner.Scans.{waiting}
use Rattle.lin_edn.specs.inner.Turns.{Answers}
use Rattle.lin_edn.proofs.Rows.{found_if}
use Rattle.lin_edn.proofs.series.element_at.Goals as goal

pub returns : goal.returns
returns c =
    let s = c.args.input.now in
    let from = c.args.from in
    let two = c.args.is_tagged in
    found_if two s from c.unwrapped.result (c.unwrapped.ensures (run longest from (waiting two) between (drop from s))
    (subst (λ fs. Answers (run longest from fs between (drop from s)) (Ok c.in_ok-scan_on.field-0)) c.in_ok-stack.ensures c.in_ok-scan_on.ensures))
