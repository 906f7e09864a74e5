use Rattle.std.proofs.Common.{◌≡◌, sym, ◌∙◌, arith}
use Rattle.std.proofs.lemmas.Option.{none-some, slice_get_within}
use Rattle.lin_answers.specs.declared.answers.Verdict.TheVariants.{Undecided}
use Rattle.lin_session.specs.inner.Objects.{marks_in}
use Rattle.lin_session.proofs.Asking.{told_undecided}
use Rattle.lin_session.proofs.Knowing.{told_whole}
use Rattle.lin_session.proofs.Wholes.{told_is}
use Rattle.lin_session.proofs.kept.Objects.judge_whole.Goals as goal

pub returns-clause-verdict : goal.returns-clause-verdict
returns-clause-verdict c = λ kinds kept fine.
    let h = c.args.events.now in
    let keys = c.args.self.now.keys.keys in
    told_is c.linearizability_is_local.ensures c.absent_keys_are_legal.ensures c.prefixes_are_linearizable.ensures.object c.parts_keep_orders.ensures.linearizable c.beginnings_are_well_formed.ensures
    kinds c.args.budget h fine keys (λ at event stands. kept.known at event (let below = slice_get_within h at event stands in omega (arith, below, c.requires.split)) stands)
    c.in_ok-failing.failing c.in_ok-failing.over (c.in_ok-failing.ensures.found kinds kept fine) c.verdict_of_findings.result c.verdict_of_findings.ensures

pub returns-clause-told : goal.returns-clause-told
returns-clause-told c =
    told_whole c.args.events.now (marks_in c.judge_all.new.self) c.in_ok-failing.failing c.in_ok-failing.over c.verdict_of_findings.result c.in_ok-failing.ensures.alive c.in_ok-failing.ensures.dead c.in_ok-failing.ensures.over c.verdict_of_findings.ensures

pub returns-clause-decided : goal.returns-clause-decided
returns-clause-decided c = λ kinds kept exact many at is_over.
    let told : c.verdict_of_findings.result ≡ Undecided at = cc is_over in
    let over = told_undecided c.in_ok-failing.failing c.in_ok-failing.over c.verdict_of_findings.result at c.verdict_of_findings.ensures told in
    none-some at (sym (c.in_ok-failing.ensures.decided kinds kept exact many) ∙ over)
