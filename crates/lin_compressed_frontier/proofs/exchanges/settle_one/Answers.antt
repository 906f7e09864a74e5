use Rattle.std.proofs.Common.{◌∙◌, ap, map, sym, subst}
use Rattle.std.proofs.lemmas.Result.{IfOk-weaker}
use Rattle.lin_frontier.specs.Placing.{IsAbsent}
use Rattle.lin_members.specs.Settling.{renamed_pair, IsRenamed, more}
use Rattle.lin_compressed_frontier.proofs.exchanges.settle_one.Goals as goal

pub returns-in-Some : goal.returns-in-Some
returns-in-Some c =
    let a = c.in-Some.ensures in
    IfOk-weaker c.rename_process.result _ _ (λ out is first before.
    subst (IsRenamed c.args.pending.now first) (sym (is ∙ ap (λ l. map (renamed_pair c.args.operation.now.process c.in-Some.other.now.process) l) c.as_slice-in-Some.ensures))
    (more before c.requires a.0 a.1 a.2 a.3 (subst (λ l. IsAbsent c.in-Some.other.now.process l) c.as_slice.ensures a.4))) c.rename_process.ensures
