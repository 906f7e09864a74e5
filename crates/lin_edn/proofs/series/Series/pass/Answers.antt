use Rattle.lin_edn.proofs.Rows.{row_passed}
use Rattle.lin_edn.proofs.series.Series.pass.Goals as goal

pub returns-clause-row : goal.returns-clause-row
returns-clause-row c = λ s vs ws row within short passed. row_passed c.args.self.now s vs ws c.args.until row within short passed
