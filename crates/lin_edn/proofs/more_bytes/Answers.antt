use Rattle.lin_edn.specs.lemmas.Longer.{spelled_stays, blanks_stay}
use Rattle.lin_edn.proofs.Rows.{row_more}
use Rattle.lin_edn.proofs.Unique.{fault_stays}
use Rattle.lin_edn.proofs.more_bytes.Goals as goal

pub returns : goal.returns
returns c = record {
  spelled = λ s x v at used h. spelled_stays h x;
  passed = λ s x t n h. blanks_stay h x;
  faulty = fault_stays;
  row = row_more;
}
