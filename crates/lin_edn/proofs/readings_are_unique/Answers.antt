use Rattle.lin_edn.proofs.Unique.{unique, one_value}
use Rattle.lin_edn.proofs.readings_are_unique.Goals as goal

pub returns : goal.returns
returns c = record {
  readings = unique;
  values = one_value;
}
