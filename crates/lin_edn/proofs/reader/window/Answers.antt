use Rattle.std.proofs.Common.{arith}
use Rattle.lin_edn.proofs.Limit.{longest_is}
use Rattle.lin_edn.proofs.reader.window.Goals as goal

pub returns-clause-short : goal.returns-clause-short
returns-clause-short c = omega (arith, longest_is)

pub returns-clause-whole : goal.returns-clause-whole
returns-clause-whole c = λ i a b. omega (arith, longest_is)
