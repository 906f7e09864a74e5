use Rattle.std.proofs.Common.{subst}
use Rattle.lin_names.specs.Names.{AreEachOnce}
use Rattle.lin_names.proofs.Spellings.{once_in}
use Rattle.lin_names.proofs.names.Names.len.Goals as goal

pub returns-clause-once : goal.returns-clause-once
returns-clause-once c = subst AreEachOnce c.self.view_is (once_in c.self.inside.spellings.keys c.len.ensures.unique)
