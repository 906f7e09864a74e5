use Rattle.std.proofs.Common.{refl, ap}
use Rattle.lin_edn.proofs.Skims.{none_seen}
use Rattle.lin_edn.specs.Skimming.{shapes_of}
use Rattle.lin_edn.proofs.skim.Skim.clear.Goals as goal

pub returns : goal.returns
returns c = (refl, none_seen (shapes_of c.clear.new.self.items) (ap shapes_of c.clear.ensures))
