use Rattle.lin_order.specs.lemmas.Prefixes.{prefixes_by_lem}
use Rattle.lin_order.proofs.configurations.prefixes_are_linearizable_by.Goals as goal

pub returns : goal.returns
returns g c = prefixes_by_lem _ _
