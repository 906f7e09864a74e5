use Rattle.lin_order.specs.lemmas.Prefixes.{prefixes_whole_lem, prefixes_for_lem}
use Rattle.lin_order.proofs.laws.prefixes_are_linearizable.Goals as goal

pub returns-clause-whole : goal.returns-clause-whole
returns-clause-whole c = prefixes_whole_lem

pub returns-clause-object : goal.returns-clause-object
returns-clause-object c = prefixes_for_lem
