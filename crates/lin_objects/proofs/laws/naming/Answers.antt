use Rattle.lin_objects.proofs.Lookups as Law
use Rattle.lin_objects.proofs.laws.naming.Goals as goal

pub returns-clause-kinds : goal.returns-clause-kinds
returns-clause-kinds c = Law.changes_one_kind

pub returns-clause-names : goal.returns-clause-names
returns-clause-names c = Law.names_one_key
