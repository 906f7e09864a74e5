use Rattle.lin_session.proofs.Found.{found_at, not_found}
use Rattle.lin_session.proofs.kept.Objects.find.Goals as goal

pub returns-in_default-clause-found : goal.returns-in_default-clause-found
returns-in_default-clause-found c = found_at c.args.self.now.keys.keys c.args.key _ c.get_index_of.ensures.index

pub returns-in_default-clause-none : goal.returns-in_default-clause-none
returns-in_default-clause-none c = not_found c.args.self.now.keys.keys c.args.key _ c.get_index_of.ensures.found
