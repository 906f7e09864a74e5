use Rattle.lin_order.proofs.Growing.{parts_of_prefixes_lem, prefixes_cut_lem, parts_up_to_lem}
use Rattle.lin_order.proofs.part_laws.parts_of_prefixes.Goals as goal

pub returns-clause-prefixes : goal.returns-clause-prefixes
returns-clause-prefixes c = parts_of_prefixes_lem

pub returns-clause-cut : goal.returns-clause-cut
returns-clause-cut c = prefixes_cut_lem

pub returns-clause-up_to : goal.returns-clause-up_to
returns-clause-up_to c = parts_up_to_lem
