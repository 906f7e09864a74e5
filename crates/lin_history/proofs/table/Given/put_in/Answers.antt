use Rattle.std.proofs.Common.{option_map, sym, ap}
use Rattle.lin_names.specs.Spelled.{numbered, seen}
use Rattle.lin_history.proofs.Saying.{item_takes}
use Rattle.lin_history.proofs.table.Given.put_in.Goals as goal

pub returns-in-Err-clause-item : goal.returns-in-Err-clause-item
returns-in-Err-clause-item c = λ m agrees. (
  numbered m.number (seen c.in-Some.said),
  ap (option_map (numbered m.number)) (sym c.in-Some.ensures),
  item_takes m.number (seen c.in-Some.said) c.in-Err.ensures.word,
)
