use Rattle.std.proofs.Common.{rules}
use Rattle.lin_tables.proofs.Letters.{letter_from_here, letter_on, none_from}
use Rattle.lin_tables.proofs.spellings.letter_from.Goals as goal

pub loop-at-preserved : goal.loop-at-preserved
loop-at-preserved c = search (rules, letter_on)

pub returns-else-not-may_begin-clause-letter : goal.returns-else-not-may_begin-clause-letter
returns-else-not-may_begin-clause-letter c = search (rules, letter_from_here)

pub returns-after-loop-at-clause-letter : goal.returns-after-loop-at-clause-letter
returns-after-loop-at-clause-letter c = search (rules, none_from)
