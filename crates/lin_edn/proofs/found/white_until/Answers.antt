use Rattle.lin_edn.specs.Grammar.{no_blank}
use Rattle.lin_edn.proofs.Standing.{with_blanks, white_short, white_blanks}
use Rattle.lin_edn.proofs.found.white_until.Goals as goal

pub returns-clause-short : goal.returns-clause-short
returns-clause-short c = white_short c.args.input.now c.args.from c.white_end.result c.args.end c.white_end.ensures c.requires.inside

pub returns-clause-blanks : goal.returns-clause-blanks
returns-clause-blanks c = λ n. white_blanks c.args.input.now c.args.from c.args.from c.white_end.result c.args.end c.white_end.ensures c.requires.inside n no_blank

pub returns-clause-row : goal.returns-clause-row
returns-clause-row c = λ n p t vs row. with_blanks row (returns-clause-blanks c n)
