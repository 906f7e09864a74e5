use Rattle.lin_names.specs.Names.{number_of}
use Rattle.lin_formats.proofs.reading.some_numbering.Goals as goal

pub returns-clause-numbering : goal.returns-clause-numbering
returns-clause-numbering c = (number_of c.args.names.now, c.names_grow.ensures.agree c.args.names.now c.len.ensures.once)
