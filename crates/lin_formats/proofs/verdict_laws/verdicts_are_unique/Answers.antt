use Rattle.lin_names.specs.Names.{number_of}
use Rattle.lin_formats.proofs.Alone.{one_verdict}
use Rattle.lin_formats.proofs.verdict_laws.verdicts_are_unique.Goals as goal

pub returns : goal.returns
returns c = λ names once. one_verdict c.streams_are_unique.ensures c.shapes_are_unique.ensures names (number_of names, c.names_grow.ensures.agree names once)
