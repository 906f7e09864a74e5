use Rattle.std.proofs.Common.{◌∙◌, [], ap, unwrap_or}
use Rattle.clap.proofs.WalkLemmas.{raw_values-rows}
use Rattle.clap.specs.Words.{found_of}
use Rattle.lin_program.specs.CommandLine.{input_count}
use Rattle.lin_program.proofs.said.inputs_at.Goals as goal

pub returns-in-Some-clause-count : goal.returns-in-Some-clause-count
returns-in-Some-clause-count c =
    c.input_count.ensures.count ∙ ap (λ o. input_count (unwrap_or o [])) (c.in-Some.ensures ∙ raw_values-rows (found_of c.args.matches.now) c.args.name.now)

pub returns-in-None-clause-count : goal.returns-in-None-clause-count
returns-in-None-clause-count c = ap (λ o. input_count (unwrap_or o [])) (c.in-None.ensures ∙ raw_values-rows (found_of c.args.matches.now) c.args.name.now)
