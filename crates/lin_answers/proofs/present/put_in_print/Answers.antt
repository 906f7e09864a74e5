use Rattle.std.proofs.Common.{◌∙◌}
use Rattle.lin_names.specs.lemmas.Printed.{printed_same}
use Rattle.lin_answers.proofs.present.put_in_print.Goals as goal

pub returns-then-not-is_in_print-clause-printed : goal.returns-then-not-is_in_print-clause-printed
returns-then-not-is_in_print-clause-printed c =
    c.sort_printed.ensures.sorted ∙ printed_same c.args.names.now c.args.keys.now.items c.sort_printed.new.items.items c.sort_printed.ensures.same
