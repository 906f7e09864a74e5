use Rattle.std.proofs.Common.{◌∙◌, sym}
use Rattle.lin_edn.proofs.Flat.{outermost_first}
use Rattle.lin_edn.proofs.reader.outermost.Goals as goal

pub returns-in-Some : goal.returns-in-Some
returns-in-Some c = c.opened_at.ensures ∙ sym (outermost_first c.args.at c.args.stack.now c.in-Some.frame.now c.in-Some.ensures.value)
