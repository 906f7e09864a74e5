use Rattle.std.proofs.Common.{Some, option_map, subst, sym}
use Rattle.lin_program.specs.Endings.{IsEdited, IsEditedIn}
use Rattle.lin_program.proofs.edit_named.Goals as goal

pub returns-in_default : goal.returns-in_default
returns-in_default g c =
    let empty = subst (λ bytes. IsEdited g.S.System.words g.S.Commands.Read.remaining g.S.Out.Write.contents c.args.system.now c.args.settings (Some bytes) c.edit_on.result)
    c.as_slice.ensures c.edit_on.ensures in
    subst (λ name. IsEditedIn g.S.System.words g.S.File.Read.remaining g.S.Commands.Read.remaining g.S.Out.Write.contents c.args.system.now c.args.settings (option_map (λ n. n.now) name) c.stopped.result)
    (sym c.in_default.is) (c.edit_on.result, empty, c.stopped.ensures)
