use Rattle.std.proofs.Common.{codes}
use Rattle.lin_tables.specs.Operations.{name_text}
use Rattle.lin_certificate_lines.specs.Lines.{past_text, turn_text}
use Rattle.lin_certificate_lines.specs.Telling.{called_text}
use Rattle.lin_certificate_lines.proofs.Chains.{puts9}
use Rattle.lin_certificate_lines.proofs.locks.put_twice_by.Goals as goal

pub returns : goal.returns
returns c =
    let told = c.args.told.now in
    puts9 c.args.text.now.items
    (codes "why: ")
    (past_text c.args.words.0)
    (codes " twice\n")
    (turn_text told (codes "  ") c.args.first c.args.second)
    (codes "  no ")
    (name_text c.args.words.1)
    (codes " can stand between: each that didn't fail had returned before ")
    (called_text told c.args.first)
    (codes "\n")
    _ _ _ _ _ _ _ _ _
    c.in_ok-extend_from_slice.ensures.items
    c.in_ok-put_past.ensures
    c.in_ok-extend_from_slice-2.ensures.items
    c.in_ok-put_turn.ensures
    c.in_ok-extend_from_slice-3.ensures.items
    c.in_ok-put_name.ensures
    c.in_ok-extend_from_slice-4.ensures.items
    c.in_ok-put_called.ensures
    c.in_ok-push.ensures.items
