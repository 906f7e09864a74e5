use Rattle.std.proofs.Common.{codes}
use Rattle.lin_certificate_lines.specs.Telling.{end_spot, in_turn_text}
use Rattle.lin_certificate_lines.proofs.Chains.{puts5}
use Rattle.lin_certificate_lines.proofs.registers.put_pair.Goals as goal

pub returns : goal.returns
returns c =
    let told = c.args.told.now in
    puts5 c.args.text.now.items
    (codes "  ")
    (in_turn_text told c.args.pair.0 c.args.pair.1)
    (codes " and returned at ")
    (end_spot told c.args.pair.1)
    (codes "\n")
    _ _ _ _ _
    c.in_ok-extend_from_slice.ensures.items
    c.in_ok-put_in_turn.ensures
    c.in_ok-extend_from_slice-2.ensures.items
    c.in_ok-put_end_spot.ensures
    c.in_ok-push.ensures.items
