use Rattle.lin_certificate_lines.proofs.registers.put_members_why.Goals as goal

pub returns : goal.returns
returns c =
    c.in_ok-extend_from_slice.ensures.items
