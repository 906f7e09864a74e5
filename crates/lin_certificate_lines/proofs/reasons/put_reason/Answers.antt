use Rattle.std.proofs.Common.{◌++◌, ◌∙◌, Contains, ap, subst}
use Rattle.lin_certificate_lines.specs.Groups.{IsListing}
use Rattle.lin_certificate_lines.proofs.reasons.put_reason.Goals as goal

pub returns : goal.returns
returns c =
    let made = c.in_ok-put_any_reason.ensures in
    let more = made.1 in
    (made.0, more, made.2, made.4, subst (λ l. IsListing (Contains l) c.in_order.result.items) (made.3 ∙ ap (λ l. l ++ more) c.new-named.ensures.items) c.in_order.ensures)
