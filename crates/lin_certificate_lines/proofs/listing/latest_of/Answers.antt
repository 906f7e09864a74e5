use Rattle.std.proofs.Common.{◌≡◌, ◌∙◌, ap, arith, length, sym}
use Rattle.lin_certificate_lines.proofs.AllListed.{in_parts}
use Rattle.lin_certificate_lines.proofs.listing.latest_of.Goals as goal

pub unreachable-requires : goal.unreachable-requires
unreachable-requires c =
    let none : length c.as_slice.result.now ≡ 0 = c.in_default.ensures.cases in
    let same = ap length c.as_slice.ensures.value in
    let there = (c.in_ok-list.ensures.1 c.requires.some.0).0 c.requires.some.1 in
    let inside = there.1 in
    omega (arith, none, same, inside)

pub returns : goal.returns
returns c =
    let first = c.in-Some.first.now in
    let others = c.in-Some.others.now in
    let all = c.as_slice.ensures.value in
    (c.in_ok-list.ensures.1 c.last_ended.result).1
    (in_parts c.in_ok-list.list.items others first c.last_ended.result (sym all ∙ c.in-Some.ensures.cases.0) c.last_ended.ensures)
