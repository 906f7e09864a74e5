use Rattle.std.proofs.Common.{sym, ◌∙◌, true≢false}
use Rattle.lin_members.proofs.domination.covers.Goals as goal

pub returns-then-not-may_cover : goal.returns-then-not-may_cover
returns-then-not-may_cover g c =
    let part = rw (c.pairs.ensures, c.pairs-2.ensures) at c.may_cover.ensures in (
      λ t. absurd (true≢false (sym t)),
      λ d. absurd (true≢false (sym (part d.part d.rest) ∙ c.if-not-may_cover.true)),
    )

pub returns-then-not-is_same_state : goal.returns-then-not-is_same_state
returns-then-not-is_same_state g c =
    let same = rw (c.state.ensures, c.state-2.ensures) at c.is_same_state.ensures in (
      λ t. absurd (true≢false (sym t)),
      λ d. absurd (true≢false (sym (same.1 d.same) ∙ c.if-not-is_same_state.true)),
    )

pub returns-then-not-is_part : goal.returns-then-not-is_part
returns-then-not-is_part g c =
    let part = rw (c.placed.ensures, c.placed-2.ensures) at c.is_part.ensures in (
      λ t. absurd (true≢false (sym t)),
      λ d. absurd (true≢false (sym (part.1 d.part) ∙ c.if-not-is_part.true)),
    )

pub returns : goal.returns
returns g c =
    let same = rw (c.state.ensures, c.state-2.ensures) at c.is_same_state.ensures in
    let part = rw (c.placed.ensures, c.placed-2.ensures) at c.is_part.ensures in
    let rest = rw (c.placed-3.ensures, c.placed-4.ensures) at c.is_part_but_crashed.ensures in (
      λ t. record { same = same.0 c.if-not-is_same_state.false; part = part.0 c.if-not-is_part.false; rest = rest.0 t },
      λ d. rest.1 d.rest,
    )
