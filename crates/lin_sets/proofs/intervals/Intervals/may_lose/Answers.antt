use Rattle.std.proofs.Common.{◌≤◌, ◌∙◌, subst}
use Rattle.lin_sets.proofs.Learning.{one_place}
use Rattle.lin_sets.proofs.intervals.Intervals.may_lose.Goals as goal

pub returns-then-next-end-clause-may : goal.returns-then-next-end-clause-may
returns-then-next-end-clause-may c = λ may listed rising end known.
    (c.in-Some-next.next, c.in-Some-next.is, subst (λ n. c.in-Some-next.next ≤ n) (one_place (c.in-Some.ensures ∙ known)) c.if-next-end.true, c.may_begin.ensures.may may listed rising)
