use Rattle.std.proofs.Common.{◌≤◌, ◌∙◌, ◌∷◌, ◌++◌, [], take, ap, sym, subst, add-one}
use Rattle.std.proofs.lemmas.List.{take_all}
use Rattle.lin_lists.specs.lemmas.Lists.{take_next}
use Rattle.lin_possibilities.proofs.run.members_of.Goals as goal

pub loop-at-preserved : goal.loop-at-preserved
loop-at-preserved c =
    let frontier = c.args.frontier.now in
    c.in_ok-push_member.ensures ∙ (λ i. c.loop-at.invariant i ++ c.in_ok-copy.ensures i ∷ []) ∙ sym (ap (λ n. take n frontier) (add-one c.loop-at.at) ∙ take_next c.loop-at.at frontier c.in-Some.member.now c.in-Some.ensures.found)

pub returns : goal.returns
returns c = c.loop-at.invariant ∙ take_all c.loop-at.at c.args.frontier.now (subst (λ n. n ≤ c.loop-at.at) c.len-at-end.ensures c.loop-at-test.false)
