use Rattle.std.proofs.Common.{◌∷◌, ◌++◌, ◌+◌, ◌≤◌, [], ◌∙◌, ap, length, refl, slice_get, sym, subst, take}
use Rattle.std.proofs.lemmas.Option.{slice_get_read}
use Rattle.lin_compressed_frontier.proofs.Shadowing.{ArePicked, picked_next, picked_pass, picked_all}
use Rattle.lin_compressed_frontier.proofs.thinning.pick_members.Goals.{in-Some+in_ok-copy+in_ok-push_member, in_default}
use Rattle.lin_compressed_frontier.proofs.thinning.pick_members.Goals as goal

pub loop-other-preserved : goal.loop-other-preserved
loop-other-preserved g c =
    let xs = c.args.members.now in
    let others = c.args.others.now in
    let at = c.loop-other.other-index in
    let o = c.other-item.result in
    elim c.match-get.branch [
      | in-Some+in_ok-copy+in_ok-push_member w ↦
          let a = w.in-Some.ensures.lookup in
          let m = w.in-Some.member.now in
          let stands = ap (λ p. slice_get xs p.node) (sym c.path.ensures) ∙ slice_get_read xs (length xs) c.path.result.node m refl a.3.0 a.1 in
          subst (λ l. ArePicked xs (take (at + 1) others) l.items) (sym w.out-is)
          (picked_next xs others at o c.loop-other-test.true c.other-item.is c.loop-other.out.items w.push_member.new.members.items m stands (c.path.result.node, a.3.0, sym a.1)
          (w.in_ok-push_member.ensures ∙ ap (λ k. c.loop-other.out.items ++ k ∷ []) w.in_ok-copy.ensures) c.loop-other.invariant)
      | in_default w ↦ subst (λ l. ArePicked xs (take (at + 1) others) l.items) (sym w.out-is)
          (picked_pass xs others at o c.loop-other-test.true c.other-item.is c.loop-other.out.items (subst (λ p. length xs ≤ p.node) c.path.ensures w.in_default.ensures.lookup.3) c.loop-other.invariant)
    ]

pub returns-clause-complete : goal.returns-clause-complete
returns-clause-complete g c = (picked_all c.args.members.now c.args.others.now c.loop-other.other-index c.loop-other.out.items c.loop-other-test.false c.loop-other.invariant).complete
