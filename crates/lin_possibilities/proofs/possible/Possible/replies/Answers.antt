use Rattle.std.proofs.Common.{◌≡◌, ◌≤◌, length, ◌∙◌, Some, ap, slice_get, subst, sym, Contains}
use Rattle.std.proofs.lemmas.Option.{slice_get-get_or}
use Rattle.std.proofs.lemmas.List.{take_all}
use Rattle.lin_members.specs.declared.members.Path.{Path}
use Rattle.lin_possibilities.specs.After.{IsWay}
use Rattle.lin_possibilities.specs.Possible.{AreShown, Answers}
use Rattle.lin_possibilities.specs.inner.Gathering.{IsGathered, IsTakenFrom}
use Rattle.lin_possibilities.proofs.Showing.{Led, gathered_next, replies_shown, taken_all}
use Rattle.lin_possibilities.proofs.possible.Possible.replies.Goals as goal

pub loop-member-preserved : goal.loop-member-preserved
loop-member-preserved c =
    let members = c.args.self.now.members.items in
    let m = c.member-item.result in
    let there : slice_get members c.loop-member.member-index ≡ Some m = subst (λ l. slice_get l c.loop-member.member-index ≡ Some m) c.deref-member-items.ensures.value
    (slice_get-get_or c.deref-member-items.result.now c.loop-member.member-index m c.loop-member-test.true ∙ ap Some (sym c.member-item.is)) in
    gathered_next (λ (n : Led). λ reply. Contains n.0.placed (c.args.process, reply)) members c.loop-member.member-index m c.loop-member.found.entries c.put_replies.new.found.entries there
    (subst (λ (p : Path). IsTakenFrom (λ (n : Led). λ reply. Contains n.0.placed (c.args.process, reply)) m p.node c.loop-member.found.entries c.put_replies.new.found.entries) c.path-way.ensures
    (taken_all c.args.process c.path-way.result.node m c.placed.result.now c.loop-member.found.entries c.put_replies.new.found.entries c.placed.ensures c.in_ok-put_replies.ensures))
    c.loop-member.invariant

pub returns : goal.returns
returns c = λ functions kind h well after live.
    let members = c.args.self.now.members.items in
    let gathered = subst (λ l. IsGathered (λ (n : Led). λ reply. Contains n.0.placed (c.args.process, reply)) l c.loop-member.found.entries) (take_all c.loop-member.member-index members (subst (λ l. length l ≤ c.loop-member.member-index) c.deref-member-items.ensures.value c.loop-member-test.false)) c.loop-member.invariant in
    subst (AreShown (Answers kind h c.args.process) (IsWay c.args.self.now)) (sym c.in_ok-entries.ensures)
    (replies_shown c.args.self.now kind h after (c.each_order_ends.ensures kind) functions well c.args.process live c.loop-member.found.entries gathered)
