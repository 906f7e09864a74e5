use Rattle.std.proofs.Common.{◌≡◌, ◌≤◌, length, ◌∙◌, Some, ap, slice_get, subst, sym}
use Rattle.std.proofs.lemmas.Option.{slice_get-get_or}
use Rattle.std.proofs.lemmas.List.{take_all}
use Rattle.lin_members.specs.declared.members.Path.{Path}
use Rattle.lin_possibilities.specs.After.{IsWay}
use Rattle.lin_possibilities.specs.Possible.{AreShown, LeavesIn}
use Rattle.lin_possibilities.specs.inner.Gathering.{IsGathered, IsTakenFrom}
use Rattle.lin_possibilities.proofs.Showing.{Led, gathered_next, states_shown, taken_put}
use Rattle.lin_possibilities.proofs.possible.Possible.states.Goals as goal

pub loop-member-preserved : goal.loop-member-preserved
loop-member-preserved c =
    let members = c.args.self.now.members.items in
    let m = c.member-item.result in
    let there : slice_get members c.loop-member.member-index ≡ Some m = subst (λ l. slice_get l c.loop-member.member-index ≡ Some m) c.deref-member-items.ensures.value
    (slice_get-get_or c.deref-member-items.result.now c.loop-member.member-index m c.loop-member-test.true ∙ ap Some (sym c.member-item.is)) in
    let same : c.in_ok-state.state ≡ m.0.state = c.in_ok-state.ensures ∙ c.state.ensures in
    gathered_next (λ (n : Led). λ state. n.0.state ≡ state) members c.loop-member.member-index m c.loop-member.found.entries c.put_state.new.found.entries there
    (subst (λ (p : Path). IsTakenFrom (λ (n : Led). λ state. n.0.state ≡ state) m p.node c.loop-member.found.entries c.put_state.new.found.entries) c.path.ensures
    (taken_put (λ (n : Led). λ state. n.0.state ≡ state) m c.path.result.node c.in_ok-state.state c.loop-member.found.entries c.put_state.new.found.entries (sym same) (λ other e. same ∙ e) c.in_ok-put_state.ensures))
    c.loop-member.invariant

pub returns : goal.returns
returns c = λ functions kind h well after.
    let members = c.args.self.now.members.items in
    let gathered = subst (λ l. IsGathered (λ (n : Led). λ state. n.0.state ≡ state) l c.loop-member.found.entries) (take_all c.loop-member.member-index members (subst (λ l. length l ≤ c.loop-member.member-index) c.deref-member-items.ensures.value c.loop-member-test.false)) c.loop-member.invariant in
    subst (AreShown (LeavesIn kind h) (IsWay c.args.self.now)) (sym c.in_ok-entries.ensures)
    (states_shown c.args.self.now kind h after (c.each_order_ends.ensures kind) functions well c.replies_decide.ensures c.loop-member.found.entries gathered)
