use Rattle.std.proofs.Common.{◌≡◌, ◌+◌, true, Some, set, refl, sym, ap, ◌∙◌, subst, arith, take, drop, All}
use Rattle.std.specs.List.{swap}
use Rattle.std.proofs.lemmas.Option.{slice_get-get_or, get_or_from_slice_get}
use Rattle.lin_frontier.specs.declared.pending.Open.{Open}
use Rattle.lin_frontier.specs.Opens.{open_at}
use Rattle.lin_frontier.proofs.Holding.{HasCrashed, IsAlive, crash_holds}
use Rattle.lin_frontier.proofs.Marks.{crashed_kept, pending_permuted}
use Rattle.lin_frontier.proofs.opens.OpenList.crash.Goals as goal
use Rattle.lin_frontier.proofs.opens.OpenList.crash.Goals.{After-swap}

-- what is moved
is : (c : After-swap) → c.swap.new.self.items ≡ swap (set c.args.self.now.operations.items c.args.place (record c.index_mut.result.now { crashed = true })) c.args.self.now.crashed c.args.place
is c = c.swap.ensures.items

pub invariant_of-self : goal.invariant_of-self
invariant_of-self c =
    let self = c.args.self.now in
    let made = is (goal.at.invariant_of-self c).After-swap in
    let both = crash_holds self.operations.items self.crashed c.args.place (record c.index_mut.result.now { crashed = true }) c.requires.after (omega (arith, c.requires.inside, self.operations.ok.0)) refl self.in_front self.behind in
    record {
      within = omega (arith, c.requires.after, c.requires.inside, c.swap.ensures.len);
      in_front = subst (λ l. All HasCrashed (take (self.crashed + 1) l)) (sym made) both.0;
      behind = subst (λ l. All IsAlive (drop (self.crashed + 1) l)) (sym made) both.1;
      room = omega (arith, self.room, c.swap.ensures.len, c.swap.ensures.capacity);
    }

pub returns-clause-operations : goal.returns-clause-operations
returns-clause-operations c = λ o at.
    let self = c.args.self.now in
    is (goal.at.returns-clause-operations c).After-swap ∙ ap (λ (x : Open). swap (set self.operations.items c.args.place (record x { crashed = true })) self.crashed c.args.place)
    (c.index_mut.ensures.value ∙ get_or_from_slice_get self.operations.items c.args.place o c.index_mut.result.now at)

pub returns-clause-past : goal.returns-clause-past
returns-clause-past c = λ h earlier mark past.
    let self = c.args.self.now in
    let xs = self.operations.items in
    let o = c.index_mut.result.now in
    let at = slice_get-get_or xs c.args.place o (omega (arith, c.requires.inside, self.operations.ok.0)) ∙ ap Some (sym c.index_mut.ensures.value) in
    let moved = crashed_kept earlier xs self.ended.items self.crashed c.args.place o (record o { crashed = true }) mark past.crashed c.requires.after at refl in
    record {
      marked = past.marked;
      crashed = omega (arith, past.crashed);
      ended = past.ended;
      open_then = pending_permuted (take earlier h) (open_at self earlier mark) _ (rw (sym (is (goal.at.returns-clause-past c).After-swap)) at moved) past.open_then;
    }
