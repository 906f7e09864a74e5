use Rattle.std.proofs.Common.{◌≡◌, Some, length, slice_get, sym, ap, ◌∙◌, subst, arith, take, drop, All}
use Rattle.std.proofs.lemmas.List.{length_push}
use Rattle.std.proofs.lemmas.Option.{slice_get-get_or}
use Rattle.lin_frontier.specs.Opens.{open_at}
use Rattle.lin_frontier.proofs.Holding.{HasCrashed, IsAlive, end_holds}
use Rattle.lin_frontier.proofs.Marks.{ended_gone, ended_kept, pending_permuted}
use Rattle.lin_frontier.proofs.opens.OpenList.end.Goals as goal
use Rattle.lin_frontier.proofs.opens.OpenList.end.Goals.{After-remove-operation}

holds : (c : After-remove-operation) → All HasCrashed (take c.args.self.now.crashed c.remove-operation.new.self.items) × All IsAlive (drop c.args.self.now.crashed c.remove-operation.new.self.items)
holds c =
    let self = c.args.self.now in
    let both = end_holds self.operations.items self.crashed c.args.place c.requires.after self.in_front self.behind in (
      subst (λ l. All HasCrashed (take self.crashed l)) (sym c.remove-operation.ensures.items) both.0,
      subst (λ l. All IsAlive (drop self.crashed l)) (sym c.remove-operation.ensures.items) both.1,
    )

there : (c : After-remove-operation) → slice_get c.args.self.now.operations.items c.args.place ≡ Some c.remove-operation.result
there c =
    let self = c.args.self.now in
    slice_get-get_or self.operations.items c.args.place c.remove-operation.result (omega (arith, c.requires.inside, self.operations.ok.0)) ∙ ap Some (sym c.remove-operation.ensures.value)

pub invariant_of-self : goal.invariant_of-self
invariant_of-self c =
    let both = holds (goal.at.invariant_of-self c).After-remove-operation in
    record {
      within = omega (arith, c.requires.after, c.requires.inside, c.remove-operation.ensures.len);
      in_front = both.0;
      behind = both.1;
      room = omega (arith, c.args.self.now.room, c.requires.inside, c.remove-operation.ensures.len, c.remove-operation.ensures.capacity, c.push_reserved.ensures.len);
    }

pub invariant_of-self-else-operation-self : goal.invariant_of-self-else-operation-self
invariant_of-self-else-operation-self c =
    let both = holds (goal.at.invariant_of-self-else-operation-self c).After-remove-operation in
    record {
      within = omega (arith, c.requires.after, c.requires.inside, c.remove-operation.ensures.len);
      in_front = both.0;
      behind = both.1;
      room = omega (arith, c.args.self.now.room, c.remove-operation.ensures.len, c.remove-operation.ensures.capacity);
    }

pub returns-then-operation-self-clause-past : goal.returns-then-operation-self-clause-past
returns-then-operation-self-clause-past c = λ h earlier mark past.
    let self = c.args.self.now in
    let moved = ended_kept earlier self.operations.items self.ended.items c.args.place c.remove-operation.result mark (omega (arith, past.crashed, c.requires.after)) past.ended (there (goal.at.returns-then-operation-self-clause-past c).After-remove-operation) in
    let long = ap length c.push_reserved.ensures.items in
    record {
      marked = past.marked;
      crashed = past.crashed;
      ended = omega (arith, past.ended, long, length_push self.ended.items c.remove-operation.result);
      open_then = pending_permuted (take earlier h) (open_at self earlier mark) _ (rw (sym c.push_reserved.ensures.items) at (rw (sym c.remove-operation.ensures.items) at moved)) past.open_then;
    }

pub returns-else-operation-self-clause-past : goal.returns-else-operation-self-clause-past
returns-else-operation-self-clause-past c = λ h earlier mark past.
    let self = c.args.self.now in
    let moved = ended_gone earlier self.operations.items self.ended.items c.args.place c.remove-operation.result mark (omega (arith, past.crashed, c.requires.after)) (omega (arith, past.marked, c.if-operation-self.false))
    (there (goal.at.returns-else-operation-self-clause-past c).After-remove-operation) in
    record {
      marked = past.marked;
      crashed = past.crashed;
      ended = past.ended;
      open_then = pending_permuted (take earlier h) (open_at self earlier mark) _ (rw (sym c.remove-operation.ensures.items) at moved) past.open_then;
    }
