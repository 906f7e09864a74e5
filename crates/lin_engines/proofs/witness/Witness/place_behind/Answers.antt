use Rattle.std.proofs.Common.{ℕ, List, Contains, sym, subst}
use Rattle.lin_events.specs.declared.calls.Reply.{Reply}
use Rattle.lin_objects.specs.declared.states.State.{State}
use Rattle.lin_engines.proofs.Growing.{placed_has}
use Rattle.lin_engines.proofs.witness.Witness.place_behind.Goals as goal

pub returns-in_ok-put-in-Some-2-2-clause-placed : goal.returns-in_ok-put-in-Some-2-2-clause-placed
returns-in_ok-put-in-Some-2-2-clause-placed c = λ _.
    let a = c.args.self.now in
    let found = rw c.in-Some-2.is at c.in_ok-first.ensures.placed in
    subst (λ (x : State × List (ℕ × Reply)). Contains x.1 (c.args.operation.now.process, c.args.reply.now)) (sym c.in_ok-put-in-Some-2-2.ensures.next)
    (placed_has a.object.kind c.args.operation.now c.in-Some-2.first.0 c.in-Some-2.second.0 c.in-Some-2.second.1 c.args.reply.now found.1 found.2)
