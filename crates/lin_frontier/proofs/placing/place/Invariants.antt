use Rattle.std.proofs.Common.{◌≡◌, ◌+◌, length, vec_len}
use Rattle.lin_frontier.specs.Placing.{insert_pair}
use Rattle.lin_frontier.specs.lemmas.Trying.{IsTrying}
use Rattle.lin_frontier.proofs.placing.place.Given as goal

abbrev pub invariant-loop-state : goal.invariant-loop-state
invariant-loop-state g l = record {
  trying : IsTrying (λ a. g.O.SeqObject.step l.object l.config.0 l.operation.call a.0 a.1) (λ a. ((a.0, insert_pair l.operation.process a.1 l.config.1), (record { at = l.operation.at; reply = a.1 })))
      l.fn.out.items l.steps.items l.out.items;
  counted : length l.out.items + length l.steps.items ≡ length l.fn.out.items + length l.initial.steps.items;
}

abbrev pub decreases-loop-state : goal.decreases-loop-state
decreases-loop-state g l = vec_len l.steps
