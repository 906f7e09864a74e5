use Rattle.std.proofs.Common.{◌∙◌}
use Rattle.lin_members.specs.Asking.{early_of}
use Rattle.lin_compressed_frontier.proofs.completions.Completion.ask_all_ahead.Goals as goal

pub ask_all_beside-requires-clause-before : goal.ask_all_beside-requires-clause-before
ask_all_beside-requires-clause-before g c = c.of-before.ensures ∙ c.deref.ensures.value ∙ c.in_ok-operations.ensures ∙ (λ i. early_of (c.path.ensures i).until (c.as_slice.ensures i))
