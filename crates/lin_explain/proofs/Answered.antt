-- Where the places that an answer names stand.
use Rattle.std.proofs.Common.{◌<◌, ◌≤◌, ℕ, zero, suc, length, arith}
use Rattle.std.proofs.lemmas.Option.{slice_get_within}
use Rattle.lin_events.specs.declared.shapes.Cause.{Cause}
use Rattle.lin_answers.specs.Answers.{IsAnswer}
use Rattle.lin_answers.specs.Edits.{Present}
use Rattle.lin_answers.specs.declared.answers.Answer.TheVariants.{IllFormed, No, Undecided}
use Rattle.lin_answers.specs.declared.answers.Scope.{Scope}
use Rattle.lin_answers.specs.declared.answers.Scope.TheVariants.{Object, Whole}

pub bad_within : (now : Present) (scope : Scope) (at : ℕ) (cause : Cause) → IsAnswer now scope (IllFormed at cause) → at < length now.history
bad_within now scope at cause answer = slice_get_within now.history at answer.0.event answer.0.stands

pub over_within : (now : Present) (scope : Scope) (at : ℕ) → IsAnswer now scope (Undecided at) → at < length now.history
over_within now (Object key) at answer = slice_get_within now.history at answer.1.event answer.1.stands
over_within now Whole at answer = slice_get_within now.history at answer.1.2.event answer.1.2.stands

pub prefix_within : (now : Present) (scope : Scope) (n : ℕ) → IsAnswer now scope (No n) → (0 < n) × (n ≤ length now.history)
prefix_within now (Object key) zero answer = absurd (answer.1.fails answer.1.before)
prefix_within now (Object key) (suc n) answer = (omega arith, answer.1.within)
prefix_within now Whole zero answer = absurd (answer.1.fails answer.1.before)
prefix_within now Whole (suc n) answer = (omega arith, answer.1.within)
