-- What holds of a reply that tells an answer.
use Rattle.std.proofs.Common.{◌≢◌, ℕ, refl}
use Rattle.lin_answers.specs.declared.answers.Answer.{Answer}
use Rattle.lin_answers.specs.declared.answers.Answer.TheVariants as answer
use Rattle.lin_answers.specs.declared.answers.Verdict.TheVariants as verdict
use Rattle.lin_answers.specs.Answers.{verdict_of}

-- an answer that isn't a no has no verdict that is one
pub never_no : (found : Answer) → ((n : ℕ) → found ≢ answer.No n) → (n : ℕ) → verdict_of found ≢ verdict.No n
never_no (answer.IllFormed at cause) never n e = cc
never_no (answer.Yes order) never n e = cc
never_no (answer.No m) never n e = never m refl
never_no (answer.Undecided at) never n e = cc
