-- What is right to answer is one: the laws of answers.
use Rattle.std.specs.Prelude.{◌≡◌, ℕ, List}
use Rattle.lin_events.specs.declared.events.Event.{Event}
use Rattle.lin_objects.specs.declared.kinds.Kinds.{Kinds}
use Rattle.lin_answers.specs.Answers.{IsVerdict}
use Rattle.lin_answers.specs.declared.answers.Scope.{Scope}
use Rattle.lin_answers.specs.declared.answers.Verdict.TheVariants.{Yes, No}

-- whatever the budgets: where a yes is right, no no is
abbrev pub YesExcludesNo : Type 0
YesExcludesNo = (h : List Event) (kinds : Kinds) (budget other : ℕ) (scope : Scope) (n : ℕ)
    → IsVerdict (record { history = h; kinds = kinds; budget = budget }) scope Yes
    → IsVerdict (record { history = h; kinds = kinds; budget = other }) scope (No n) → ⊥

-- and of all that are a no, one length is right
abbrev pub NoTellsOnePrefix : Type 0
NoTellsOnePrefix = (h : List Event) (kinds : Kinds) (budget other : ℕ) (scope : Scope) (n m : ℕ)
    → IsVerdict (record { history = h; kinds = kinds; budget = budget }) scope (No n)
    → IsVerdict (record { history = h; kinds = kinds; budget = other }) scope (No m) → n ≡ m
