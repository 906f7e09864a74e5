-- What was possible before a failure, as it is told.
use Rattle.std.specs.Prelude.{◌≡◌, ◌⊎◌, ℕ, List, [], Option, Some, None, map, option_map, take}
use Rattle.lin_events.specs.declared.events.Event.{Event}
use Rattle.lin_objects.specs.Steps.{Step, start}
use Rattle.lin_objects.specs.declared.kinds.Kind.{Kind}
use Rattle.lin_objects.specs.declared.states.State.{State}
use Rattle.lin_order.specs.Configurations.{IsOver}
use Rattle.lin_possibilities.specs.Outcomes.{AreOutcomes, AreStates, Failing}
use Rattle.lin_possibilities.specs.Texts.{outcomes_text, was_text}
use Rattle.lin_possibilities.specs.declared.listing.Listed.{Listed}
use Rattle.lin_possibilities.specs.declared.outcomes.Outcomes.{Outcomes}
use Rattle.lin_tables.specs.Values.{state_text}
use Rattle.lin_explain.specs.declared.parts.Choices.{Choices}

-- some beginning of the events has more configurations than the budget
abbrev pub IsPassed : Kind → List Event → ℕ → Type 0
IsPassed kind h budget = (n : ℕ) × IsOver (start kind) (Step kind) (take n h) budget

-- how many there are, and the whole words of those that are listed; nothing where the budget is passed
abbrev pub AreChoices : Option Listed → Choices → Type 0
AreChoices None choices = (choices.count ≡ None) × (choices.some.items ≡ [])
AreChoices (Some listed) choices = (choices.count ≡ Some listed.count) × (map (λ words. words.items) choices.some.items ≡ map (λ words. words.items) listed.whole.items)

module _ (names : List (List ℕ)) where
  -- all replies and states are known, or the budget is passed
  abbrev pub AreKnown : Failing → ℕ → Option Outcomes → Type 0
  AreKnown f budget None = IsPassed f.kind f.events budget
  AreKnown f budget (Some outcomes) = AreOutcomes names f outcomes

  -- what the failing operation could have returned, and what the object could be before the last of so many events: the lines, and the same in parts
  pub record IsPossibleText (f : Failing) (n budget : ℕ) (lines : List ℕ) (replies states : Choices) : Type 0 where
    pub outcomes : Option Outcomes
    pub known : AreKnown f budget outcomes
    pub says : lines ≡ outcomes_text f n budget outcomes
    pub replies_told : AreChoices (option_map (λ o. o.replies) outcomes) replies
    pub states_told : AreChoices (option_map (λ o. o.states) outcomes) states

  -- what the object was after the events; nothing where the budget is passed
  abbrev pub IsWasText : Kind → List Event → ℕ → List ℕ → Type 0
  IsWasText kind h budget text = (IsPassed kind h budget × (text ≡ [])) ⊎ ((states : List State) × AreStates names kind h states × (text ≡ was_text kind (map (state_text names) states)))
