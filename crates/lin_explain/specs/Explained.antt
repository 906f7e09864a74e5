-- The lines of an explanation that follow the answer's own, for each answer.
use Rattle.std.specs.Prelude.{◌≡◌, ℕ, List, Option, Some, None}
use Rattle.lin_events.specs.declared.items.Item.{Item}
use Rattle.lin_texts.specs.declared.place.Place.{Place}
use Rattle.lin_answers.specs.Answers.{kinds_in}
use Rattle.lin_answers.specs.Edits.{Present}
use Rattle.lin_answers.specs.declared.answers.Answer.{Answer}
use Rattle.lin_answers.specs.declared.answers.Answer.TheVariants.{IllFormed, Yes, No, Undecided}
use Rattle.lin_answers.specs.declared.answers.Scope.{Scope}
use Rattle.lin_answers.specs.declared.answers.Scope.TheVariants.{Object, Whole}
use Rattle.lin_explain.specs.Failures.{IsNoText}
use Rattle.lin_explain.specs.IllFormed.{IsIllFormedText}
use Rattle.lin_explain.specs.Undecided.{IsUndecidedText}
use Rattle.lin_explain.specs.Yes.{IsYesText}
use Rattle.lin_explain.specs.declared.parts.Failed.{Failed}
use Rattle.lin_explain.specs.declared.parts.Parts.{Parts}
use Rattle.lin_explain.specs.declared.parts.Parts.TheVariants as Part
use Rattle.lin_explain.specs.declared.telling.Asked.{Asked}

-- the object of a key, or the whole
abbrev pub scope_of : Option Item → Scope
scope_of None = Whole
scope_of (Some key) = Object key

module _ (names : List (List ℕ)) where
  -- what explains the answer, of the present history, where words are spelled so and events have these places, or none: the lines, and what they
  -- say in parts
  abbrev pub Explains : Present → Asked → Option (List Place) → Answer → List ℕ → Parts → Type 0
  Explains now asked places (IllFormed at cause) lines parts = IsIllFormedText names now.history (kinds_in now) places at cause lines parts
  Explains now asked places (Yes order) lines parts = IsYesText names now asked.key asked.with_order order.items lines parts
  Explains now asked places (No n) lines parts = (failed : Failed) × (parts ≡ Part.No failed) × IsNoText names now places n lines failed
  Explains now asked places (Undecided at) lines parts = IsUndecidedText names now asked.keyed places at lines parts
