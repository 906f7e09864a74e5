-- A line says one thing.
use Rattle.std.proofs.Common.{◌≡◌, ◌≢◌, ◌⊎◌, ◌+◌, ℕ, List, drop, Option, Result, Ok, Err, inl, inr, refl, sym, subst, ◌∙◌}
use Rattle.lin_edn.specs.Grammar.{IsBlankText}
use Rattle.lin_edn.specs.Laws.{ReadingsAreUnique}
use Rattle.lin_edn.specs.Reading as reading
use Rattle.lin_edn.specs.Reading.{Reading, Allows, IsOutOfMemory, IsWantOfMemory}
use Rattle.lin_edn.specs.declared.EdnCause.{EdnCause}
use Rattle.lin_edn.specs.declared.EdnCause.TheVariants as edn
use Rattle.lin_history.specs.Reading.{Reading as WayToRead}
use Rattle.lin_history.specs.Table.{event}
use Rattle.lin_report.specs.declared.commands.Command.{Command}
use Rattle.lin_report.specs.declared.commands.CommandFault.{CommandFault}
use Rattle.lin_report.specs.declared.commands.CommandFault.TheVariants.{NotOneMap, Edn}
use Rattle.lin_report.specs.declared.senses.Sense.{Sense}
use Rattle.lin_report.specs.declared.senses.Sense.TheVariants as sense
use Rattle.lin_report.specs.declared.senses.Target.{Target}
use Rattle.lin_report.specs.Commands.{command_of, IsMapCommand, faulty, unfinished, missing, followed, one_map, IsSaid}

abbrev pub Answer : Type 0
Answer = Result (Option Command) CommandFault

module _ (m : WayToRead) (t : Target) (at : ℕ) (text : List ℕ) where
  -- blanks stand behind a place, or they don't
  abbrev pub IsRest : ℕ → Answer → Answer → Type 0
  IsRest used wanted a =
      (((n : ℕ) × IsBlankText (drop used text) n) × (a ≡ wanted)) ⊎ (((n : ℕ) → IsBlankText (drop used text) n → ⊥) × (a ≡ Err NotOneMap))

  -- the answer, by what is read of the text
  abbrev pub IsAnswerTo : Reading → Answer → Type 0
  IsAnswerTo (reading.an_element v p used) a = IsRest used (command_of t (event m v)) a
  IsAnswerTo (reading.unfinished p) a = a ≡ Err NotOneMap
  IsAnswerTo (reading.blanks used) a = a ≡ Err NotOneMap
  IsAnswerTo (reading.refused p cause) a = a ≡ Err (Edn (record { at = at + p; cause = cause }))

  no_want : (cause : EdnCause) → cause ≢ edn.OutOfMemory → IsOutOfMemory cause → ⊥
  no_want edn.Unbalanced other h = h
  no_want edn.OddMap other h = h
  no_want edn.TooDeep other h = h
  no_want edn.TooLong other h = h
  no_want edn.OutOfMemory other h = other refl

  read : (a : Answer) → IsMapCommand m t at text a → (r : Reading) × Allows text r × (IsWantOfMemory r → ⊥) × IsAnswerTo r a
  read a (faulty p cause refuses other) = (reading.refused p cause, refuses, no_want cause other, refl)
  read a (unfinished p is) = (reading.unfinished p, is, (λ h. h), refl)
  read a (missing used is) = (reading.blanks used, is, (λ h. h), refl)
  read a (followed v p used spelled none) = (reading.an_element v p used, spelled, (λ h. h), inr (none, refl))
  read a (one_map v p used n spelled blank) = (reading.an_element v p used, spelled, (λ h. h), inl ((n, blank), refl))

  one_rest : (used : ℕ) (wanted a b : Answer) → IsRest used wanted a → IsRest used wanted b → a ≡ b
  one_rest used wanted a b (inl x) (inl y) = x.1 ∙ sym y.1
  one_rest used wanted a b (inl x) (inr y) = absurd (y.0 x.0.0 x.0.1)
  one_rest used wanted a b (inr x) (inl y) = absurd (x.0 y.0.0 y.0.1)
  one_rest used wanted a b (inr x) (inr y) = x.1 ∙ sym y.1

  one_answer : (r : Reading) (a b : Answer) → IsAnswerTo r a → IsAnswerTo r b → a ≡ b
  one_answer (reading.an_element v p used) a b x y = one_rest used (command_of t (event m v)) a b x y
  one_answer (reading.unfinished p) a b x y = x ∙ sym y
  one_answer (reading.blanks used) a b x y = x ∙ sym y
  one_answer (reading.refused p cause) a b x y = x ∙ sym y

  one_map_command : ReadingsAreUnique → (a b : Answer) → IsMapCommand m t at text a → IsMapCommand m t at text b → a ≡ b
  one_map_command readings a b x y =
      let first = read a x in
      let second = read b y in
      let same : second.0 ≡ first.0 = readings text second.0 first.0 second.1 first.1 second.2 first.2 in
      one_answer first.0 a b first.3 (subst (λ r. IsAnswerTo r b) same second.3)

-- a line whose words say this says one thing
pub one_said : ReadingsAreUnique → (m : WayToRead) (line : List ℕ) (s : Result Sense CommandFault) (a b : Answer) → IsSaid m line s a → IsSaid m line s b → a ≡ b
one_said readings m line (Err fault) a b x y = x ∙ sym y
one_said readings m line (Ok sense.Nothing) a b x y = x ∙ sym y
one_said readings m line (Ok (sense.Plain command)) a b x y = x ∙ sym y
one_said readings m line (Ok (sense.Map t at)) a b x y = one_map_command m t at (drop at line) readings a b x y
