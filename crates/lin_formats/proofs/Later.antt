-- What is read by names, where there are more names.
use Rattle.std.proofs.Common.{ℕ, Bool, List}
use Rattle.lin_events.specs.declared.events.Event.{Event}
use Rattle.lin_formats.specs.Inputs.{AreRefused}
use Rattle.lin_formats.specs.Intakes.{IsFed}
use Rattle.lin_formats.specs.declared.verdicts.Refusal.{Refusal}
use Rattle.lin_formats.specs.declared.verdicts.Refusal.TheVariants.{Edn, Event as BadEvent, Truncated, Full, BadPair, Few}
use Rattle.lin_history.specs.Reading.{IsReading, Reading}
use Rattle.lin_history.specs.Sees.{Followed}
use Rattle.lin_names.specs.Names.{Begins}
use Rattle.lin_names.specs.lemmas.Begins.{agrees_before}

module _ (old new : List (List ℕ)) (begun : Begins old new) where
  pub reading_before : (keyed : Bool) (m : Reading) → IsReading keyed new m → IsReading keyed old m
  reading_before keyed m is = (is.0, agrees_before old new m.number begun is.1)

  pub fed_later : (follow : Followed) (bytes : List ℕ) (events : List Event) → IsFed old follow bytes events → IsFed new follow bytes events
  fed_later follow bytes events fed = record {
    sees = λ m is. fed.sees m (reading_before follow.keyed m is);
    none_ready = fed.none_ready;
    within = fed.within;
  }

  pub refused_later : (keyed : Bool) (text : List ℕ) (refusal : Refusal) → AreRefused keyed old text refusal → AreRefused keyed new text refusal
  refused_later keyed text (Edn at cause) is = (is.0, λ m reads. is.1 m (reading_before keyed m reads), is.2)
  refused_later keyed text (BadEvent at cause) is = (is.0, λ m reads. is.1 m (reading_before keyed m reads), is.2)
  refused_later keyed text (Truncated at) is = (is.0, λ m reads. is.1 m (reading_before keyed m reads), is.2)
  refused_later keyed text Full is = (is.0, is.1, λ m reads. is.2 m (reading_before keyed m reads), is.3)
  refused_later keyed text (BadPair at) is = is
  refused_later keyed text (Few count wanted) is = is
