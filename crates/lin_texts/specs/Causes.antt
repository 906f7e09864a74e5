-- The words for why an event is bad.
use Rattle.std.specs.Prelude.{ℕ, List, codes}
use Rattle.lin_events.specs.declared.shapes.Cause.{Cause}
use Rattle.lin_events.specs.declared.shapes.Cause.TheVariants as cause

-- the number and the name of why an event is bad
abbrev pub cause_text : Cause → List ℕ
cause_text cause.RetiredProcess = codes "1 RetiredProcess"
cause_text cause.BusyProcess = codes "2 BusyProcess"
cause_text cause.NotOfKind = codes "3 NotOfKind"
cause_text cause.NoInvocation = codes "4 NoInvocation"
cause_text cause.OtherCall = codes "5 OtherCall"
cause_text cause.OtherKey = codes "6 OtherKey"
