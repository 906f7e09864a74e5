-- What maps tell, one after another.
use Rattle.std.proofs.Common.{List, ◌++◌}
use Rattle.lin_history.specs.Stream.{Told}
use Rattle.lin_events.specs.declared.events.Event.{Event}

-- what is told behind events
abbrev pub behind_told : List Event → Told → Told
behind_told es t = record { events = es ++ t.events; ends = t.ends }
