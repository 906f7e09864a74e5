-- The functions that calls name.
use Rattle.lin_events.specs.declared.calls.Call.{Call}
use Rattle.lin_events.specs.declared.calls.Call.TheVariants as Called
use Rattle.lin_events.specs.declared.calls.Name.{Name}
use Rattle.lin_events.specs.declared.calls.Name.TheVariants as Named

-- the function that a call names
abbrev pub name_of : Call → Name
name_of Called.Read = Named.Read
name_of (Called.Write v) = Named.Write
name_of (Called.Cas old new) = Named.Cas
name_of (Called.Enqueue v) = Named.Enqueue
name_of Called.Dequeue = Named.Dequeue
name_of (Called.Add v) = Named.Add
name_of Called.Acquire = Named.Acquire
name_of Called.Release = Named.Release
