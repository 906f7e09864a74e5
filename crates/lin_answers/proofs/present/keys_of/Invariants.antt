use Rattle.std.proofs.Common.{take}
use Rattle.lin_answers.proofs.Keys.{AreKeysIn}
use Rattle.lin_answers.proofs.present.keys_of.Given as goal

abbrev pub invariant-loop-event : goal.invariant-loop-event
invariant-loop-event l = AreKeysIn (take l.event-index l.events) l.keys.keys
