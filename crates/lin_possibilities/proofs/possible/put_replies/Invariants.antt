use Rattle.std.proofs.Common.{ℕ, List, Contains, take}
use Rattle.lin_events.specs.declared.calls.Reply.{Reply}
use Rattle.lin_possibilities.specs.inner.Gathering.{IsTakenFrom}
use Rattle.lin_possibilities.proofs.possible.put_replies.Given as goal

-- those that the pairs so far say
abbrev pub invariant-loop-pair : goal.invariant-loop-pair
invariant-loop-pair l = IsTakenFrom (λ (ps : List (ℕ × Reply)). λ reply. Contains ps (l.process, reply)) (take l.pair-index l.pairs) l.way l.initial.found.entries l.found.entries
