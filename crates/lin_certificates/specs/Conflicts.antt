-- Registers, and calls that leave values in them.
use Rattle.std.specs.Prelude.{◌≡◌}
use Rattle.lin_events.specs.declared.calls.Call.{Call}
use Rattle.lin_events.specs.declared.calls.Call.TheVariants.{Write, Cas}
use Rattle.lin_events.specs.declared.calls.Val.{Val}
use Rattle.lin_objects.specs.declared.kinds.Kind.{Kind}
use Rattle.lin_objects.specs.declared.kinds.Kind.TheVariants.{Register, CasRegister, Fifo, Set, Mutex, Bag}

-- the kind is a register's
abbrev pub IsRegister : Kind → Type 0
IsRegister Register = Unit {0}
IsRegister CasRegister = Unit {0}
IsRegister Fifo = ⊥
IsRegister Set = ⊥
IsRegister Mutex = ⊥
IsRegister Bag = ⊥

-- the call leaves the value in the register
abbrev pub Leaves : Call → Val → Type 0
Leaves (Write v) w = v ≡ w
Leaves (Cas from to) w = to ≡ w
Leaves _ w = ⊥
