use Rattle.std.proofs.Common.{sym, subst, inl, inr}
use Rattle.lin_events.specs.declared.calls.Reply.TheVariants.{Done}
use Rattle.lin_locks.specs.inner.Known.{known_of}
use Rattle.lin_locks.specs.inner.Turns.{TurnsDown, TurnsOn}
use Rattle.lin_locks.proofs.Knowing.{of_lock_call}
use Rattle.lin_locks.proofs.standings.Standing.leave.Goals as goal

pub returns-in-Acquire-clause-on : goal.returns-in-Acquire-clause-on
returns-in-Acquire-clause-on c change is = subst (λ call. TurnsOn (known_of c.args.self.now) (known_of c.acquire.new.self) call c.args.running.begin c.args.at) (sym c.in-Acquire.is) (c.acquire.ensures.on change is)

pub returns-in-Acquire-clause-down : goal.returns-in-Acquire-clause-down
returns-in-Acquire-clause-down c is = subst (λ call. TurnsDown (known_of c.args.self.now) call c.args.running.begin c.args.at) (sym c.in-Acquire.is) (c.acquire.ensures.down is)

pub returns-in-Release-clause-on : goal.returns-in-Release-clause-on
returns-in-Release-clause-on c change is = subst (λ call. TurnsOn (known_of c.args.self.now) (known_of c.release.new.self) call c.args.running.begin c.args.at) (sym c.in-Release.is) (c.release.ensures.on change is)

pub returns-in-Release-clause-down : goal.returns-in-Release-clause-down
returns-in-Release-clause-down c is = subst (λ call. TurnsDown (known_of c.args.self.now) call c.args.running.begin c.args.at) (sym c.in-Release.is) (c.release.ensures.down is)

pub returns-in_default-clause-down : goal.returns-in_default-clause-down
returns-in_default-clause-down c is functions h event name end body ending sides legal =
    elim (of_lock_call functions h event c.well_formed_is_alternating.ensures name Done body c.args.running.begin c.args.running.call ending legal) [
      | inl acquires ↦ c.in_default.not-Acquire acquires
      | inr releases ↦ c.in_default.not-Release releases
    ]
