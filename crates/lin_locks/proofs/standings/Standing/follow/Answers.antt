use Rattle.std.proofs.Common.{◌≡◌, Option, Ok, Result, refl}
use Rattle.lin_events.specs.declared.lists.OutOfMemory.{OutOfMemory}
use Rattle.lin_locks.specs.declared.changes.Change.{Change}
use Rattle.lin_order.specs.ConfigurationLaws.{with_event}
use Rattle.lin_order.specs.lemmas.Completing.{info_completes}
use Rattle.lin_locks.specs.inner.Known.{part_of}
use Rattle.lin_locks.specs.inner.Latest.{latest_in}
use Rattle.lin_locks.proofs.Going.{filled_informed}
use Rattle.lin_locks.proofs.Knowing.{running_stays}
use Rattle.lin_locks.proofs.Siding.{sides_informed}
use Rattle.lin_locks.proofs.standings.Standing.follow.Goals as goal

abbrev the_result : Option Change → Result (Option Change) OutOfMemory
the_result a = Ok a

same : {a b : Option Change} → the_result a ≡ the_result b → a ≡ b
same e = cc

pub returns-in-Ok-clause-on : goal.returns-in-Ok-clause-on
returns-in-Ok-clause-on c change is = c.complete.ensures.on change is c.args.event.now _ c.in-Ok.is refl

pub returns-in-Ok-clause-fails : goal.returns-in-Ok-clause-fails
returns-in-Ok-clause-fails c is = c.complete.ensures.fails is c.args.event.now _ c.in-Ok.is refl

pub returns-in-Fail-clause-on : goal.returns-in-Fail-clause-on
returns-in-Fail-clause-on c change is functions h here = c.fail.ensures.on change (same is) c.args.event.now _ c.args.at c.in-Fail.is refl functions h here

pub returns-in-Fail-clause-fails : goal.returns-in-Fail-clause-fails
returns-in-Fail-clause-fails c is functions h here = c.fail.ensures.fails (same is) c.args.event.now _ c.args.at c.in-Fail.is refl functions h here

pub returns-in-Info-clause-on : goal.returns-in-Info-clause-on
returns-in-Info-clause-on c change is functions h here formed lock =
    let event = c.args.event.now in
    let alternates = (c.well_formed_is_alternating.ensures functions (with_event h c.args.event.now)).0 formed in
    record {
      running = running_stays functions h c.args.event.now c.well_formed_is_alternating.ensures formed _ (info_completes c.args.event.now.body _ c.in-Info.is) (latest_in c.args.self.now.latest) lock.running;
      sides = record {
        sides = sides_informed functions h c.args.event.now _ alternates c.in-Info.is (part_of c.args.self.now.acquires) (part_of c.args.self.now.releases) c.args.self.now.held lock.sides.sides;
        order = filled_informed functions h c.args.event.now _ alternates c.in-Info.is c.args.self.now.order.items (part_of c.args.self.now.acquires) (part_of c.args.self.now.releases) c.args.self.now.held lock.sides.order;
      };
    }

pub returns-in_ok-begin-in-Invoke-clause-on : goal.returns-in_ok-begin-in-Invoke-clause-on
returns-in_ok-begin-in-Invoke-clause-on c change is = c.begin.ensures.on c.in_ok-begin-in-Invoke.field-0 c.in_ok-begin-in-Invoke.was c.args.event.now c.in-Invoke.is refl
