use Rattle.std.proofs.Common.{◌≡◌, ◌∙◌, ◌⊎◌, ℕ, Bool, true, false, List, Option, Some, refl, sym, ap, subst}
use Rattle.lin_events.specs.declared.items.Item.{Item}
use Rattle.lin_events.specs.declared.calls.Name.{Name}
use Rattle.lin_events.specs.declared.events.Body.TheVariants.{Fail}
use Rattle.lin_events.specs.declared.events.Event.{Event}
use Rattle.lin_events.specs.Operations.{IsOpen}
use Rattle.lin_events.specs.Alternation.{IsAlternating}
use Rattle.lin_events.specs.WellFormed.{IsWellFormed}
use Rattle.lin_events.specs.WellFormedLaws.{WellFormedIsAlternating}
use Rattle.lin_objects.specs.declared.kinds.Kind.TheVariants.{Mutex}
use Rattle.lin_order.specs.Linearizable.{IsLinearizableAs}
use Rattle.lin_order.specs.ConfigurationLaws.{with_event}
use Rattle.lin_order.specs.lemmas.Completing.{fail_completes}
use Rattle.lin_locks.specs.declared.latest.Running.{Running}
use Rattle.lin_locks.specs.inner.Known.{Known, Part, known_of, part_of}
use Rattle.lin_locks.specs.inner.Debts.{lock_call}
use Rattle.lin_locks.specs.inner.Fillings.{AreFilled, PayInTurn}
use Rattle.lin_locks.specs.inner.Sides.{AreEarly, AreSides, IsClosed, IsGone, IsUnpayable}
use Rattle.lin_locks.specs.inner.Turns.{AreRunning, IsEnding, IsRight}
use Rattle.lin_locks.proofs.Going.{filled_failed, filled_round, filled_stays}
use Rattle.lin_locks.proofs.Knowing.{ended, known, running_stays}
use Rattle.lin_locks.proofs.Siding.{closed_none, round, sides_failed, unpayable}
use Rattle.lin_locks.proofs.standings.Standing.fail.Goals as goal

module _ (law : WellFormedIsAlternating) (functions : Item → Name → Bool) (h : List Event) (event : Event) (formed : IsWellFormed functions (with_event h event)) (name : Name) (body : event.body ≡ Fail name)
    (process : ℕ) (of_it : event.process ≡ process) (lock : Known) (is : IsRight lock h) (found : Option Running) (looked : found ≡ lock.latest process) where
  alternates : IsAlternating functions (with_event h event)
  alternates = (law functions (with_event h event)).0 formed

  -- the operation of the process is known, and the event ends it
  ends_known : (it : Running) × (found ≡ Some it) × IsEnding functions h event it.begin it.call
  ends_known = known functions h event law formed name (fail_completes event.body name body) lock.latest is.running found (looked ∙ ap lock.latest (sym of_it))

  module _ (running : Running) (is_this : found ≡ Some running) where
    ending : IsEnding functions h event running.begin running.call
    unfolding ends_known
    ending = let all = ends_known in subst (λ (r : Running). IsEnding functions h event r.begin r.call) (one (sym all.1 ∙ is_this)) all.2
      where
        one : {a b : Running} → Some a ≡ Some b → a ≡ b
        one e = cc

    -- the side of the one call, without it
    left : (b : Bool) (own now other : Part) → IsClosed running.begin own.opens now.opens → now.debts ≡ own.debts → AreSides h b own other lock.held → AreSides (with_event h event) b now other lock.held
    unfolding alternates ending
    left b own now other closed debts sides = sides_failed functions h event name alternates body running.begin ending.key running.call ending.is_open b own now other lock.held closed debts sides

    stays : AreRunning (with_event h event) lock.latest
    stays = running_stays functions h event law formed name (fail_completes event.body name body) lock.latest is.running

    -- what is owed of the one call can't be paid
    none : (b : Bool) (own now other : Part) → IsClosed running.begin own.opens now.opens → now.debts ≡ own.debts → IsUnpayable now → AreSides h b own other lock.held → IsLinearizableAs Mutex (with_event h event) → ⊥
    unfolding alternates
    none b own now other closed debts unpaid sides legal =
        let c = ended functions (with_event h event) alternates legal in
        unpayable (with_event h event) (lock_call b) now (left b own now other closed debts sides).own_side unpaid c.0 c.1

    -- the order goes on
    kept : (b : Bool) → running.call ≡ lock_call b → (own now other : Part) → IsGone running.begin own.opens now.opens → now.debts ≡ own.debts → AreEarly running.begin now.debts ⊎ PayInTurn now.opens now.debts
        → AreSides h b own other lock.held → AreFilled h b lock.order own other lock.held → AreFilled (with_event h event) b lock.order now other lock.held
    unfolding alternates ending
    kept b same own now other gone debts payable sides filled = filled_failed functions h event name alternates body running.begin ending.key b (subst (IsOpen h running.begin event.process ending.key) same ending.is_open) lock.order own now other lock.held gone debts payable sides filled

    kept_beside : (running.call ≡ lock_call true → ⊥) → (running.call ≡ lock_call false → ⊥) → AreFilled h true lock.order lock.acquires lock.releases lock.held → AreFilled (with_event h event) true lock.order lock.acquires lock.releases lock.held
    unfolding alternates ending
    kept_beside differ differs filled = filled_stays functions h event name alternates body running.begin ending.key running.call ending.is_open differ differs lock.order lock.acquires lock.releases lock.held filled

pub returns-in_default-clause-on : goal.returns-in_default-clause-on
returns-in_default-clause-on c change is event name at body of_it functions h here formed lock =
    let all = ends_known c.well_formed_is_alternating.ensures functions h event formed name body c.args.process of_it (known_of c.args.self.now) lock c.get.result c.get.ensures in
    absurd (c.in_default.not-Some all.0 all.1)

pub returns-in-Passes-clause-on : goal.returns-in-Passes-clause-on
returns-in-Passes-clause-on c change is event name at body of_it functions h here formed lock =
    let closed = c.in-Passes.closed in
    let now = part_of c.withdraw.new.self in
    record {
      running = stays c.well_formed_is_alternating.ensures functions h event formed name body c.args.process of_it (known_of c.args.self.now) lock c.get.result c.get.ensures c.in-Some.running c.in-Some.is;
      sides = record {
        sides = left c.well_formed_is_alternating.ensures functions h event formed name body c.args.process of_it (known_of c.args.self.now) lock c.get.result c.get.ensures c.in-Some.running c.in-Some.is
            true (part_of c.args.self.now.acquires) now (part_of c.args.self.now.releases) (c.withdraw.ensures.closed closed c.in-Passes.is) (ap (λ v. v.items) c.withdraw.ensures.debts) lock.sides.sides;
        order = kept c.well_formed_is_alternating.ensures functions h event formed name body c.args.process of_it (known_of c.args.self.now) lock c.get.result c.get.ensures c.in-Some.running c.in-Some.is
            true c.in-Acquire.is (part_of c.args.self.now.acquires) now (part_of c.args.self.now.releases) (c.withdraw.ensures.gone closed c.in-Passes.is) (ap (λ v. v.items) c.withdraw.ensures.debts) (c.withdraw.ensures.payable closed c.in-Passes.is) lock.sides.sides lock.sides.order;
      };
    }

pub returns-in-Fails-clause-fails : goal.returns-in-Fails-clause-fails
returns-in-Fails-clause-fails c is event name at body of_it functions h here formed lock =
    let unpaid = c.withdraw.ensures.unpaid c.in-Fails.is in
    none c.well_formed_is_alternating.ensures functions h event formed name body c.args.process of_it (known_of c.args.self.now) lock c.get.result c.get.ensures c.in-Some.running c.in-Some.is
    true (part_of c.args.self.now.acquires) (record (part_of c.args.self.now.acquires) { opens = unpaid.0 }) (part_of c.args.self.now.releases) unpaid.1 refl unpaid.2 lock.sides.sides

pub returns-in-Passes-withdraw-clause-on : goal.returns-in-Passes-withdraw-clause-on
returns-in-Passes-withdraw-clause-on c change is event name at body of_it functions h here formed lock =
    let closed = c.in-Passes-withdraw.closed in
    let acquires = part_of c.args.self.now.acquires in
    let releases = part_of c.args.self.now.releases in
    let now = part_of c.withdraw-in-Release.new.self in
    let sides = round h true acquires releases c.args.self.now.held lock.sides.sides in
    record {
      running = stays c.well_formed_is_alternating.ensures functions h event formed name body c.args.process of_it (known_of c.args.self.now) lock c.get.result c.get.ensures c.in-Some.running c.in-Some.is;
      sides = record {
        sides = round (with_event h event) false now acquires c.args.self.now.held
            (left c.well_formed_is_alternating.ensures functions h event formed name body c.args.process of_it (known_of c.args.self.now) lock c.get.result c.get.ensures c.in-Some.running c.in-Some.is
            false releases now acquires (c.withdraw-in-Release.ensures.closed closed c.in-Passes-withdraw.is) (ap (λ v. v.items) c.withdraw-in-Release.ensures.debts) sides);
        order = filled_round (with_event h event) false c.args.self.now.order.items now acquires c.args.self.now.held
            (kept c.well_formed_is_alternating.ensures functions h event formed name body c.args.process of_it (known_of c.args.self.now) lock c.get.result c.get.ensures c.in-Some.running c.in-Some.is
            false c.in-Release.is releases now acquires (c.withdraw-in-Release.ensures.gone closed c.in-Passes-withdraw.is) (ap (λ v. v.items) c.withdraw-in-Release.ensures.debts) (c.withdraw-in-Release.ensures.payable closed c.in-Passes-withdraw.is) sides
            (filled_round h true c.args.self.now.order.items acquires releases c.args.self.now.held lock.sides.order));
      };
    }

pub returns-in-Fails-withdraw-clause-fails : goal.returns-in-Fails-withdraw-clause-fails
returns-in-Fails-withdraw-clause-fails c is event name at body of_it functions h here formed lock =
    let unpaid = c.withdraw-in-Release.ensures.unpaid c.in-Fails-withdraw.is in
    let acquires = part_of c.args.self.now.acquires in
    let releases = part_of c.args.self.now.releases in
    none c.well_formed_is_alternating.ensures functions h event formed name body c.args.process of_it (known_of c.args.self.now) lock c.get.result c.get.ensures c.in-Some.running c.in-Some.is
    false releases (record (part_of c.args.self.now.releases) { opens = unpaid.0 }) acquires unpaid.1 refl unpaid.2 (round h true acquires releases c.args.self.now.held lock.sides.sides)

pub returns-in_default-call-clause-on : goal.returns-in_default-call-clause-on
returns-in_default-call-clause-on c change is event name at body of_it functions h here formed lock =
    let acquires = part_of c.args.self.now.acquires in
    record {
      running = stays c.well_formed_is_alternating.ensures functions h event formed name body c.args.process of_it (known_of c.args.self.now) lock c.get.result c.get.ensures c.in-Some.running c.in-Some.is;
      sides = record {
        sides = left c.well_formed_is_alternating.ensures functions h event formed name body c.args.process of_it (known_of c.args.self.now) lock c.get.result c.get.ensures c.in-Some.running c.in-Some.is
            true acquires acquires (part_of c.args.self.now.releases) (closed_none c.in-Some.running.begin acquires.opens acquires.opens refl) refl lock.sides.sides;
        order = kept_beside c.well_formed_is_alternating.ensures functions h event formed name body c.args.process of_it (known_of c.args.self.now) lock c.get.result c.get.ensures c.in-Some.running c.in-Some.is c.in_default-call.not-Acquire c.in_default-call.not-Release lock.sides.order;
      };
    }
