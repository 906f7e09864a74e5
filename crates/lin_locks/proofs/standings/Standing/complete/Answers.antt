use Rattle.std.proofs.Common.{◌≡◌, ◌∙◌, ℕ, Bool, List, Option, Some, sym, ap, subst}
use Rattle.lin_events.specs.declared.items.Item.{Item}
use Rattle.lin_events.specs.declared.calls.Name.{Name}
use Rattle.lin_events.specs.declared.calls.Reply.{Reply}
use Rattle.lin_events.specs.declared.events.Body.TheVariants.{Ok as Returns}
use Rattle.lin_events.specs.declared.events.Event.{Event}
use Rattle.lin_events.specs.WellFormed.{IsWellFormed}
use Rattle.lin_events.specs.WellFormedLaws.{WellFormedIsAlternating}
use Rattle.lin_order.specs.ConfigurationLaws.{with_event}
use Rattle.lin_order.specs.lemmas.Completing.{ok_completes}
use Rattle.lin_locks.specs.inner.Known.{Known, known_of}
use Rattle.lin_locks.specs.declared.latest.Latest.{Latest}
use Rattle.lin_locks.specs.declared.latest.Running.{Running}
use Rattle.lin_locks.specs.inner.Latest.{latest_in}
use Rattle.lin_locks.specs.inner.Turns.{AreRunning, IsEnding, IsRight}
use Rattle.lin_locks.proofs.Knowing.{known, running_stays, tells_done}
use Rattle.lin_locks.proofs.standings.Standing.complete.Goals as goal

-- the operation of the process is known, and the event ends it
ends_known : (law : WellFormedIsAlternating) (functions : Item → Name → Bool) (h : List Event) (event : Event) (formed : IsWellFormed functions (with_event h event)) (name : Name) (reply : Reply) → event.body ≡ Returns name reply
    → (process : ℕ) → event.process ≡ process → (lock : Known) → IsRight lock h → (found : Option Running) → found ≡ lock.latest process
    → (it : Running) × (found ≡ Some it) × IsEnding functions h event it.begin it.call
ends_known law functions h event formed name reply body process of_it lock is found looked =
    known functions h event law formed name (ok_completes event.body name reply body) lock.latest is.running found (looked ∙ ap lock.latest (sym of_it))

ends_this : (law : WellFormedIsAlternating) (functions : Item → Name → Bool) (h : List Event) (event : Event) (formed : IsWellFormed functions (with_event h event)) (name : Name) (reply : Reply) → event.body ≡ Returns name reply
    → (process : ℕ) → event.process ≡ process → (lock : Known) → IsRight lock h → (found : Option Running) → found ≡ lock.latest process → (running : Running) → found ≡ Some running
    → IsEnding functions h event running.begin running.call
ends_this law functions h event formed name reply body process of_it lock is found looked running is_this =
    let all = ends_known law functions h event formed name reply body process of_it lock is found looked in
    subst (λ (r : Running). IsEnding functions h event r.begin r.call) (one (sym all.1 ∙ is_this)) all.2
  where
    one : {a b : Running} → Some a ≡ Some b → a ≡ b
    one e = cc

pub returns-in_default-clause-on : goal.returns-in_default-clause-on
returns-in_default-clause-on c change is event name body of_it functions h here formed lock =
    let all = ends_known c.well_formed_is_alternating.ensures functions h event formed name c.args.reply.now body c.args.process of_it (known_of c.args.self.now) lock c.get.result c.get.ensures in
    absurd (c.in_default.not-Some all.0 all.1)

pub returns-in-Done-clause-on : goal.returns-in-Done-clause-on
returns-in-Done-clause-on c change is event name body of_it functions h here formed lock =
    let ending = ends_this c.well_formed_is_alternating.ensures functions h event formed name c.args.reply.now body c.args.process of_it (known_of c.args.self.now) lock c.get.result c.get.ensures c.in-Some.running c.in-Some.is in
    record {
      running = subst (λ (l : Latest). AreRunning (with_event h event) (latest_in l)) (sym c.leave.ensures.latest)
          (running_stays functions h event c.well_formed_is_alternating.ensures formed name (ok_completes event.body name c.args.reply.now body) (latest_in c.args.self.now.latest) lock.running);
      sides = c.leave.ensures.on change is functions h event name here (body ∙ ap (Returns name) c.in-Done.is) ending lock.sides;
    }

pub returns-in-Done-clause-fails : goal.returns-in-Done-clause-fails
returns-in-Done-clause-fails c is event name body of_it functions h here formed lock =
    let ending = ends_this c.well_formed_is_alternating.ensures functions h event formed name c.args.reply.now body c.args.process of_it (known_of c.args.self.now) lock c.get.result c.get.ensures c.in-Some.running c.in-Some.is in
    c.leave.ensures.down is functions h event name here (body ∙ ap (Returns name) c.in-Done.is) ending lock.sides

pub returns-in_default-reply-clause-fails : goal.returns-in_default-reply-clause-fails
returns-in_default-reply-clause-fails c is event name body of_it functions h here formed lock legal =
    let ending = ends_this c.well_formed_is_alternating.ensures functions h event formed name c.args.reply.now body c.args.process of_it (known_of c.args.self.now) lock c.get.result c.get.ensures c.in-Some.running c.in-Some.is in
    c.in_default-reply.not-Done (tells_done functions h event c.well_formed_is_alternating.ensures name c.args.reply.now body c.in-Some.running.begin c.in-Some.running.call ending legal)
