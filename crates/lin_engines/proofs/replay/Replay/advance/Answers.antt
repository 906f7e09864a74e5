use Rattle.std.proofs.Common.{◌+◌, ◌∙◌, Bool, List, ap, inl, inr, sym, subst, take}
use Rattle.lin_events.specs.declared.items.Item.{Item}
use Rattle.lin_engines.specs.declared.replay.Replay.{Replay}
use Rattle.lin_events.specs.declared.calls.Name.{Name}
use Rattle.lin_events.specs.declared.events.Event.{Event}
use Rattle.lin_events.specs.Operations.{IsEvent}
use Rattle.lin_events.specs.WellFormed.{IsWellFormed}
use Rattle.lin_objects.specs.Steps.{Step, start}
use Rattle.lin_frontier.specs.Frontiers.{IsNextEvent}
use Rattle.lin_order.specs.Configurations.{IsOver}
use Rattle.lin_engines.specs.Replays.{IsCurrent, IsKnown, IsPrepared, IsReplay}
use Rattle.lin_order.specs.Linearizable.{IsLinearizableAs}
use Rattle.lin_engines.specs.lemmas.Events.{event_taken, next_event}
use Rattle.lin_engines.proofs.Replaying.{known_current, replay_advanced, replay_renamed}
use Rattle.lin_engines.proofs.replay.Replay.advance.Goals as goal
use Rattle.lin_engines.proofs.replay.Replay.advance.Goals.{In_ok-step}

known : (c : In_ok-step) (h : List Event) → IsPrepared c.args.self.now h → IsKnown c.args.self.now.object.kind (take c.args.self.now.reached h) c.in-Some.frontier.now c.args.self.now.nodes
known c h prepared = known_current c.args.self.now h prepared.right c.in-Some.frontier.now (subst (λ l. IsCurrent c.args.self.now.present l c.in-Some.frontier.now) c.deref.ensures.value c.in-Some.ensures.some)

next : (c : In_ok-step) (functions : Item → Name → Bool) (h : List Event) → IsWellFormed functions h → IsEvent h c.args.self.now.reached c.args.event.now → IsPrepared c.args.self.now h
    → IsNextEvent functions (take c.args.self.now.reached h) c.args.self.now.pending.operations.items c.args.self.now.reached c.args.event.now
next c functions h well there prepared = next_event c.beginnings_are_well_formed.ensures functions h c.args.self.now.reached c.args.event.now c.args.self.now.pending.operations.items well there prepared.right.opened

-- the same, of the slice that was passed on
passed : (c : In_ok-step) (functions : Item → Name → Bool) (h : List Event) → IsWellFormed functions h → IsEvent h c.args.self.now.reached c.args.event.now → IsPrepared c.args.self.now h
    → IsNextEvent functions (take c.args.self.now.reached h) c.as_slice.result.now c.args.self.now.reached c.args.event.now
passed c functions h well there prepared = subst (λ l. IsNextEvent functions (take c.args.self.now.reached h) l c.args.self.now.reached c.args.event.now) (sym c.as_slice.ensures) (next c functions h well there prepared)

pub returns-in-Next-clause-right : goal.returns-in-Next-clause-right
returns-in-Next-clause-right c = λ functions h well there prepared.
    let self = c.args.self.now in
    let before = take self.reached h in
    let cover = c.in_ok-step.ensures.next c.in-Next.next c.in-Next.is functions before (passed (goal.at.returns-in-Next-clause-right c).In_ok-step functions h well there prepared) (known (goal.at.returns-in-Next-clause-right c).In_ok-step h prepared).compressed in
    subst (λ (r : Replay). IsReplay (record r { reached = r.reached + 1 }) h) (sym c.put.ensures)
    (replay_advanced self c.in-Next.next c.take_in.new.self c.advance.new.nodes h c.args.event.now prepared there cover (c.in_ok-step.ensures.some c.in-Next.next c.in-Next.is)
    (c.take_in.ensures.open functions before (next (goal.at.returns-in-Next-clause-right c).In_ok-step functions h well there prepared)) c.advance.ensures.grown (λ place mark below past. c.take_in.ensures.past h place mark below past))

pub returns-in-Empty-clause-empty : goal.returns-in-Empty-clause-empty
returns-in-Empty-clause-empty c = λ _ functions h well there prepared lin.
    let self = c.args.self.now in
    c.in_ok-step.ensures.empty c.in-Empty.is functions (take self.reached h) (passed (goal.at.returns-in-Empty-clause-empty c).In_ok-step functions h well there prepared) (known (goal.at.returns-in-Empty-clause-empty c).In_ok-step h prepared).compressed
    (subst (IsLinearizableAs self.object.kind) (event_taken h self.reached c.args.event.now there) lin)

pub returns-in-Over-clause-over : goal.returns-in-Over-clause-over
returns-in-Over-clause-over c = λ _ functions h well there prepared.
    let self = c.args.self.now in
    subst (λ l. IsOver (start self.object.kind) (Step self.object.kind) l c.args.budget) (sym (event_taken h self.reached c.args.event.now there))
    (c.in_ok-step.ensures.over c.in-Over.is functions (take self.reached h) (passed (goal.at.returns-in-Over-clause-over c).In_ok-step functions h well there prepared) (known (goal.at.returns-in-Over-clause-over c).In_ok-step h prepared).compressed)

pub returns-in-OverBefore-clause-before : goal.returns-in-OverBefore-clause-before
returns-in-OverBefore-clause-before c = λ _ functions h well there prepared.
    let self = c.args.self.now in
    c.in_ok-step.ensures.before c.in-OverBefore.is functions (take self.reached h) (passed (goal.at.returns-in-OverBefore-clause-before c).In_ok-step functions h well there prepared)
    (known (goal.at.returns-in-OverBefore-clause-before c).In_ok-step h prepared).compressed

pub returns-in-Empty-clause-right : goal.returns-in-Empty-clause-right
returns-in-Empty-clause-right c = λ functions h well there prepared. replay_renamed c.args.self.now c.advance.new.nodes h (c.in_ok-step.ensures.kept (inr (inl c.in-Empty.is))) prepared.right

pub returns-in-Over-clause-right : goal.returns-in-Over-clause-right
returns-in-Over-clause-right c = λ functions h well there prepared. replay_renamed c.args.self.now c.advance.new.nodes h (c.in_ok-step.ensures.kept (inr (inr (inl c.in-Over.is)))) prepared.right

pub returns-in-OverBefore-clause-right : goal.returns-in-OverBefore-clause-right
returns-in-OverBefore-clause-right c = λ functions h well there prepared. replay_renamed c.args.self.now c.advance.new.nodes h (c.in_ok-step.ensures.kept (inr (inr (inr c.in-OverBefore.is)))) prepared.right

pub returns-in_ok-stay-in-Same-clause-right : goal.returns-in_ok-stay-in-Same-clause-right
returns-in_ok-stay-in-Same-clause-right c = λ functions h well there prepared.
    let self = c.args.self.now in
    let at = (goal.at.returns-in_ok-stay-in-Same-clause-right c).In_ok-step in
    let k = known at h prepared in
    let frontier = c.in-Some.frontier.now in
    let compressed = c.in_ok-step.ensures.same c.in-Same.is functions (take self.reached h) (passed at functions h well there prepared) k.compressed in
    let current = subst (λ l. IsCurrent self.present l frontier) c.deref.ensures.value c.in-Some.ensures.some in
    let is = c.in_ok-stay-in-Same.ensures.others in
    let held = c.in_ok-stay-in-Same.ensures.held frontier current in
    subst (λ (r : Replay). IsReplay r h) (sym (is ∙ ap (λ p. record self { reached = self.reached + 1; present = p; pending = c.stay.new.self.pending; nodes = c.advance.new.nodes }) held))
    (replay_advanced self frontier c.stay.new.self.pending c.advance.new.nodes h c.args.event.now prepared there compressed k.some
    (c.in_ok-stay-in-Same.ensures.open functions (take self.reached h) (next at functions h well there prepared)) c.advance.ensures.grown (c.in_ok-stay-in-Same.ensures.past h))

pub returns-in_err-step-clause-right : goal.returns-in_err-step-clause-right
returns-in_err-step-clause-right c = λ functions h well there prepared. replay_renamed c.args.self.now c.advance.new.nodes h c.in_err-step.ensures.refused prepared.right

pub returns-in_err-stay-in-Same-clause-right : goal.returns-in_err-stay-in-Same-clause-right
returns-in_err-stay-in-Same-clause-right c = λ functions h well there prepared.
    subst (λ (r : Replay). IsReplay r h) (sym c.in_err-stay-in-Same.ensures.refused) (replay_renamed c.args.self.now c.advance.new.nodes h (c.in_ok-step.ensures.kept (inl c.in-Same.is)) prepared.right)
