-- What the pending operations tell of processes: which watch, which have crashed, what a state gives to them, and which can be placed.
use Rattle.std.proofs.Common.{◌≡◌, ℕ, Bool, true, List, Contains, IsTrue, sym, ap, subst, ◌∙◌}
use Rattle.lin_events.specs.declared.items.Item.{Item}
use Rattle.lin_events.specs.declared.calls.Call.{Call}
use Rattle.lin_events.specs.declared.calls.Name.{Name}
use Rattle.lin_events.specs.declared.calls.Reply.{Reply}
use Rattle.lin_events.specs.declared.events.Event.{Event}
use Rattle.lin_events.specs.Alternation.{IsAlternating}
use Rattle.lin_events.specs.Operations.{IsCrashed, IsOpen, IsOperation}
use Rattle.lin_events.specs.WellFormedLaws.{EndsAreUnique}
use Rattle.lin_events.specs.lemmas.OneMore.{one_call, one_caller, one_open}
use Rattle.lin_order.specs.declared.placed.Placed.{Placed}
use Rattle.lin_order.specs.Configurations.{IsAdded, IsPlacing}
use Rattle.lin_frontier.specs.declared.pending.Open.{Open}
use Rattle.lin_members.specs.Covers.{HasCrashed}
use Rattle.lin_frontier.specs.Frontiers.{IsPending}
use Rattle.lin_members.specs.Members.{IsWatching}
use Rattle.lin_members.specs.lemmas.Crashes.{crashed_open}

module _ (h : List Event) (pending : List Open) (opened : IsPending h pending) where
  -- each open operation is pending
  pub open_pending : (at process : ℕ) (key : Item) (call : Call) → IsOpen h at process key call → (o : Open) × Contains pending o × (o.at ≡ at) × (o.process ≡ process) × (o.call ≡ call)
  open_pending at process key call is_open =
      let found = opened.complete at process key call is_open in
      let s = opened.sound found.0 found.1 in
      let begins = subst (λ k. IsOperation h k found.0.process s.0 found.0.call) found.2 s.1.begins in (
        found.0,
        found.1,
        found.2,
        one_caller h at found.0.process process s.0 key found.0.call call begins is_open.begins,
        one_call h at found.0.process process s.0 key found.0.call call begins is_open.begins,
      )

  pub pending_crashed : (o : Open) → Contains pending o → IsTrue o.crashed → HasCrashed h o.process
  pending_crashed o there crashed = let s = opened.sound o there in (o.at, s.0, o.call, s.1.begins, (opened.crashed o there).0 crashed)

  pub crashed_pending : EndsAreUnique → (process : ℕ) → HasCrashed h process → (o : Open) × Contains pending o × (o.process ≡ process) × IsTrue o.crashed
  crashed_pending unique process c =
      let found = open_pending c.0 process c.1 c.2 (crashed_open unique h process c) in
      (found.0, found.1, found.3, (opened.crashed found.0 found.1).1 (subst (IsCrashed h) (sym found.2) c.4))

  -- of a process that has not crashed
  pub pending_watching : EndsAreUnique → (functions : Item → Name → Bool) → IsAlternating functions h → (observes : Call → Bool) (o : Open) → Contains pending o → observes o.call ≡ true → (IsTrue o.crashed → ⊥)
      → IsWatching observes h o.process
  pending_watching unique functions alternates observes o there observer alive =
      let s = opened.sound o there in
      record {
        at = o.at;
        key = s.0;
        call = o.call;
        is_open = s.1;
        observer = observer;
        alive = λ c. alive ((opened.crashed o there).1 (subst (IsCrashed h) (one_open functions h alternates c.0 o.at o.process c.1 s.0 c.2 o.call (crashed_open unique h o.process c) s.1) c.4));
      }

  pub watching_pending : (observes : Call → Bool) (process : ℕ) → IsWatching observes h process → (o : Open) × Contains pending o × (o.process ≡ process) × (observes o.call ≡ true) × (IsTrue o.crashed → ⊥)
  watching_pending observes process w =
      let found = open_pending w.at process w.key w.call w.is_open in (
        found.0,
        found.1,
        found.3,
        ap observes found.4 ∙ w.observer,
        λ crashed. w.alive (subst (HasCrashed h) found.3 (pending_crashed found.0 found.1 crashed)),
      )

  module _ {S : Type 0} (step : S → Call → S → Reply → Type 0) where
    pub placing_pending : (c d : S × List (ℕ × Reply)) (p : Placed) → IsPlacing step h c p d → (o : Open) × Contains pending o × (o.at ≡ p.at) × step c.0 o.call d.0 p.reply × IsAdded o.process p.reply c.1 d.1
    placing_pending c d p placing =
        let found = open_pending p.at placing.process placing.key placing.call placing.is_open in (
          found.0,
          found.1,
          found.2,
          subst (λ a. step c.0 a d.0 p.reply) (sym found.4) placing.steps,
          subst (λ q. IsAdded q p.reply c.1 d.1) (sym found.3) placing.added,
        )
