-- What placing an open operation of a lock changes, and so what an invocation makes of its configurations.
use Rattle.std.proofs.Common.{◌≡◌, ◌<◌, ◌+◌, ℕ, Bool, true, false, not, List, ◌∷◌, ◌⊎◌, Contains, length, inl, inr, refl, sym, ap, subst, ◌∙◌, arith}
use Rattle.std.proofs.lemmas.Option.{slice_get_within}
use Rattle.lin_events.specs.declared.items.Item.{Item}
use Rattle.lin_events.specs.declared.calls.Call.{Call}
use Rattle.lin_events.specs.declared.calls.Call.TheVariants.{Acquire, Release}
use Rattle.lin_events.specs.declared.calls.Name.{Name}
use Rattle.lin_events.specs.declared.calls.Reply.{Reply}
use Rattle.lin_events.specs.declared.calls.Reply.TheVariants.{Done}
use Rattle.lin_events.specs.declared.events.Body.TheVariants.{Invoke}
use Rattle.lin_events.specs.declared.events.Event.{Event}
use Rattle.lin_events.specs.Alternation.{IsAlternating}
use Rattle.lin_events.specs.Operations.{IsOpen}
use Rattle.lin_events.specs.lemmas.OneMore.{one_call, one_caller, one_open}
use Rattle.lin_objects.specs.declared.kinds.Kind.TheVariants.{Mutex}
use Rattle.lin_objects.specs.declared.states.State.{State}
use Rattle.lin_objects.specs.declared.states.State.TheVariants.{Held}
use Rattle.lin_objects.specs.Steps.{Step, start}
use Rattle.lin_order.specs.declared.placed.Placed.{Placed}
use Rattle.lin_order.specs.Configurations.{IsPlacing, IsPlacedOn, none, more as further}
use Rattle.lin_order.specs.ConfigurationLaws.{with_event}
use Rattle.lin_order.specs.lemmas.Invoking.{after_invocation}
use Rattle.lin_order.specs.lemmas.Opening.{open_back, open_beside}
use Rattle.lin_locks.specs.declared.sides.Debt.{Debt}
use Rattle.lin_locks.specs.inner.Debts.{AreAll, AreOwed, Config, IsBalanced, IsOfLock, IsPlacedOpen, agrees, lock_call}
use Rattle.lin_locks.proofs.Lists.{all_map, all_with, least_map}

-- a step has the call, and the lock is then as that leaves it and wasn't before; or it has the other call, the other way round
pub turns : (b : Bool) (s next : State) (call : Call) (reply : Reply) → Step Mutex s call next reply
    → ((call ≡ lock_call b) × (s ≡ Held (not b)) × (next ≡ Held b)) ⊎ ((call ≡ lock_call (not b)) × (s ≡ Held b) × (next ≡ Held (not b)))
turns true (Held false) next Acquire reply step = inl (refl, refl, step.0)
turns true (Held true) next Release reply step = inr (refl, refl, step.0)
turns false (Held false) next Acquire reply step = inr (refl, refl, step.0)
turns false (Held true) next Release reply step = inl (refl, refl, step.0)
turns b s next call reply step = absurd step

-- and it tells nothing
pub says_done : (s next : State) (call : Call) (reply : Reply) → Step Mutex s call next reply → reply ≡ Done
says_done (Held false) next Acquire reply step = step.1
says_done (Held true) next Release reply step = step.1
says_done s next call reply step = absurd step

pub other_call : (b : Bool) → lock_call b ≡ lock_call (not b) → ⊥
other_call true e = cc
other_call false e = cc

pub agrees_same : (b : Bool) → agrees b b ≡ 1
agrees_same true = refl
agrees_same false = refl

pub agrees_other : (b : Bool) → agrees b (not b) ≡ 0
agrees_other true = refl
agrees_other false = refl

-- the same told of the other call
pub turn_round : (h : List Event) (b : Bool) (owed others : ℕ) (lock : Bool) (c : Config) → IsBalanced h b owed others lock c → IsBalanced h (not b) others owed lock c
turn_round h true owed others lock c is = record { held = is.held; state = is.state; own = is.other; other = is.own; own_all = is.other_all; other_all = is.own_all; sum = round is.held lock is.sum }
  where
    round : (x y : Bool) → owed + length is.other + agrees true x ≡ others + length is.own + agrees true y → others + length is.own + agrees false x ≡ owed + length is.other + agrees false y
    round true true sum = omega (arith, sum)
    round true false sum = omega (arith, sum)
    round false true sum = omega (arith, sum)
    round false false sum = omega (arith, sum)
turn_round h false owed others lock c is = record { held = is.held; state = is.state; own = is.other; other = is.own; own_all = is.other_all; other_all = is.own_all; sum = round is.held lock is.sum }
  where
    round : (x y : Bool) → owed + length is.other + agrees false x ≡ others + length is.own + agrees false y → others + length is.own + agrees true x ≡ owed + length is.other + agrees true y
    round true true sum = omega (arith, sum)
    round true false sum = omega (arith, sum)
    round false true sum = omega (arith, sum)
    round false false sum = omega (arith, sum)

module _ (functions : Item → Name → Bool) (h : List Event) (alternates : IsAlternating functions h) where
  module _ (c d : Config) (p : Placed) (is : IsPlacing (Step Mutex) h c p d) where
    still_placed : (call : Call) (at : ℕ) → IsPlacedOpen h c.1 call at → IsPlacedOpen h d.1 call at
    still_placed call at was = (was.0, was.1, was.2, was.3, is.added.kept (was.0, was.2) was.4)

    here : (call : Call) → is.call ≡ call → IsPlacedOpen h d.1 call p.at
    here call same = (is.process, is.key, p.reply, subst (IsOpen h p.at is.process is.key) same is.is_open, is.added.has)

    not_yet : (call : Call) → IsPlacedOpen h c.1 call p.at → ⊥
    not_yet call was =
        let one = one_caller h p.at is.process was.0 is.key was.1 is.call call is.is_open.begins was.3.begins in
        is.added.absent was.2 (subst (λ q. Contains c.1 (q, was.2)) (sym one) was.4)

    was_placed : (call : Call) (at : ℕ) → IsPlacedOpen h d.1 call at → IsPlacedOpen h c.1 call at ⊎ ((at ≡ p.at) × (is.call ≡ call))
    was_placed call at now = elim (is.added.was (now.0, now.2) now.4) [
      | inl old ↦ inl (now.0, now.1, now.2, now.3, old)
      | inr new ↦
          let process : is.process ≡ now.0 = ap (λ (x : ℕ × Reply). x.0) new in
          let place : at ≡ p.at = one_open functions h alternates at p.at now.0 now.1 is.key call is.call now.3 (subst (λ q. IsOpen h p.at q is.key is.call) process is.is_open) in
          inr (place, one_call h p.at is.process now.0 is.key now.1 is.call call is.is_open.begins (subst (λ n. IsOpen h n now.0 now.1 call) place now.3).begins)
    ]

    placed_more : (call : Call) (places : List ℕ) → is.call ≡ call → AreAll (IsPlacedOpen h c.1 call) places → AreAll (IsPlacedOpen h d.1 call) (p.at ∷ places)
    placed_more call places same all = all_with {P = IsPlacedOpen h c.1 call} {Q = IsPlacedOpen h d.1 call} places all p.at (not_yet call) (here call same) (still_placed call) (λ at now. elim (was_placed call at now) [
      | inl old ↦ inl old
      | inr new ↦ inr new.0
    ])

    placed_same : (call : Call) (places : List ℕ) → (is.call ≡ call → ⊥) → AreAll (IsPlacedOpen h c.1 call) places → AreAll (IsPlacedOpen h d.1 call) places
    placed_same call places other all = all_map {P = IsPlacedOpen h c.1 call} {Q = IsPlacedOpen h d.1 call} places all (still_placed call) (λ at now. elim (was_placed call at now) [
      | inl old ↦ old
      | inr new ↦ absurd (other new.1)
    ])

    balanced_placing : (b : Bool) (owed others : ℕ) (lock : Bool) → IsBalanced h b owed others lock c → IsBalanced h b owed others lock d
    balanced_placing b owed others lock was = elim (turns b c.0 d.0 is.call p.reply is.steps) [
      | inl turn ↦
          let held : was.held ≡ not b = let e = sym was.state ∙ turn.1 in cc in
          let sum : owed + length was.other + agrees b (not b) ≡ others + length was.own + agrees b lock = subst (λ x. owed + length was.other + agrees b x ≡ others + length was.own + agrees b lock) held was.sum in
          let zero_is = agrees_other b in
          let one_is = agrees_same b in
          record {
            held = b;
            state = turn.2;
            own = p.at ∷ was.own;
            other = was.other;
            own_all = placed_more (lock_call b) was.own turn.0 was.own_all;
            other_all = placed_same (lock_call (not b)) was.other (λ e. other_call b (sym turn.0 ∙ e)) was.other_all;
            sum = omega (arith, sum, zero_is, one_is);
          }
      | inr turn ↦
          let held : was.held ≡ b = let e = sym was.state ∙ turn.1 in cc in
          let sum : owed + length was.other + agrees b b ≡ others + length was.own + agrees b lock = subst (λ x. owed + length was.other + agrees b x ≡ others + length was.own + agrees b lock) held was.sum in
          let zero_is = agrees_other b in
          let one_is = agrees_same b in
          record {
            held = not b;
            state = turn.2;
            own = was.own;
            other = p.at ∷ was.other;
            own_all = placed_same (lock_call b) was.own (λ e. other_call b (sym e ∙ turn.0)) was.own_all;
            other_all = placed_more (lock_call (not b)) was.other turn.0 was.other_all;
            sum = omega (arith, sum, zero_is, one_is);
          }
    ]

  still_placed_on : (c d : Config) (order : List Placed) → IsPlacedOn (Step Mutex) h c order d → (call : Call) (at : ℕ) → IsPlacedOpen h c.1 call at → IsPlacedOpen h d.1 call at
  still_placed_on c d order none call at was = was
  still_placed_on c d order (further {d = e} {p = p} before placing) call at was = still_placed e d p placing call at (still_placed_on c e _ before call at was)

  balanced_placed_on : (c d : Config) (order : List Placed) → IsPlacedOn (Step Mutex) h c order d → (b : Bool) (owed others : ℕ) (lock : Bool) → IsBalanced h b owed others lock c → IsBalanced h b owed others lock d
  balanced_placed_on c d order none b owed others lock was = was
  balanced_placed_on c d order (further {d = e} {p = p} before placing) b owed others lock was = balanced_placing e d p placing b owed others lock (balanced_placed_on c e _ before b owed others lock was)

-- after an invocation
module _ (functions : Item → Name → Bool) (h : List Event) (event : Event) (call : Call) (is : event.body ≡ Invoke call) (alternates : IsAlternating functions (with_event h event)) where
  after : List Event
  after = with_event h event

  module _ (c : Config) (of_lock : IsOfLock h c) where
    placed_before : (other : Call) (at : ℕ) → IsPlacedOpen after c.1 other at → IsPlacedOpen h c.1 other at
    unfolding after
    placed_before other at now = elim (open_back h event at now.0 now.1 other now.3) [
      | inl old ↦ (now.0, now.1, now.2, old, now.4)
      | inr new ↦
          let was = of_lock.1.placed.sound now.0 now.2 now.4 in
          let too = open_beside h event call is was.0 now.0 was.1 was.2 was.3 in
          let same = one_open functions (with_event h event) alternates was.0 at now.0 was.1 now.1 was.2 other too now.3 in
          let inside = slice_get_within h was.0 _ was.3.begins in
          let place = new.0 in
          absurd (omega (arith, same, inside, place))
    ]

    placed_after : (other : Call) (at : ℕ) → IsPlacedOpen h c.1 other at → IsPlacedOpen after c.1 other at
    unfolding after
    placed_after other at was = (was.0, was.1, was.2, open_beside h event call is at was.0 was.1 other was.3, was.4)

  pub invoked_owed : (other : Call) (debts : List Debt) → AreOwed h other debts → AreOwed (with_event h event) other debts
  unfolding after
  invoked_owed other debts owed c of_lock k debt there =
      let from = (after_invocation (start Mutex) (Step Mutex) functions h event call is alternates).reached c of_lock in
      least_map (k + 1) (λ at. IsPlacedOpen h from.0.1 other at × (at < debt.until)) (λ at. IsPlacedOpen (with_event h event) c.1 other at × (at < debt.until))
      (λ at was. (still_placed_on functions (with_event h event) alternates from.0 c from.1 from.3 other at (placed_after from.0 from.2 other at was.0), was.1)) (owed from.0 from.2 k debt there)

  pub invoked_balanced : (b : Bool) (owed others : ℕ) (lock : Bool) → ((c : Config) → IsOfLock h c → IsBalanced h b owed others lock c) → (c : Config) → IsOfLock (with_event h event) c → IsBalanced (with_event h event) b owed others lock c
  unfolding after
  invoked_balanced b owed others lock balanced c of_lock =
      let from = (after_invocation (start Mutex) (Step Mutex) functions h event call is alternates).reached c of_lock in
      let was = balanced from.0 from.2 in
      balanced_placed_on functions (with_event h event) alternates from.0 c from.1 from.3 b owed others lock (record {
        held = was.held;
        state = was.state;
        own = was.own;
        other = was.other;
        own_all = all_map {P = IsPlacedOpen h from.0.1 (lock_call b)} {Q = IsPlacedOpen (with_event h event) from.0.1 (lock_call b)} was.own was.own_all (placed_after from.0 from.2 (lock_call b)) (placed_before from.0 from.2 (lock_call b));
        other_all = all_map {P = IsPlacedOpen h from.0.1 (lock_call (not b))} {Q = IsPlacedOpen (with_event h event) from.0.1 (lock_call (not b))} was.other was.other_all (placed_after from.0 from.2 (lock_call (not b))) (placed_before from.0 from.2 (lock_call (not b)));
        sum = was.sum;
      })
