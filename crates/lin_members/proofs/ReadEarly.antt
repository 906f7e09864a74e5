-- A write and a read at once: the read of the value from before the write.
use Rattle.std.proofs.Common.{◌≡◌, ℕ, zero, suc, ◌<◌, true, List, [], ◌∷◌, pos, Contains, inl, inr, refl, sym, ap, subst, ◌∙◌, arith, Some}
use Rattle.lin_events.specs.declared.items.Item.{Item}
use Rattle.lin_events.specs.declared.items.Item.TheVariants.{Int}
use Rattle.lin_events.specs.declared.calls.Call.{Call}
use Rattle.lin_events.specs.declared.calls.Call.TheVariants.{Read, Write}
use Rattle.lin_events.specs.declared.calls.Name.TheVariants as Named
use Rattle.lin_events.specs.declared.calls.Reply.{Reply}
use Rattle.lin_events.specs.declared.calls.Reply.TheVariants as Replied
use Rattle.lin_events.specs.declared.calls.Val.{Val}
use Rattle.lin_events.specs.declared.calls.Val.TheVariants.{Nil}
use Rattle.lin_events.specs.declared.events.Body.TheVariants.{Invoke, Ok, Info}
use Rattle.lin_events.specs.declared.events.Event.{Event}
use Rattle.lin_events.specs.Operations.{IsEvent, IsOf, IsOperation, IsEnd, IsOpen}
use Rattle.lin_events.specs.WellFormed.{IsWellFormed}
use Rattle.lin_events.specs.WellFormedLaws.{WellFormedIsAlternating}
use Rattle.lin_events.specs.lemmas.OneMore.{alternates_before, one_call, one_caller}
use Rattle.lin_objects.specs.declared.kinds.Kind.TheVariants.{Register}
use Rattle.lin_objects.specs.declared.states.State.{State}
use Rattle.lin_objects.specs.declared.states.State.TheVariants.{Value}
use Rattle.lin_objects.specs.Observing.{observes, observers_keep}
use Rattle.lin_objects.specs.Steps.{Step, start}
use Rattle.lin_order.specs.Configurations.{IsPlacing, IsRising}
use Rattle.lin_order.specs.ConfigurationExamples.{of_registers, event}
use Rattle.lin_order.specs.ConfigurationLaws.{with_event}
use Rattle.lin_members.specs.Covers.{HasCrashed}
use Rattle.lin_members.specs.Members.{Member, IsWatching, IsGiven, Leads, IsComplete, Dominates, here, more}
use Rattle.lin_members.specs.MemberLaws.{first_member, InvocationKeepsLaw, ObserverSearchLaw, StartCompleteLaw}
use Rattle.lin_members.specs.Rounds.{IsTrailOf, root, begins, puts}
use Rattle.lin_members.specs.RoundLaws.{TrailInvocationLaw, TrailObserverLaw, TrailPlacesLaw, TrailStartLaw}
use Rattle.lin_members.specs.MemberExamples.{both, read_returned, in_turn, write, read, SpellsTheseRounds, IsTooLate, CoversCrashed}
use Rattle.lin_members.specs.lemmas.Choosing.{nothing_in}
use Rattle.lin_frontier.specs.lemmas.Inserting.{first_or_rest}
use Rattle.lin_members.specs.lemmas.Dominating.{dominates_itself}
use Rattle.lin_members.specs.lemmas.Ways.{covers_from}
use Rattle.lin_members.proofs.Searching.{one_event}
use Rattle.lin_members.proofs.ReadReturned.{read_alternates}

rises_alone : (x : ℕ × Reply) → IsRising (x ∷ [])
rises_alone x i j d below within = absurd (omega arith)

only : {A : Type 0} (x y : A) → Contains (x ∷ []) y → x ≡ y
only x y there = elim (first_or_rest x [] y there) [
  | inl same ↦ same
  | inr none ↦ absurd (nothing_in y none)
]

module _ (v : Val) where
  only_calls : (k : ℕ) (e : Event) → IsEvent (both v) k e → (call : Call) × (e.body ≡ Invoke call)
  only_calls zero e is = (Write v, sym (ap (λ (x : Event). x.body) (some_same is)))
    where
      some_same : {a b : Event} → Some a ≡ Some b → a ≡ b
      some_same p = cc
  only_calls (suc zero) e is = (Read, sym (ap (λ (x : Event). x.body) (some_same is)))
    where
      some_same : {a b : Event} → Some a ≡ Some b → a ≡ b
      some_same p = cc
  only_calls (suc (suc k)) e is = cc

  all_open : (at process : ℕ) (key : Item) (call : Call) → IsOperation (both v) at process key call → IsOpen (both v) at process key call
  all_open at process key call is = record {
    begins = is;
    no_ok = λ end reply ok. let body = sym (only_calls end ok.0 ok.1.ends).1 ∙ ok.3 in cc;
    no_fail = λ f. let body = sym (only_calls f.0 f.1 f.2.ends).1 ∙ f.4 in cc;
  }

  none_crashed : (process : ℕ) → HasCrashed (both v) process → ⊥
  none_crashed process c = let body = sym (only_calls c.4.0 c.4.1 c.4.2.ends).1 ∙ c.4.4 in cc

  -- the read watches, and the start gives it nil
  watching : IsWatching (observes Register) (both v) 1
  watching = record { at = 1; key = Int (pos 0); call = Read; is_open = all_open 1 1 (Int (pos 0)) Read refl; observer = refl; alive = none_crashed 1 }

  given : IsGiven (Step Register) (both v) (Value Nil) (1, Replied.Value Nil)
  given = record { at = 1; key = Int (pos 0); call = Read; next = Value Nil; is_open = all_open 1 1 (Int (pos 0)) Read refl; steps = (refl, refl) }

  -- the write can be placed
  abbrev placing : IsPlacing (Step Register) (both v) (Value Nil, []) write (Value v, (0, Replied.Done) ∷ [])
  placing = record {
    process = 0;
    key = Int (pos 0);
    call = Write v;
    is_open = all_open 0 0 (Int (pos 0)) (Write v) refl;
    steps = (refl, refl);
    added = record {
      absent = λ other there. nothing_in (0, other) there;
      before = λ i j d below within. absurd (omega arith);
      rising = rises_alone (0, Replied.Done);
      kept = λ x there. absurd (nothing_in x there);
      has = (0, omega arith, refl);
      was = λ x there. inr (only (0, Replied.Done) x there);
    };
  }

  pub early : Leads (Step Register) (observes Register) (both v) (first_member (start Register)) (Value v, (0, Replied.Done) ∷ (1, Replied.Value Nil) ∷ [])
  early = record {
    placed = (0, Replied.Done) ∷ [];
    way = more here (write, placing, refl);
    before = rises_alone (0, Replied.Done);
    rising = two_rise;
    part = λ x there. (0, omega arith, only (0, Replied.Done) x there);
    each = λ x there. elim (first_or_rest (0, Replied.Done) ((1, Replied.Value Nil) ∷ []) x there) [
      | inl same ↦ inl (0, omega arith, same)
      | inr rest ↦ inr (
        subst (λ (y : ℕ × Reply). IsWatching (observes Register) (both v) y.0) (only (1, Replied.Value Nil) x rest) watching,
        inl (inr (subst (IsGiven (Step Register) (both v) (Value Nil)) (only (1, Replied.Value Nil) x rest) given)),
      )
    ];
  }
    where
      two_rise : IsRising ((0, Replied.Done) ∷ (1, Replied.Value Nil) ∷ [])
      two_rise i zero d below within = absurd (omega arith)
      two_rise zero (suc zero) d below within = omega arith
      two_rise (suc i) (suc zero) d below within = absurd (omega arith)
      two_rise i (suc (suc j)) d below within = absurd (omega arith)

  pub none_dominates : Dominates (observes Register) (both v) (record { state = Value v; placed = (0, Replied.Done) ∷ []; offers = [] })
      (record { state = Value v; placed = (0, Replied.Done) ∷ []; offers = (0, (1, Replied.Value Nil)) ∷ [] }) → ⊥
  none_dominates dominates =
      let offer = dominates.offered (1, Replied.Value Nil) watching (λ other there. let same = ap (λ (x : ℕ × Reply). x.0) (only (0, Replied.Done) (1, other) there) in omega arith) (0, (0, omega arith, refl)) in
      nothing_in (offer.0, (1, Replied.Value Nil)) offer.1

  module _ (alternating : WellFormedIsAlternating) where
    three_formed : IsWellFormed of_registers (read_returned v)
    three_formed = (alternating of_registers (read_returned v)).1 (read_alternates v)

    two_formed : IsWellFormed of_registers (both v)
    two_formed = (alternating of_registers (both v)).1 (alternates_before (both v) (event 1 (Ok Named.Read (Replied.Value Nil))) of_registers (read_alternates v))

    one_formed : IsWellFormed of_registers (event 0 (Invoke (Write v)) ∷ [])
    one_formed = (alternating of_registers (event 0 (Invoke (Write v)) ∷ [])).1 (alternates_before (event 0 (Invoke (Write v)) ∷ []) (event 1 (Invoke Read)) of_registers
        (alternates_before (both v) (event 1 (Ok Named.Read (Replied.Value Nil))) of_registers (read_alternates v)))

    first : Member State
    first = first_member (start Register)

    pub still : StartCompleteLaw (start Register) (Step Register) → InvocationKeepsLaw (start Register) (Step Register) → ObserverSearchLaw (start Register) (Step Register)
        → IsWellFormed of_registers (read_returned v) × IsComplete (start Register) (Step Register) (observes Register) (read_returned v) (first_member (start Register) ∷ [])
    still at_start invoked returned = (
      three_formed,
      returned (observes Register) of_registers (both v) (event 1 (Ok Named.Read (Replied.Value Nil))) Named.Read (Replied.Value Nil) refl three_formed
          (λ at key call is_open. observed at key call is_open.begins)
          (first_member (start Register) ∷ []) (first_member (start Register) ∷ []) (first_member (start Register) ∷ [])
          (λ m there without added. absurd (none_placed m there (1, Replied.Value Nil) added.has))
          (λ m there absent. itself (both v) m there)
          (λ m there. inl (itself (read_returned v) m there))
          (invoked (observes Register) (observers_keep Register) of_registers (event 0 (Invoke (Write v)) ∷ []) (event 1 (Invoke Read)) Read refl two_formed (first_member (start Register) ∷ [])
          (invoked (observes Register) (observers_keep Register) of_registers [] (event 0 (Invoke (Write v))) (Write v) refl one_formed (first_member (start Register) ∷ []) (at_start (observes Register)))),
    )
      where
        observed : (at : ℕ) (key : Item) (call : Call) → IsOperation (both v) at 1 key call → observes Register call ≡ true
        observed zero key call is = let same = one_caller (both v) 0 0 1 (Int (pos 0)) key (Write v) call refl is in absurd (omega arith)
        observed (suc zero) key call is = ap (observes Register) (one_call (both v) 1 1 1 key (Int (pos 0)) call Read is refl)
        observed (suc (suc at)) key call is = cc

        none_placed : (m : Member State) → Contains (first_member (start Register) ∷ []) m → (x : ℕ × Reply) → Contains m.placed x → ⊥
        none_placed m there x is = nothing_in x (subst (λ (n : Member State). Contains n.placed x) (sym (only (first_member (start Register)) m there)) is)

        itself : (h : List Event) (m : Member State) → Contains (first_member (start Register) ∷ []) m
            → (n : Member State) × Contains (first_member (start Register) ∷ []) n × Dominates (observes Register) h n m
        itself h m there = (m, there, dominates_itself (observes Register) h m (subst (λ (n : Member State). IsRising n.placed) (only (first_member (start Register)) m there) (λ i j d below within. absurd (omega arith))))

    -- after the write, with what the start gave on offer to the read
    written : Member State
    written = record { state = Value v; placed = (0, Replied.Done) ∷ []; offers = (0, (1, Replied.Value Nil)) ∷ [] }

    pub put_before : TrailStartLaw (start Register) (Step Register) → TrailInvocationLaw (start Register) (Step Register) → TrailPlacesLaw (start Register) (Step Register)
        → TrailObserverLaw (start Register) (Step Register)
        → IsTrailOf (start Register) (Step Register) (observes Register) (read_returned v) (Value Nil ∷ Value v ∷ []) ((read ∷ []) ∷ (write ∷ []) ∷ []) (record { state = Value v; placed = (0, Replied.Done) ∷ []; offers = [] })
    unfolding written
    put_before at_start invoked places returned =
        returned (observes Register) (observers_keep Register) of_registers (both v) (event 1 (Ok Named.Read (Replied.Value Nil))) Named.Read (Replied.Value Nil) refl three_formed
        (Value Nil ∷ Value v ∷ []) ([] ∷ (write ∷ []) ∷ []) written (record { state = Value v; placed = (0, Replied.Done) ∷ []; offers = [] })
        (places (observes Register) of_registers (both v) two_formed (Value Nil ∷ []) ([] ∷ []) (first_member (start Register)) written
        (invoked (observes Register) of_registers (event 0 (Invoke (Write v)) ∷ []) (event 1 (Invoke Read)) Read refl two_formed (Value Nil ∷ []) ([] ∷ []) (first_member (start Register))
        (invoked (observes Register) of_registers [] (event 0 (Invoke (Write v))) (Write v) refl one_formed (Value Nil ∷ []) ([] ∷ []) (first_member (start Register)) (at_start (observes Register))))
        write placing
        (λ round x there. let same = only (0, (1, Replied.Value Nil)) (round, x) there in
        inr (ap (λ (y : ℕ × (ℕ × Reply)). suc y.0) (sym same), subst (λ (y : ℕ × (ℕ × Reply)). IsWatching (observes Register) (both v) y.1.0) same watching, subst (λ (y : ℕ × (ℕ × Reply)). IsGiven (Step Register) (both v) (Value Nil) y.1) same given)))
        1 (Int (pos 0)) Read (all_open 1 1 (Int (pos 0)) Read refl) refl 0 (inl (0, omega arith, refl))
        (λ other there. let same = ap (λ (x : ℕ × Reply). x.0) (only (0, Replied.Done) (1, other) there) in omega arith)
        refl refl (λ x there. absurd (nothing_in x there)) (λ round other there. nothing_in (round, (1, other)) there)

pub these_rounds : SpellsTheseRounds
these_rounds = puts refl (begins refl root)

pub too_late : IsTooLate
too_late v offer = offer.late 1 (write ∷ []) (omega arith) refl write (0, omega arith, refl) (1, Replied.Done, (event 0 (Ok Named.Write Replied.Done), ends, Named.Write, refl), omega arith)
  where
    ends : IsEnd (in_turn v) 0 1 (event 0 (Ok Named.Write Replied.Done))
    ends = record { process = 0; key = Int (pos 0); call = Write v; begins = refl; later = omega arith; ends = refl; same = refl; least = λ k after before of_it. omega arith }

pub covers_crashed : CoversCrashed
covers_crashed v state = covers_from (HasCrashed (with_event (both v) (event 0 (Info Named.Write)))) (state, []) (state, (0, Replied.Done) ∷ []) refl (λ x there. absurd (nothing_in x there))
    (λ x there. inr (subst (λ (y : ℕ × Reply). HasCrashed (with_event (both v) (event 0 (Info Named.Write))) y.0) (only (0, Replied.Done) x there) (0, Int (pos 0), Write v, refl, (2, event 0 (Info Named.Write), ends, Named.Write, refl))))
  where
    ends : IsEnd (with_event (both v) (event 0 (Info Named.Write))) 0 2 (event 0 (Info Named.Write))
    ends = record { process = 0; key = Int (pos 0); call = Write v; begins = refl; later = omega arith; ends = refl; same = refl; least = least }
      where
        least : (k : ℕ) → 0 < k → k < 2 → IsOf (with_event (both v) (event 0 (Info Named.Write))) 0 k → ⊥
        least zero after before of_it = omega arith
        least (suc zero) after before of_it =
            let same = ap (λ (e : Event). e.process) (one_event (with_event (both v) (event 0 (Info Named.Write))) 1 (event 1 (Invoke Read)) of_it.0 refl of_it.1) ∙ of_it.2 in
            omega arith
        least (suc (suc k)) after before of_it = omega arith
