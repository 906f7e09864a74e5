-- What a member leads to it leads to by way of another.
use Rattle.std.proofs.Common.{ℕ, Bool, List, Contains, ◌⊎◌, inl, inr, subst}
use Rattle.lin_events.specs.declared.calls.Call.{Call}
use Rattle.lin_events.specs.declared.calls.Reply.{Reply}
use Rattle.lin_events.specs.declared.events.Event.{Event}
use Rattle.lin_order.specs.Configurations.{IsRising}
use Rattle.lin_members.specs.Covers.{HasCrashed}
use Rattle.lin_members.specs.Members.{Meets, Member, IsGiven, IsOffered, IsOnOffer, IsWatching, LeadsToMember, Way, here, more}
use Rattle.lin_members.specs.lemmas.Choosing.{stands}
use Rattle.lin_frontier.specs.lemmas.Inserting.{rising_once}
use Rattle.lin_members.specs.lemmas.Ways.{way_kept}
use Rattle.lin_members.specs.lemmas.Following.{Follows, follow}

module _ {S : Type 0} (step : S → Call → S → Reply → Type 0) (observes : Call → Bool) (h : List Event) (offers : ℕ × Reply → Type 0) (b c : S × List (ℕ × Reply)) (first : Way step observes h b c) where
  -- one way after another
  after : (d : S × List (ℕ × Reply)) → Way step observes h c d → Way step observes h b d
  after d here = first
  after d (more {c = e} way u) = more (after e way) u

  -- what may be had in the middle, or later, may be had on the whole
  after_offered : (d : S × List (ℕ × Reply)) (way : Way step observes h c d) (x : ℕ × Reply)
      → IsOffered step observes h (λ y. IsOffered step observes h offers b c first y ⊎ IsGiven step h c.0 y) c d way x ⊎ IsGiven step h d.0 x
      → IsOffered step observes h offers b d (after d way) x ⊎ IsGiven step h d.0 x
  unfolding after
  after_offered d here x ready = elim ready [
    | inl before ↦ before
    | inr now ↦ inr now
  ]
  after_offered d (more {c = e} way u) x ready = elim ready [
    | inl before ↦ inl (after_offered e way x before)
    | inr now ↦ inr now
  ]

module _ {S : Type 0} (step : S → Call → S → Reply → Type 0) (observes : Call → Bool) (h : List Event) (n m : Member S) (leads : LeadsToMember step observes h n m) where
  abbrev Between : ℕ × Reply → Type 0
  Between x = IsOffered step observes h (IsOnOffer n) (n.state, n.placed) (m.state, leads.placed) leads.way x ⊎ IsGiven step h m.state x

  -- what meets a configuration from the member meets it from the one that leads to it
  pub meets_from : (t : S) (q : List (ℕ × Reply)) → Meets step observes h (m.state, m.placed) (IsOnOffer m) t q → Meets step observes h (n.state, n.placed) (IsOnOffer n) t q
  meets_from t q is = record {
    placed = f.placed;
    way = after step observes h (IsOnOffer n) (n.state, n.placed) (m.state, leads.placed) leads.way (t, f.placed) f.way';
    before = f.sorted;
    rising = is.rising;
    part = λ x there. is.part x (f.part x there);
    each = λ x there. elim (is.each x there) [
      | inl placed ↦ elim (f.rest x placed) [
        | inl kept ↦ inl kept
        | inr crashed ↦ inr (inr crashed)
      ]
      | inr other ↦ elim other [
        | inl ready ↦ elim (stands x.0 leads.placed) [
          | inl some ↦
              let last = way_kept step observes h (m.state, leads.placed) (t, f.placed) f.way' (x.0, some.0) some.1 in
              inl (subst (λ r. Contains f.placed (x.0, r)) (rising_once q x.0 some.0 x.1 is.rising (is.part (x.0, some.0) (f.part (x.0, some.0) last)) there) last)
          | inr absent ↦ inr (inl (
            ready.0,
            after_offered step observes h (IsOnOffer n) (n.state, n.placed) (m.state, leads.placed) leads.way (t, f.placed) f.way' x (elim ready.1 [
              | inl offered ↦ inl (f.offered x (ready.0, absent) offered)
              | inr now ↦ inr now
            ]),
          ))
        ]
        | inr crashed ↦ inr (inr crashed)
      ]
    ];
  }
    where
      f : Follows step observes h h (m.state, m.placed) (m.state, leads.placed) (IsOnOffer m) Between (λ x. HasCrashed h x.0)
          (λ x. IsWatching observes h x.0 × ((other : Reply) → Contains leads.placed (x.0, other) → ⊥)) (t, is.placed) is.way
      f = follow step observes h h m.state m.placed leads.placed (IsOnOffer m) Between _ _ leads.sorted leads.part leads.rest
          (λ x keep offered. leads.offered x keep.0 keep.1 offered) (λ x keep at key call is_open. is_open)
          (t, is.placed) is.way (λ at p key call reply is_open no' absent there. is_open)

pub leads_to_itself : {S : Type 0} (step : S → Call → S → Reply → Type 0) (observes : Call → Bool) (h : List Event) (n : Member S) → IsRising n.placed → LeadsToMember step observes h n n
leads_to_itself step observes h n sorted =
    record { placed = n.placed; way = here; sorted = sorted; part = λ x there. there; rest = λ x there. inl there; offered = λ x watches absent offer. inl offer }
