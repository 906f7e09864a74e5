-- Ways of a member: what they keep, and coverings without a list for the part.
use Rattle.std.proofs.Common.{◌≡◌, ℕ, ◌<◌, Bool, false, List, Contains, ◌⊎◌, inl, inr, refl, subst}
use Rattle.std.proofs.lemmas.List.Elements.{All-contains}
use Rattle.lin_events.specs.declared.items.Item.{Item}
use Rattle.lin_events.specs.declared.calls.Call.{Call}
use Rattle.lin_events.specs.declared.calls.Reply.{Reply}
use Rattle.lin_events.specs.declared.events.Event.{Event}
use Rattle.lin_events.specs.Operations.{IsOpen}
use Rattle.lin_order.specs.Configurations.{IsRising}
use Rattle.lin_members.specs.Covers.{Covers, HasCrashed}
use Rattle.lin_members.specs.Members.{Member, Meets, Way, here, more, IsOnOffer, IsReady, LeadsToCover}
use Rattle.lin_members.specs.lemmas.Choosing.{Chosen, all_from, choose, stands}
use Rattle.lin_frontier.specs.lemmas.Inserting.{rising_once}

-- one configuration covers another
module _ {S : Type 0} (crashed : ℕ → Type 0) (c d : S × List (ℕ × Reply)) where
  pub covers_from : c.0 ≡ d.0 → ((x : ℕ × Reply) → Contains c.1 x → Contains d.1 x) → ((x : ℕ × Reply) → Contains d.1 x → Contains c.1 x ⊎ crashed x.0) → Covers crashed c d
  covers_from same within rest = record { state = same; part = all_from (Contains d.1) c.1 within; rest = all_from (λ x. Contains c.1 x ⊎ crashed x.0) d.1 rest }

  pub covers_within : Covers crashed c d → (x : ℕ × Reply) → Contains c.1 x → Contains d.1 x
  covers_within is x there = All-contains (Contains d.1) c.1 x is.part there

  pub covers_rest : Covers crashed c d → (x : ℕ × Reply) → Contains d.1 x → Contains c.1 x ⊎ crashed x.0
  covers_rest is x there = All-contains (λ y. Contains c.1 y ⊎ crashed y.0) d.1 x is.rest there

module _ {S : Type 0} (step : S → Call → S → Reply → Type 0) (observes : Call → Bool) (h : List Event) where
  pub way_kept : (b c : S × List (ℕ × Reply)) → Way step observes h b c → (x : ℕ × Reply) → Contains b.1 x → Contains c.1 x
  way_kept b c here x there = there
  way_kept b c (more {c = d} way u) x there = u.1.added.kept x (way_kept b d way x there)

  pub way_start : (b c : S × List (ℕ × Reply)) → Way step observes h b c → IsRising c.1 → IsRising b.1
  way_start b c here rising = rising
  way_start b c (more {c = d} way u) rising = way_start b d way u.1.added.before

  -- what stands at the end of a way stood at its beginning, or is open and no observer
  pub way_was : (b c : S × List (ℕ × Reply)) → Way step observes h b c → (x : ℕ × Reply) → Contains c.1 x
      → Contains b.1 x ⊎ ((at : ℕ) × (key : Item) × (call : Call) × IsOpen h at x.0 key call × (observes call ≡ false))
  way_was b c here x there = inl there
  way_was b c (more {c = d} way u) x there = elim (u.1.added.was x there) [
    | inl old ↦ way_was b d way x old
    | inr new ↦ inr (u.0.at, u.1.key, u.1.call, subst (λ (y : ℕ × Reply). IsOpen h u.0.at y.0 u.1.key u.1.call) new u.1.is_open, u.2)
  ]

  pub from_covers : (m : Member S) (c : S × List (ℕ × Reply)) → IsRising c.1 → LeadsToCover step observes h m c → Meets step observes h (m.state, m.placed) (IsOnOffer m) c.0 c.1
  from_covers m c rising is = subst (λ s. Meets step observes h (m.state, m.placed) (IsOnOffer m) s c.1) is.2.state (record {
    placed = is.1.placed;
    way = is.1.way;
    before = is.1.before;
    rising = rising;
    part = λ x there. covers_within (HasCrashed h) is.0 c is.2 x (is.1.part x there);
    each = λ x there. elim (covers_rest (HasCrashed h) is.0 c is.2 x there) [
      | inl kept ↦ elim (is.1.each x kept) [
        | inl old ↦ inl old
        | inr ready ↦ inr (inl ready)
      ]
      | inr crashed ↦ inr (inr crashed)
    ];
  })

  pub to_covers : (m : Member S) (c : S × List (ℕ × Reply)) → Meets step observes h (m.state, m.placed) (IsOnOffer m) c.0 c.1 → LeadsToCover step observes h m c
  to_covers m c is = (
    (c.0, k.chosen),
    record {
      placed = is.placed;
      way = is.way;
      before = is.before;
      rising = k.pairs is.rising;
      part = λ x there. elim (k.rest x (is.part x there)) [
        | inl kept ↦ kept
        | inr out ↦ absurd (out.0 there)
      ];
      each = λ x there. k.holds x there;
    },
    covers_from (HasCrashed h) (c.0, k.chosen) c refl k.within (λ x there. elim (k.rest x there) [ inl kept ↦ inl kept | inr out ↦ inr out.1 ]),
  )
    where
      k : Chosen (λ (p : ℕ × Reply) (q : ℕ × Reply). p.0 < q.0)
          (λ x. Contains is.placed x ⊎ IsReady step observes h (IsOnOffer m) (m.state, m.placed) (c.0, is.placed) is.way x)
          (λ x. (Contains is.placed x → ⊥) × HasCrashed h x.0) c.1
      k = choose _ _ _ c.1 (λ x there. elim (stands x.0 is.placed) [
        | inl some ↦ inl (inl (subst (λ r. Contains is.placed (x.0, r)) (rising_once c.1 x.0 some.0 x.1 is.rising (is.part (x.0, some.0) some.1) there) some.1))
        | inr none ↦ elim (is.each x there) [
          | inl old ↦ inl (inl old)
          | inr other ↦ elim other [
            | inl ready ↦ inl (inr ready)
            | inr crashed ↦ inr (none x.1, crashed)
          ]
        ]
      ])
