-- Taking one process's offers.
use Rattle.std.proofs.Common.{◌≡◌, ◌≢◌, ℕ, Bool, List, Contains, ◌⊎◌, inl, inr, sym, ap, subst}
use Rattle.std.proofs.lemmas.Bool.{cases_eq}
use Rattle.lin_events.specs.declared.calls.Call.{Call}
use Rattle.lin_events.specs.declared.calls.Reply.{Reply}
use Rattle.lin_events.specs.declared.events.Event.{Event}
use Rattle.lin_order.specs.Configurations.{IsAdded, IsRising}
use Rattle.lin_members.specs.Covers.{HasCrashed}
use Rattle.lin_members.specs.Members.{Meets, Member, IsOnOffer, Way, here, more, IsOffered, IsReady, LeadsToCover, DominatesAt}
use Rattle.lin_members.specs.MemberLaws.{IsSpread, SpreadingLaw}
use Rattle.lin_members.specs.lemmas.Choosing.{can_add, stands}
use Rattle.lin_members.specs.lemmas.Exchanging.{covered_by}
use Rattle.lin_frontier.specs.lemmas.Inserting.{rising_once}
use Rattle.lin_members.specs.lemmas.Ways.{way_kept, from_covers, to_covers}
use Rattle.lin_members.specs.lemmas.Following.{meets_over}
use Rattle.lin_members.specs.lemmas.Dominating.{covers_on, covers_sorted, passes_itself}

-- a way with one more operation placed from its beginning on
record Wider {S : Type 0} (step : S → Call → S → Reply → Type 0) (observes : Call → Bool) (h : List Event) (process : ℕ) (reply : Reply) (offers : ℕ × Reply → Type 0) (b : S × List (ℕ × Reply)) (wider : List (ℕ × Reply))
    (c : S × List (ℕ × Reply)) (way : Way step observes h b c) : Type 0 where
  placed : List (ℕ × Reply)
  way' : Way step observes h (b.0, wider) (c.0, placed)
  added : IsAdded process reply c.1 placed
  offered : (x : ℕ × Reply) → IsOffered step observes h offers b c way x → IsOffered step observes h offers (b.0, wider) (c.0, placed) way' x

module _ {S : Type 0} (step : S → Call → S → Reply → Type 0) (observes : Call → Bool) (h : List Event) where
  widen : (process : ℕ) (reply : Reply) (offers : ℕ × Reply → Type 0) (b : S × List (ℕ × Reply)) (wider : List (ℕ × Reply)) → IsAdded process reply b.1 wider
      → (c : S × List (ℕ × Reply)) (way : Way step observes h b c) → ((other : Reply) → Contains c.1 (process, other) → ⊥) → Wider step observes h process reply offers b wider c way
  widen process reply offers b wider added c here absent = record { placed = wider; way' = here; added = added; offered = λ x is. is }
  widen process reply offers b wider added c (more {c = d} way u) absent =
      let f = widen process reply offers b wider added d way (λ other there. absent other (u.1.added.kept (process, other) there)) in
      let more_of = can_add u.1.process u.0.reply f.placed f.added.rising (λ other there. elim (f.added.was (u.1.process, other) there) [
        | inl old ↦ u.1.added.absent other old
        | inr new ↦ absent u.0.reply (subst (λ q. Contains c.1 (q, u.0.reply)) (sym (ap (λ (x : ℕ × Reply). x.0) new)) u.1.added.has)
      ]) in
      record {
        placed = more_of.0;
        way' = more f.way' (u.0, record { process = u.1.process; key = u.1.key; call = u.1.call; is_open = u.1.is_open; steps = u.1.steps; added = more_of.1 }, u.2);
        added = record {
          absent = absent;
          before = u.1.added.rising;
          rising = more_of.1.rising;
          kept = λ x there. elim (u.1.added.was x there) [
            | inl old ↦ more_of.1.kept x (f.added.kept x old)
            | inr new ↦ subst (Contains more_of.0) new more_of.1.has
          ];
          has = more_of.1.kept (process, reply) f.added.has;
          was = λ x there. elim (more_of.1.was x there) [
            | inl old ↦ elim (f.added.was x old) [
              | inl before ↦ inl (u.1.added.kept x before)
              | inr new ↦ inr new
            ]
            | inr now ↦ inl (subst (Contains c.1) now u.1.added.has)
          ];
        };
        offered = λ x is. elim is [
          | inl earlier ↦ inl (f.offered x earlier)
          | inr now ↦ inr now
        ];
      }

  -- what was on offer on a way was so at its beginning, or is so whatever was on offer there
  first_or_later : (offers others : ℕ × Reply → Type 0) (b c : S × List (ℕ × Reply)) (way : Way step observes h b c) (x : ℕ × Reply) → IsOffered step observes h offers b c way x
      → offers x ⊎ IsOffered step observes h others b c way x
  first_or_later offers others b c here x is = inl is
  first_or_later offers others b c (more {c = d} way u) x is = elim is [
    | inl earlier ↦ elim (first_or_later offers others b d way x earlier) [
      | inl first ↦ inl first
      | inr later ↦ inr (inl later)
    ]
    | inr now ↦ inr (inr now)
  ]

  narrow : (offers others : ℕ × Reply → Type 0) (b c : S × List (ℕ × Reply)) (way : Way step observes h b c) (x : ℕ × Reply) → (offers x → others x) → IsOffered step observes h offers b c way x → IsOffered step observes h others b c way x
  narrow offers others b c way x maps is = elim (first_or_later offers others b c way x is) [
    | inl first ↦ again b c way (maps first)
    | inr later ↦ later
  ]
    where
      again : (b c : S × List (ℕ × Reply)) (way : Way step observes h b c) → others x → IsOffered step observes h others b c way x
      again b c here first = first
      again b c (more {c = d} way u) first = inl (again b d way first)

  -- what meets a configuration from a point meets it from a member that dominates the point
  over : (n : Member S) (s : S) (placed : List (ℕ × Reply)) (offers : ℕ × Reply → Type 0) → DominatesAt observes h n s placed offers → (c : S × List (ℕ × Reply)) → IsRising c.1
      → Meets step observes h (s, placed) offers c.0 c.1 → LeadsToCover step observes h n c
  over n s placed offers dominates c rising is =
      to_covers step observes h n c (meets_over step observes h h (λ q. ⊥) (passes_itself observes h) s placed placed offers n
      (λ x there. there) (λ x there none. none) (λ x there. inl there) dominates c.0 c.1 c.1 rising (λ x there. there) (λ x there none. none) (λ x there. inl there)
      is (λ at p key call reply is_open never absent there ended. ended))

  module _ (process : ℕ) (m : Member S) (c : S × List (ℕ × Reply)) (is : Meets step observes h (m.state, m.placed) (IsOnOffer m) c.0 c.1) where
    abbrev Others : ℕ × Reply → Type 0
    Others x = (x.0 ≢ process) × IsOnOffer m x

    -- without the offers of the process, where its own pair can be had otherwise
    without_offers : ((x : ℕ × Reply) → Contains c.1 x → x.0 ≡ process → Contains is.placed x ⊎ (IsReady step observes h Others (m.state, m.placed) (c.0, is.placed) is.way x ⊎ HasCrashed h x.0))
        → Meets step observes h (m.state, m.placed) Others c.0 c.1
    without_offers of_it = record {
      placed = is.placed;
      way = is.way;
      before = is.before;
      rising = is.rising;
      part = is.part;
      each = λ x there. elim (cases_eq x.0 process) [
        | inl same ↦ of_it x there same
        | inr other ↦ elim (is.each x there) [
          | inl old ↦ inl old
          | inr rest ↦ inr (elim rest [
            | inl ready ↦ inl (
              ready.0,
              elim ready.1 [
                | inl offered ↦ inl (narrow (IsOnOffer m) Others (m.state, m.placed) (c.0, is.placed) is.way x (λ offer. (other, offer)) offered)
                | inr now ↦ inr now
              ],
            )
            | inr crashed ↦ inr crashed
          ])
        ]
      ];
    }

    -- with the pair of the process placed at once
    with_pair : (reply : Reply) → Contains c.1 (process, reply) → ((other : Reply) → Contains is.placed (process, other) → ⊥) → (wider : List (ℕ × Reply)) → IsAdded process reply m.placed wider
        → Meets step observes h (m.state, wider) Others c.0 c.1
    with_pair reply has absent wider added = record {
      placed = f.placed;
      way = f.way';
      before = f.added.rising;
      rising = is.rising;
      part = λ x there. elim (f.added.was x there) [
        | inl old ↦ is.part x old
        | inr new ↦ subst (Contains c.1) new has
      ];
      each = λ x there. elim (cases_eq x.0 process) [
        | inl same ↦ inl (
            let one = rising_once c.1 process x.1 reply is.rising (subst (λ q. Contains c.1 (q, x.1)) same there) has in
            subst (Contains f.placed) (λ i. (sym same i, sym one i)) f.added.has)
        | inr other ↦ elim (is.each x there) [
          | inl old ↦ inl (f.added.kept x old)
          | inr rest ↦ inr (elim rest [
            | inl ready ↦ inl (
              ready.0,
              elim ready.1 [
                | inl offered ↦ inl (narrow (IsOnOffer m) Others (m.state, wider) (c.0, f.placed) f.way' x (λ offer. (other, offer)) (f.offered x offered))
                | inr now ↦ inr now
              ],
            )
            | inr crashed ↦ inr crashed
          ])
        ]
      ];
    }
      where
        f : Wider step observes h process reply (IsOnOffer m) (m.state, m.placed) wider (c.0, is.placed) is.way
        f = widen process reply (IsOnOffer m) (m.state, m.placed) wider added (c.0, is.placed) is.way absent

    pub spread : (others : List (Member S)) → IsSpread observes h process others m → IsRising m.placed → (n : Member S) × Contains others n × LeadsToCover step observes h n c
    spread others held sorted = elim (stands process is.placed) [
      | inl some ↦ plain (λ x there same. inl (subst (Contains is.placed)
          (λ i. (sym same i, rising_once c.1 process some.0 x.1 is.rising (is.part (process, some.0) some.1) (subst (λ q. Contains c.1 (q, x.1)) same there) i)) some.1))
      | inr none ↦ elim (stands process c.1) [
        | inl some ↦ elim (is.each (process, some.0) some.1) [
          | inl old ↦ absurd (none some.0 old)
          | inr rest ↦ elim rest [
            | inl ready ↦ elim ready.1 [
              | inl offered ↦ elim (first_or_later (IsOnOffer m) Others (m.state, m.placed) (c.0, is.placed) is.way (process, some.0) offered) [
                | inl first ↦ taken some.0 some.1 none first
                | inr later ↦ plain (λ x there same. inr (inl (one some.0 some.1 (IsReady step observes h Others (m.state, m.placed) (c.0, is.placed) is.way) (ready.0, inl later) x there same)))
              ]
              | inr now ↦ plain (λ x there same. inr (inl (one some.0 some.1 (IsReady step observes h Others (m.state, m.placed) (c.0, is.placed) is.way) (ready.0, inr now) x there same)))
            ]
            | inr crashed ↦ plain (λ x there same. inr (inr (subst (HasCrashed h) (sym same) crashed)))
          ]
        ]
        | inr never ↦ plain (λ x there same. absurd (never x.1 (subst (λ q. Contains c.1 (q, x.1)) same there)))
      ]
    ]
      where
        plain : ((x : ℕ × Reply) → Contains c.1 x → x.0 ≡ process → Contains is.placed x ⊎ (IsReady step observes h Others (m.state, m.placed) (c.0, is.placed) is.way x ⊎ HasCrashed h x.0))
            → (n : Member S) × Contains others n × LeadsToCover step observes h n c
        plain of_it = (held.without.0, held.without.1, over held.without.0 m.state m.placed Others held.without.2 c is.rising (without_offers of_it))

        one : (reply : Reply) → Contains c.1 (process, reply) → (P : ℕ × Reply → Type 0) → P (process, reply) → (x : ℕ × Reply) → Contains c.1 x → x.0 ≡ process → P x
        one reply has P holds x there same =
            let alike = rising_once c.1 process reply x.1 is.rising has (subst (λ q. Contains c.1 (q, x.1)) same there) in
            subst P (λ i. (sym same i, alike i)) holds

        taken : (reply : Reply) → Contains c.1 (process, reply) → ((other : Reply) → Contains is.placed (process, other) → ⊥) → IsOnOffer m (process, reply) → (n : Member S) × Contains others n × LeadsToCover step observes h n c
        taken reply has absent offer =
            let first_absent : (other : Reply) → Contains m.placed (process, other) → ⊥ = λ other there. absent other (way_kept step observes h (m.state, m.placed) (c.0, is.placed) is.way (process, other) there) in
            let wider = can_add process reply m.placed sorted first_absent in
            let n = held.each reply offer first_absent wider.0 wider.1 in
            (n.0, n.1, over n.0 m.state wider.0 Others n.2 c is.rising (with_pair reply has absent wider.0 wider.1))

pub spreading_law : {S : Type 0} (start : S) (step : S → Call → S → Reply → Type 0) → SpreadingLaw start step
spreading_law {S} start step observes h members others each complete c config =
    let found = complete c config in
    let d : S × List (ℕ × Reply) = (c.0, found.placed) in
    let m = found.member in
    covered_by step observes h members others c found (elim (each m found.among) [
      | inl by ↦ (by.0, by.1, covers_on step observes h h (passes_itself observes h) m by.0 by.2 d found.exchanged.rising found.leads)
      | inr held ↦ spread step observes h held.0 m d (from_covers step observes h m d found.exchanged.rising found.leads) others held.1
          (covers_sorted step observes h m d found.leads)
    ])
