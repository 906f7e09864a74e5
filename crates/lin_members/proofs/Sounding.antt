-- All that a member with rounds leads to is true.
use Rattle.std.proofs.Common.{◌≡◌, ℕ, zero, suc, ◌<◌, Bool, true, List, [], ◌∷◌, ◌++◌, length, Contains, ◌⊎◌, inl, inr, refl, ap, subst, ◌∙◌, arith}
use Rattle.std.proofs.lemmas.List.Elements.{Contains-append_right}
use Rattle.lin_events.specs.declared.items.Item.{Item}
use Rattle.lin_events.specs.declared.calls.Call.{Call}
use Rattle.lin_events.specs.declared.calls.Name.{Name}
use Rattle.lin_events.specs.declared.calls.Reply.{Reply}
use Rattle.lin_events.specs.declared.events.Event.{Event}
use Rattle.lin_events.specs.Alternation.{IsAlternating}
use Rattle.lin_events.specs.WellFormedLaws.{WellFormedIsAlternating}
use Rattle.lin_objects.specs.Observing.{IsObserving}
use Rattle.lin_order.specs.declared.placed.Placed.{Placed}
use Rattle.lin_order.specs.Configurations.{EndsIn, IsConfiguration, IsRising}
use Rattle.lin_order.specs.ConfigurationLaws.{PlacingIsLegal}
use Rattle.lin_members.specs.Members.{IsOnOffer, IsWatching, IsGiven, Way, here, more, IsOffered, IsReady}
use Rattle.lin_members.specs.Rounds.{joined, put, begin_round, IsOfferedIn, IsTrail}
use Rattle.lin_members.specs.RoundLaws.{SoundLaw}
use Rattle.lin_members.specs.lemmas.Choosing.{can_add, nothing_in, stands}
use Rattle.lin_frontier.specs.lemmas.Inserting.{first_or_rest, rising_once}
use Rattle.lin_members.specs.lemmas.Exchanging.{open_call}
use Rattle.lin_members.specs.lemmas.Putting.{offer_longer, offer_put, trail_ends, trail_place, trail_present, trail_put}

module _ {S : Type 0} (start : S) (step : S → Call → S → Reply → Type 0) (legal : PlacingIsLegal start step) (observes : Call → Bool) (functions : Item → Name → Bool) (h : List Event)
    (alternates : IsAlternating functions h) where
  -- some rounds come to the configuration, and each of the offers was made in one of them
  pub record IsBacked (c : S × List (ℕ × Reply)) (offers : ℕ × Reply → Type 0) : Type 0 where
    pub states : List S
    pub rounds : List (List Placed)
    pub trail : IsTrail start step h states rounds c
    pub offered : (x : ℕ × Reply) → offers x → (round : ℕ) × (at : ℕ) × IsOfferedIn step observes h states rounds round at x

  -- an open observer's given reply is of an observer
  given_observes : (s : S) (x : ℕ × Reply) → IsWatching observes h x.0 → (given : IsGiven step h s x) → observes given.call ≡ true
  given_observes s x w given = ap observes (open_call functions h alternates given.at w.at x.0 given.key w.key given.call w.call given.is_open w.is_open) ∙ w.observer

  -- what the state gives was offered in the last round
  present : (c : S × List (ℕ × Reply)) (offers : ℕ × Reply → Type 0) (is : IsBacked c offers) (x : ℕ × Reply) → IsWatching observes h x.0 → IsGiven step h c.0 x
      → (round : ℕ) × (at : ℕ) × IsOfferedIn step observes h is.states is.rounds round at x
  present c offers is x w given =
      let last = one_less (length is.rounds) is.trail.begun in
      (last.0, given.at, trail_present start step observes h is.states is.rounds c is.trail last.0 last.1 x given (given_observes c.0 x w given))
    where
      one_less : (n : ℕ) → 0 < n → (k : ℕ) × (suc k ≡ n)
      one_less zero below = absurd (omega (arith, below))
      one_less (suc k) below = (k, refl)

  -- the rounds go on along a way
  way_backed : (b : S × List (ℕ × Reply)) (offers : ℕ × Reply → Type 0) → IsBacked b (λ x. IsWatching observes h x.0 × offers x) → (c : S × List (ℕ × Reply)) (way : Way step observes h b c)
      → IsBacked c (λ x. IsWatching observes h x.0 × IsOffered step observes h offers b c way x)
  way_backed b offers is c here = is
  way_backed b offers is c (more {c = d} way u) =
      let r = way_backed b offers is d way in
      record {
        states = r.states ++ c.0 ∷ [];
        rounds = begin_round u.0 r.rounds;
        trail = trail_place start step observes h legal r.states r.rounds d c u.0 r.trail u.1;
        offered = λ x there.
            let o : (round : ℕ) × (at : ℕ) × IsOfferedIn step observes h r.states r.rounds round at x =
            elim there.1 [
              | inl earlier ↦ r.offered x (there.0, earlier)
              | inr given ↦ present d (λ y. IsWatching observes h y.0 × IsOffered step observes h offers b d way y) r x there.0 given
            ] in
            (o.0, o.1, offer_longer start step observes h r.states r.rounds c.0 u.0 u.1.process u.1.key u.1.call u.1.is_open o.0 o.1 x o.2);
      }

  -- at the end of a way, all that is ready is offered
  end_backed : (b c : S × List (ℕ × Reply)) (offers : ℕ × Reply → Type 0) (way : Way step observes h b c) → IsBacked c (λ x. IsWatching observes h x.0 × IsOffered step observes h offers b c way x)
      → IsBacked c (IsReady step observes h offers b c way)
  end_backed b c offers way is = record {
    states = is.states;
    rounds = is.rounds;
    trail = is.trail;
    offered = λ x there. elim there.1 [
      | inl earlier ↦ is.offered x (there.0, earlier)
      | inr given ↦ present c (λ y. IsWatching observes h y.0 × IsOffered step observes h offers b c way y) is x there.0 given
    ];
  }

  -- some of what is offered has been put
  record Filled (s : S) (placed : List (ℕ × Reply)) (offers : ℕ × Reply → Type 0) (q xs : List (ℕ × Reply)) : Type 0 where
    wider : List (ℕ × Reply)
    backed : IsBacked (s, wider) offers
    kept : (x : ℕ × Reply) → Contains placed x → Contains wider x
    part : (x : ℕ × Reply) → Contains wider x → Contains q x
    has : (x : ℕ × Reply) → Contains xs x → Contains wider x

  fill : IsObserving step observes → (s : S) (placed : List (ℕ × Reply)) (offers : ℕ × Reply → Type 0) → IsBacked (s, placed) offers → (q : List (ℕ × Reply)) → IsRising q
      → ((x : ℕ × Reply) → Contains placed x → Contains q x) → (xs : List (ℕ × Reply)) → ((x : ℕ × Reply) → Contains xs x → Contains q x)
      → ((x : ℕ × Reply) → Contains xs x → Contains placed x ⊎ offers x) → Filled s placed offers q xs
  fill observing s placed offers is q rising part [] within each = record { wider = placed; backed = is; kept = λ x there. there; part = part; has = λ x there. absurd (nothing_in x there) }
  fill observing s placed offers is q rising part (x ∷ xs) within each =
      by (fill observing s placed offers is q rising part xs (λ y there. within y (Contains-append_right (x ∷ []) xs y there)) (λ y there. each y (Contains-append_right (x ∷ []) xs y there)))
    where
      first : Contains (x ∷ xs) x
      first = (0, omega arith, refl)

      by : Filled s placed offers q xs → Filled s placed offers q (x ∷ xs)
      by f = elim (stands x.0 f.wider) [
        | inl some ↦ record {
          wider = f.wider;
          backed = f.backed;
          kept = f.kept;
          part = f.part;
          has = λ y there. elim (first_or_rest x xs y there) [
            | inl same ↦ subst (Contains f.wider) same (subst (λ r. Contains f.wider (x.0, r)) (rising_once q x.0 some.0 x.1 rising (f.part (x.0, some.0) some.1) (within x first)) some.1)
            | inr later ↦ f.has y later
          ];
        }
        | inr none ↦ elim (each x first) [
          | inl old ↦ absurd (none x.1 (f.kept x old))
          | inr offer ↦
              let o = f.backed.offered x offer in
              let p : Placed = record { at = o.1; reply = x.1 } in
              let wider = can_add x.0 x.1 f.wider f.backed.trail.placed.rising none in
              record {
                wider = wider.0;
                backed = record {
                  states = f.backed.states;
                  rounds = put o.0 p f.backed.rounds;
                  trail = trail_put start step observes h observing f.backed.states f.backed.rounds (s, f.wider) f.backed.trail o.0 x.0 p o.2 wider.0 wider.1;
                  offered = λ y there.
                      let k = f.backed.offered y there in
                      (k.0, k.1, offer_put start step observes h f.backed.states f.backed.rounds o.0 p x.0 o.2.key o.2.call o.2.is_open k.0 k.1 y k.2);
                };
                kept = λ y there. wider.1.kept y (f.kept y there);
                part = λ y there. elim (wider.1.was y there) [
                  | inl old ↦ f.part y old
                  | inr new ↦ subst (Contains q) new (within x first)
                ];
                has = λ y there. elim (first_or_rest x xs y there) [
                  | inl same ↦ subst (Contains wider.0) same wider.1.has
                  | inr later ↦ wider.1.kept y (f.has y later)
                ];
              }
        ]
      ]

  -- where rounds come to the beginning of a way, what it comes to with observers that are ready is a configuration
  pub backed_configuration : IsObserving step observes → (b : S × List (ℕ × Reply)) (offers : ℕ × Reply → Type 0) → IsBacked b (λ x. IsWatching observes h x.0 × offers x) → (c : S × List (ℕ × Reply)) (placed : List (ℕ × Reply))
      → (way : Way step observes h b (c.0, placed)) → IsRising c.1 → ((x : ℕ × Reply) → Contains placed x → Contains c.1 x)
      → ((x : ℕ × Reply) → Contains c.1 x → Contains placed x ⊎ IsReady step observes h offers b (c.0, placed) way x) → IsConfiguration start step h c
  backed_configuration observing b offers is c placed way rising part each = (
    joined f.backed.rounds,
    record {
      order_of = ends.order_of;
      runs = ends.runs;
      placed = record {
        rising = rising;
        sound = λ p r there. ends.placed.sound p r (f.has (p, r) there);
        complete = λ at p key call r is_open there. f.part (p, r) (ends.placed.complete at p key call r is_open there);
      };
    },
  )
    where
      f : Filled c.0 placed (IsReady step observes h offers b (c.0, placed) way) c.1 c.1
      f = fill observing c.0 placed (IsReady step observes h offers b (c.0, placed) way) (end_backed b (c.0, placed) offers way (way_backed b offers is (c.0, placed) way)) c.1 rising part c.1 (λ x there. there) each

      ends : EndsIn start step h (joined f.backed.rounds) (c.0, f.wider)
      ends = trail_ends start step observes h f.backed.states f.backed.rounds (c.0, f.wider) f.backed.trail

pub sound_law : {S : Type 0} (start : S) (step : S → Call → S → Reply → Type 0) → PlacingIsLegal start step → WellFormedIsAlternating → SoundLaw start step
sound_law start step legal alternating observes observing functions h well_formed states rounds m is c leads =
    backed_configuration start step legal observes functions h ((alternating functions h).0 well_formed) observing (m.state, m.placed) (IsOnOffer m)
    (record { states = states; rounds = rounds; trail = is.trail; offered = λ x there. let o = is.offered there.1.0 x there.1.1 in (there.1.0, o.0, o.1) })
    c leads.placed leads.way leads.rising leads.part leads.each
