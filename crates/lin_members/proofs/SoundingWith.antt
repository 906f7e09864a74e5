-- All that a member with rounds leads to with early updates is true: these are rounds ahead of the last one.
use Rattle.std.proofs.Common.{ℕ, suc, ◌<◌, Bool, List, [], ◌∷◌, ◌++◌, length, length-append, Contains, inl, inr, refl, ap, subst, arith}
use Rattle.std.proofs.lemmas.List.Elements.{Contains-append_right}
use Rattle.lin_events.specs.declared.items.Item.{Item}
use Rattle.lin_events.specs.declared.calls.Call.{Call}
use Rattle.lin_events.specs.declared.calls.Name.{Name}
use Rattle.lin_events.specs.declared.calls.Reply.{Reply}
use Rattle.lin_events.specs.declared.events.Event.{Event}
use Rattle.lin_events.specs.Alternation.{IsAlternating}
use Rattle.lin_events.specs.WellFormedLaws.{WellFormedIsAlternating}
use Rattle.lin_objects.specs.Overwriting.{IsOverwriting}
use Rattle.lin_order.specs.declared.placed.Placed.{Placed}
use Rattle.lin_order.specs.Configurations.{IsAdded, IsPlacedBy}
use Rattle.lin_order.specs.ConfigurationLaws.{PlacingIsLegal}
use Rattle.lin_order.specs.Orders.{IsOrder}
use Rattle.lin_members.specs.declared.members.Path.{Path}
use Rattle.lin_members.specs.Members.{Member, IsWatching}
use Rattle.lin_members.specs.Overwritten.{AllowsOverwritten, HasOverwritten, IsEarlyGiven, IsEarlyUpdate, IsOfferedWith, IsOverwrittenBy}
use Rattle.lin_members.specs.OverwrittenLaws.{SoundWithLaw}
use Rattle.lin_members.specs.Rounds.{begin_round, joined, IsOfferedIn, IsTrail, IsTrailOf}
use Rattle.lin_members.specs.lemmas.Choosing.{can_add, nothing_in, stands}
use Rattle.lin_frontier.specs.lemmas.Inserting.{first_or_rest, rising_once}
use Rattle.lin_members.proofs.GoingAhead.{ahead_given, ahead_offer, ahead_overwritten, ahead_trail, steps_ahead, StepsAhead}
use Rattle.lin_members.proofs.Sounding.{backed_configuration, IsBacked}
use Rattle.lin_members.proofs.Standing.{one_outcome}

module _ {S : Type 0} (start : S) (step : S → Call → S → Reply → Type 0) (observes : Call → Bool) (over : IsOverwriting start step observes) (functions : Item → Name → Bool) (h : List Event)
    (alternates : IsAlternating functions h) (m : Member S × Path) where
  -- with these placed, the observer may have the reply
  abbrev IsOffer : List (ℕ × Reply) → ℕ × Reply → Type 0
  IsOffer placed x = IsWatching observes h x.0 × IsOfferedWith step observes h m placed x

  -- the offer was made in a round ahead of the last one, where updates are early
  abbrev IsMadeIn : List S → List (List Placed) → ℕ × Reply → Type 0
  IsMadeIn states rounds x = (round : ℕ) × (at : ℕ) × IsOfferedIn step observes h states rounds round at x × (0 < m.1.until → suc round < length rounds)

  -- rounds come to the member's state with these placed, and early updates can be placed ahead of the last one
  record Widens (placed : List (ℕ × Reply)) : Type 0 where
    states : List S
    rounds : List (List Placed)
    trail : IsTrail start step h states rounds (m.0.state, placed)
    by : 0 < m.1.until → IsOverwrittenBy observes h m.1.until rounds
    offered : (x : ℕ × Reply) → IsOffer placed x → IsMadeIn states rounds x

  first : (states : List S) (rounds : List (List Placed)) → IsTrailOf start step observes h states rounds m.0 → AllowsOverwritten observes h m rounds → Widens m.0.placed
  first states rounds is allows = record {
    states = states;
    rounds = rounds;
    trail = is.trail;
    by = allows.by;
    offered = λ x offer. elim offer.1 [
      | inl old ↦ let o = is.offered old.0 x old.1 in (old.0, o.0, o.1, λ some. allows.earlier some old.0 x old.1)
      | inr e ↦ absurd (e.3 e.2)
    ];
  }

  module _ (placed wider : List (ℕ × Reply)) (w : Widens placed) (x : ℕ × Reply) (next : S) (u : IsEarlyUpdate step observes h m.1.until x next) (added : IsAdded x.0 x.1 placed wider) where
    abbrev p : Placed
    p = record { at = u.at; reply = x.1 }

    by : IsOverwrittenBy observes h m.1.until w.rounds
    by = let early = u.early in w.by (omega (arith, early))

    k : StepsAhead start step h w.states by.front (by.first ∷ by.rest) u.call x.1 next m.0.state
    k = steps_ahead start step observes over h m.1.until w.rounds by p x.0 next u refl w.states m.0.state w.trail.runs

    abbrev states : List S
    states = (k.heads ++ next ∷ []) ++ m.0.state ∷ []

    abbrev rounds : List (List Placed)
    rounds = begin_round p by.front ++ (by.first ∷ by.rest) ∷ []

    before : (y : ℕ × Reply) → IsMadeIn w.states w.rounds y → IsMadeIn states rounds y
    before y o = (
      o.0,
      o.1,
      ahead_offer start step observes functions h m.1.until w.rounds by p x.0 u.key u.call u.is_open u.early k.heads k.middle next m.0.state k.before k.steps k.over o.0 o.1 y (subst (λ l. suc o.0 < l) (ap length by.is) below)
          (subst (λ (s : List S). IsOfferedIn step observes h s (by.front ++ (by.first ∷ by.rest) ∷ []) o.0 o.1 y) k.is (subst (λ r. IsOfferedIn step observes h w.states r o.0 o.1 y) by.is o.2)),
      λ some.
          let old = length-append by.front ((by.first ∷ by.rest) ∷ []) in
          let new = length-append (begin_round p by.front) ((by.first ∷ by.rest) ∷ []) in
          let begun = length-append by.front ((p ∷ []) ∷ []) in
          let many = ap length by.is in
          omega (arith, below),
    )
      where
        below : suc o.0 < length w.rounds
        below = o.3 (let early = u.early in omega (arith, early))

    now : (y : ℕ × Reply) → IsWatching observes h y.0 → IsEarlyGiven step h m.1.until next y → IsMadeIn states rounds y
    now y watching given = (
      length by.front,
      given.0.at,
      ahead_given start step observes functions h m.1.until w.rounds by p x.0 u.key u.call u.is_open u.early k.heads k.middle next m.0.state k.before k.steps k.over alternates (length by.front) y
          (let old = length-append by.front ((by.first ∷ by.rest) ∷ []) in omega arith) watching given,
      λ some.
          let new = length-append (begin_round p by.front) ((by.first ∷ by.rest) ∷ []) in
          let begun = length-append by.front ((p ∷ []) ∷ []) in
          omega arith,
    )

    -- with one early update more
    one_wider : Widens wider
    one_wider = record {
      states = states;
      rounds = rounds;
      trail = ahead_trail start step observes functions h m.1.until w.rounds by p x.0 u.key u.call u.is_open u.early k.heads k.middle next m.0.state k.before k.steps k.over placed wider added
          (subst (λ r. IsOrder h (joined r)) by.is w.trail.order_of) (subst (λ r. IsPlacedBy h (joined r) placed) by.is w.trail.placed);
      by = λ some. ahead_overwritten start step observes functions h m.1.until w.rounds by p x.0 u.key u.call u.is_open u.early;
      offered = λ y offer. elim offer.1 [
        | inl old ↦ before y (w.offered y (offer.0, inl old))
        | inr e ↦ elim (added.was e.0 e.2) [
          | inl old ↦ before y (w.offered y (offer.0, inr (e.0, e.1, old, e.3, e.4, e.5)))
          | inr new ↦
              let same = (one_outcome step observes over functions h alternates m.1.until m.1.until x e.0 next e.1 u e.4 (ap (λ (z : ℕ × Reply). z.0) new)).0 in
              now y offer.0 (subst (λ s. IsEarlyGiven step h m.1.until s y) same e.5)
        ]
      ];
    }

  -- some of the early updates were placed
  record Widened (wider xs : List (ℕ × Reply)) : Type 0 where
    placed : List (ℕ × Reply)
    widens : Widens placed
    kept : (x : ℕ × Reply) → Contains m.0.placed x → Contains placed x
    part : (x : ℕ × Reply) → Contains placed x → Contains wider x
    has : (x : ℕ × Reply) → Contains xs x → Contains placed x

  module _ (wider : List (ℕ × Reply)) (more : HasOverwritten step observes h m.1.until m.0.placed wider) where
    widen : Widens m.0.placed → (xs : List (ℕ × Reply)) → ((x : ℕ × Reply) → Contains xs x → Contains wider x) → Widened wider xs
    widen w [] within = record { placed = m.0.placed; widens = w; kept = λ x there. there; part = more.part; has = λ x there. absurd (nothing_in x there) }
    widen w (x ∷ xs) within = by (widen w xs (λ y there. within y (Contains-append_right (x ∷ []) xs y there)))
      where
        here : Contains wider x
        here = within x (0, omega arith, refl)

        by : Widened wider xs → Widened wider (x ∷ xs)
        by f = elim (stands x.0 f.placed) [
          | inl some ↦ record {
            placed = f.placed;
            widens = f.widens;
            kept = f.kept;
            part = f.part;
            has = λ y there. elim (first_or_rest x xs y there) [
              | inl same ↦ subst (Contains f.placed) same (subst (λ r. Contains f.placed (x.0, r)) (rising_once wider x.0 some.0 x.1 more.sorted (f.part (x.0, some.0) some.1) here) some.1)
              | inr later ↦ f.has y later
            ];
          }
          | inr none ↦ elim (more.rest x here) [
            | inl old ↦ absurd (none x.1 (f.kept x old))
            | inr early ↦
                let one = can_add x.0 x.1 f.placed f.widens.trail.placed.rising none in
                record {
                  placed = one.0;
                  widens = one_wider f.placed one.0 f.widens x early.0 early.1 one.1;
                  kept = λ y there. one.1.kept y (f.kept y there);
                  part = λ y there. elim (one.1.was y there) [
                    | inl old ↦ f.part y old
                    | inr new ↦ subst (Contains wider) new here
                  ];
                  has = λ y there. elim (first_or_rest x xs y there) [
                    | inl same ↦ subst (Contains one.0) same one.1.has
                    | inr later ↦ one.1.kept y (f.has y later)
                  ];
                }
          ]
        ]

    -- all of them were
    pub wider_backed : (legal : PlacingIsLegal start step) (states : List S) (rounds : List (List Placed)) → IsTrailOf start step observes h states rounds m.0 → AllowsOverwritten observes h m rounds
        → IsBacked start step legal observes functions h alternates (m.0.state, wider) (IsOffer wider)
    wider_backed legal states rounds is allows = record {
      states = f.widens.states;
      rounds = f.widens.rounds;
      trail = record {
        begun = f.widens.trail.begun;
        order_of = f.widens.trail.order_of;
        runs = f.widens.trail.runs;
        placed = record {
          rising = more.sorted;
          sound = λ q r there. f.widens.trail.placed.sound q r (f.has (q, r) there);
          complete = λ at q key call r is_open there. f.part (q, r) (f.widens.trail.placed.complete at q key call r is_open there);
        };
      };
      offered = λ x offer.
          let o = f.widens.offered x (
            offer.0,
            elim offer.1 [
              | inl old ↦ inl old
              | inr e ↦ inr (e.0, e.1, f.has e.0 e.2, e.3, e.4, e.5)
            ],
          ) in
          (o.0, o.1, o.2);
    }
      where
        f : Widened wider wider
        f = widen (first states rounds is allows) wider (λ x there. there)

pub sound_with_law : {S : Type 0} (start : S) (step : S → Call → S → Reply → Type 0) → PlacingIsLegal start step → WellFormedIsAlternating → SoundWithLaw start step
sound_with_law start step legal alternating observes observing over functions h well_formed states rounds m is allows c leads =
    let alternates = (alternating functions h).0 well_formed in
    backed_configuration start step legal observes functions h alternates observing (m.0.state, leads.wider) (IsOfferedWith step observes h m leads.wider)
    (wider_backed start step observes over functions h alternates m leads.wider leads.more legal states rounds is allows)
    c leads.placed leads.way leads.rising leads.part leads.each
