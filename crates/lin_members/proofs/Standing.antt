-- Overwritten updates at the points of ways: what they give, and members that stand in for points.
use Rattle.std.proofs.Common.{◌≡◌, ℕ, ◌<◌, ◌≤◌, Bool, List, length, Contains, ◌⊎◌, inl, inr, sym, subst, arith}
use Rattle.std.proofs.lemmas.Option.{slice_get_within}
use Rattle.lin_events.specs.declared.items.Item.{Item}
use Rattle.lin_events.specs.declared.calls.Call.{Call}
use Rattle.lin_events.specs.declared.calls.Name.{Name}
use Rattle.lin_events.specs.declared.calls.Reply.{Reply}
use Rattle.lin_events.specs.declared.events.Event.{Event}
use Rattle.lin_events.specs.Alternation.{IsAlternating}
use Rattle.lin_events.specs.Operations.{IsOpen}
use Rattle.lin_objects.specs.Overwriting.{IsOverwriting}
use Rattle.lin_order.specs.Configurations.{IsRising}
use Rattle.lin_members.specs.declared.members.Path.{Path}
use Rattle.lin_members.specs.Covers.{HasCrashed}
use Rattle.lin_members.specs.Members.{Member, Meets, Way, here, more, IsGiven, IsOffered, IsOnOffer, IsUpdate, DominatesAt}
use Rattle.lin_members.specs.Overwritten.{HasOverwritten, IsEarlyGiven, IsEarlyUpdate, IsOfferedWith}
use Rattle.lin_members.specs.lemmas.Choosing.{Chosen, choose, stands}
use Rattle.lin_members.specs.lemmas.Exchanging.{open_call}
use Rattle.lin_members.specs.lemmas.Following.{DoesFor, Passes}
use Rattle.lin_frontier.specs.lemmas.Inserting.{rising_once}
use Rattle.lin_members.specs.lemmas.Taking.{Split, longer, whole}
use Rattle.lin_members.specs.lemmas.Ways.{way_kept}

-- an early update that is placed, and is not among the others, gives the reply
abbrev pub GivesEarly : {S : Type 0} → (S → Call → S → Reply → Type 0) → (Call → Bool) → List Event → ℕ → List (ℕ × Reply) → List (ℕ × Reply) → ℕ × Reply → Type 0
GivesEarly {S} step observes h until placed others x = (u : ℕ × Reply) × (next : S) × Contains placed u × (Contains others u → ⊥) × IsEarlyUpdate step observes h until u next × IsEarlyGiven step h until next x

-- an open operation stands in the history
pub open_inside : (h : List Event) (at process : ℕ) (key : Item) (call : Call) → IsOpen h at process key call → at < length h
open_inside h at process key call is = slice_get_within h at _ is.begins

-- a way ends with an update
pub record EndsWith {S : Type 0} (step : S → Call → S → Reply → Type 0) (observes : Call → Bool) (h : List Event) (b d : S × List (ℕ × Reply)) : Type 0 where
  pub before : S × List (ℕ × Reply)
  pub way : Way step observes h b before
  pub last : IsUpdate step observes h before d

module _ {S : Type 0} {start : S} (step : S → Call → S → Reply → Type 0) (observes : Call → Bool) (over : IsOverwriting start step observes) (functions : Item → Name → Bool) (h : List Event) (alternates : IsAlternating functions h)
    (i j : ℕ) (x y : ℕ × Reply) (next last : S) (u : IsEarlyUpdate step observes h i x next) (v : IsEarlyUpdate step observes h j y last) where
  -- updates of the same call come to the same
  pub same_outcome : u.call ≡ v.call → (last ≡ next) × (y.1 ≡ x.1)
  same_outcome same = (over u.call u.update u.from v.from next x.1 u.steps).1 last y.1 (subst (λ c. step v.from c last y.1) (sym same) v.steps)

  -- and so do those of a process
  pub one_outcome : x.0 ≡ y.0 → (last ≡ next) × (y.1 ≡ x.1)
  one_outcome same = same_outcome (open_call functions h alternates u.at v.at y.0 u.key v.key u.call v.call (subst (λ q. IsOpen h u.at q u.key u.call) same u.is_open) v.is_open)

module _ {S : Type 0} (step : S → Call → S → Reply → Type 0) (observes : Call → Bool) (h : List Event) where
  -- what is open now was called before what comes next
  pub early_at_end : (until : ℕ) (x : ℕ × Reply) (next : S) → IsEarlyUpdate step observes h until x next → IsEarlyUpdate step observes h (length h) x next
  early_at_end until x next u =
      record { at = u.at; key = u.key; call = u.call; is_open = u.is_open; update = u.update; early = open_inside h u.at x.0 u.key u.call u.is_open; from = u.from; steps = u.steps }

  pub given_at_end : (s : S) (x : ℕ × Reply) → IsGiven step h s x → IsEarlyGiven step h (length h) s x
  given_at_end s x given = (given, open_inside h given.at x.0 given.key given.call given.is_open)

  pub placed_early : (c d : S × List (ℕ × Reply)) (u : IsUpdate step observes h c d) → IsEarlyUpdate step observes h (length h) (u.1.process, u.0.reply) d.0
  placed_early c d u = record {
    at = u.0.at;
    key = u.1.key;
    call = u.1.call;
    is_open = u.1.is_open;
    update = u.2;
    early = open_inside h u.0.at u.1.process u.1.key u.1.call u.1.is_open;
    from = c.0;
    steps = u.1.steps;
  }

  -- what the first state gives need not be on offer before it
  ready_still : (b : S × List (ℕ × Reply)) (offers offers' : ℕ × Reply → Type 0) → ((x : ℕ × Reply) → offers x → offers' x ⊎ IsGiven step h b.0 x)
      → (c : S × List (ℕ × Reply)) (way : Way step observes h b c) (x : ℕ × Reply) → IsOffered step observes h offers b c way x ⊎ IsGiven step h c.0 x → IsOffered step observes h offers' b c way x ⊎ IsGiven step h c.0 x
  ready_still b offers offers' each c here x is = elim is [
    | inl offered ↦ each x offered
    | inr now ↦ inr now
  ]
  ready_still b offers offers' each c (more {c = d} way u) x is = elim is [
    | inl earlier ↦ inl (ready_still b offers offers' each d way x earlier)
    | inr now ↦ inr now
  ]

  pub meets_still : (b : S × List (ℕ × Reply)) (offers offers' : ℕ × Reply → Type 0) → ((x : ℕ × Reply) → offers x → offers' x ⊎ IsGiven step h b.0 x)
      → (s : S) (q : List (ℕ × Reply)) → Meets step observes h b offers s q → Meets step observes h b offers' s q
  meets_still b offers offers' each s q is = record {
    placed = is.placed;
    way = is.way;
    before = is.before;
    rising = is.rising;
    part = is.part;
    each = λ x there. elim (is.each x there) [
      | inl old ↦ inl old
      | inr other ↦ elim other [
        | inl ready ↦ inr (inl (ready.0, ready_still b offers offers' each (s, is.placed) is.way x ready.1))
        | inr crashed ↦ inr (inr crashed)
      ]
    ];
  }

  -- what is ready on a way was on offer at its beginning, or is given by the first state, or by one that an update leads to
  pub given_at : (b : S × List (ℕ × Reply)) (offers : ℕ × Reply → Type 0) (x : ℕ × Reply) (c : S × List (ℕ × Reply)) (way : Way step observes h b c)
      → IsOffered step observes h offers b c way x ⊎ IsGiven step h c.0 x
      → (offers x ⊎ IsGiven step h b.0 x) ⊎ Split step observes h offers b c way (λ d first. EndsWith step observes h b d × IsGiven step h d.0 x)
  given_at b offers x c here is = inl is
  given_at b offers x c (more {c = d} way u) is = elim is [
    | inl earlier ↦ elim (given_at b offers x d way earlier) [
      | inl first ↦ inl first
      | inr split ↦ inr (longer step observes h offers b (λ d' first. EndsWith step observes h b d' × IsGiven step h d'.0 x) d c way u split)
    ]
    | inr now ↦ inr (whole step observes h offers b (λ d' first. EndsWith step observes h b d' × IsGiven step h d'.0 x) c (more way u) (record { before = d; way = way; last = u }, now))
  ]

  -- at the points of the ways of a member with overwritten updates
  module _ (m : Member S × Path) (wider : List (ℕ × Reply)) (with_them : HasOverwritten step observes h m.1.until m.0.placed wider) where
    -- what isn't placed in the member is an update
    pub point_each : (c : S × List (ℕ × Reply)) → Way step observes h (m.0.state, wider) c → (x : ℕ × Reply) → Contains c.1 x → Contains m.0.placed x ⊎ ((next : S) × IsEarlyUpdate step observes h (length h) x next)
    point_each c here x there = elim (with_them.rest x there) [
      | inl first ↦ inl first
      | inr early ↦ inr (early.0, early_at_end m.1.until x early.0 early.1)
    ]
    point_each c (more {c = d} way u) x there = elim (u.1.added.was x there) [
      | inl old ↦ point_each d way x old
      | inr new ↦ inr (c.0, subst (λ (y : ℕ × Reply). IsEarlyUpdate step observes h (length h) y c.0) new (placed_early d c u))
    ]

    -- what is on offer is on offer to the member, or given by its state, or by such an update
    pub point_offers : (c : S × List (ℕ × Reply)) (way : Way step observes h (m.0.state, wider) c) (x : ℕ × Reply) → IsOffered step observes h (IsOfferedWith step observes h m wider) (m.0.state, wider) c way x
        → (IsOnOffer m.0 x ⊎ IsGiven step h m.0.state x) ⊎ GivesEarly step observes h (length h) c.1 m.0.placed x
    point_offers c way x is = elim (given_at (m.0.state, wider) (IsOfferedWith step observes h m wider) x c way (inl is)) [
      | inl first ↦ elim first [
        | inl begins ↦ elim begins [
          | inl offer ↦ inl (inl offer)
          | inr e ↦ inr (e.0, e.1, way_kept step observes h (m.0.state, wider) c way e.0 e.2, e.3, early_at_end m.1.until e.0 e.1 e.4, given_at_end e.1 x e.5.0)
        ]
        | inr now ↦ inl (inr now)
      ]
      | inr split ↦
          let u = split.has.0.last in
          inr (
            (u.1.process, u.0.reply),
            split.mid.0,
            way_kept step observes h split.mid c split.second (u.1.process, u.0.reply) u.1.added.has,
            (λ there. u.1.added.absent u.0.reply (way_kept step observes h (m.0.state, wider) split.has.0.before split.has.0.way (u.1.process, u.0.reply) (with_them.part (u.1.process, u.0.reply) there))),
            placed_early split.has.0.before split.mid u,
            given_at_end split.mid.0 x split.has.1,
          )
    ]

-- a member that dominates the state with some of these placed operations stands in for all of them, where the others are early updates
module _ {S : Type 0} (step : S → Call → S → Reply → Type 0) (observes : Call → Bool) (h g : List Event) (ended : ℕ → Type 0) (passes : Passes observes h g ended) (n : Member S × Path) (s : S)
    (base wider : List (ℕ × Reply)) (offers : ℕ × Reply → Type 0) (until : ℕ) (dominates : DominatesAt observes g n.0 s base offers) (below : until ≤ n.1.until) (sorted : IsRising wider)
    (part : (x : ℕ × Reply) → Contains base x → Contains wider x) (stays : (x : ℕ × Reply) → Contains wider x → ended x.0 → ⊥)
    (each : (x : ℕ × Reply) → Contains wider x → Contains base x ⊎ ((next : S) × IsEarlyUpdate step observes h until x next)) where
  k : Chosen (λ (p : ℕ × Reply) (q : ℕ × Reply). p.0 < q.0) (λ x. Contains n.0.placed x ⊎ ((next : S) × IsEarlyUpdate step observes h until x next))
      (λ x. Contains base x × (Contains n.0.placed x → ⊥) × HasCrashed g x.0) wider
  k = choose _ _ _ wider (λ x there. elim (each x there) [
    | inl first ↦ elim (dominates.rest x first) [
      | inl kept ↦ inl (inl kept)
      | inr crashed ↦ elim (stands x.0 n.0.placed) [
        | inl some ↦ inl (inl (subst (λ r. Contains n.0.placed (x.0, r)) (rising_once wider x.0 some.0 x.1 sorted (part (x.0, some.0) (dominates.part (x.0, some.0) some.1)) there) some.1))
        | inr none ↦ inr (first, none x.1, crashed)
      ]
    ]
    | inr early ↦ inl (inr early)
  ])

  early_then : (x : ℕ × Reply) (next : S) → Contains wider x → IsEarlyUpdate step observes h until x next → IsEarlyUpdate step observes g n.1.until x next
  early_then x next there u = record {
    at = u.at;
    key = u.key;
    call = u.call;
    is_open = passes.opens u.at x.0 u.key u.call (stays x there) u.is_open;
    update = u.update;
    early = let early = u.early in omega arith;
    from = u.from;
    steps = u.steps;
  }

  pub stand_in : List (ℕ × Reply)
  stand_in = k.chosen

  pub stands_with : HasOverwritten step observes g n.1.until n.0.placed stand_in
  unfolding stand_in
  stands_with = record {
    before = dominates.sorted;
    sorted = k.pairs sorted;
    part = λ x there. elim (k.rest x (part x (dominates.part x there))) [
      | inl kept ↦ kept
      | inr out ↦ absurd (out.1 there)
    ];
    rest = λ x there. elim (k.holds x there) [
      | inl first ↦ inl first
      | inr early ↦ inr (early.0, early_then x early.0 (k.within x there) early.1)
    ];
  }

  pub stands_for : DoesFor observes g stand_in (IsOfferedWith step observes g n stand_in) wider (λ x. offers x ⊎ GivesEarly step observes h until wider base x)
  unfolding stand_in
  stands_for = record {
    sorted = k.pairs sorted;
    part = k.within;
    rest = λ x there. elim (k.rest x there) [
      | inl kept ↦ inl kept
      | inr out ↦ inr out.2
    ];
    offered = λ x watching none is. elim is [
      | inl offer ↦ inl (dominates.offered x watching (λ other there. none other (stands_with.part (x.0, other) there)) offer)
      | inr e ↦ inr (
        e.0,
        e.1,
        elim (k.rest e.0 e.2) [
          | inl kept ↦ kept
          | inr out ↦ absurd (e.3 out.0)
        ],
        (λ there. e.3 (dominates.part e.0 there)),
        early_then e.0 e.1 e.2 e.4,
        (
          record {
            at = e.5.0.at;
            key = e.5.0.key;
            call = e.5.0.call;
            next = e.5.0.next;
            is_open = passes.opens e.5.0.at x.0 e.5.0.key e.5.0.call (λ over. passes.shut watching.at x.0 watching.key watching.call over watching.is_open) e.5.0.is_open;
            steps = e.5.0.steps;
          },
          let early = e.5.1 in omega arith,
        ),
      )
    ];
  }
