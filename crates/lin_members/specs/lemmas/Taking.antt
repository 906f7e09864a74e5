-- After an ok: members that placed the operation, and ways that come to it.
use Rattle.std.proofs.Common.{◌≡◌, ℕ, Bool, false, List, Contains, ◌⊎◌, inl, inr, sym, ap, subst}
use Rattle.std.proofs.lemmas.Bool.{cases_eq}
use Rattle.lin_events.specs.declared.items.Item.{Item}
use Rattle.lin_events.specs.declared.calls.Name.{Name}
use Rattle.lin_events.specs.declared.calls.Call.{Call}
use Rattle.lin_events.specs.declared.calls.Reply.{Reply}
use Rattle.lin_events.specs.declared.events.Event.{Event}
use Rattle.lin_events.specs.declared.events.Body.TheVariants.{Ok}
use Rattle.lin_events.specs.Alternation.{IsAlternating}
use Rattle.lin_events.specs.Operations.{IsOpen}
use Rattle.lin_order.specs.Configurations.{IsAdded}
use Rattle.lin_order.specs.ConfigurationLaws.{with_event}
use Rattle.lin_members.specs.Exchanges.{Exchange, IsExchanged}
use Rattle.lin_frontier.specs.Placing.{without}
use Rattle.lin_members.specs.Members.{Meets, Member, IsUpdate, Way, here, more, IsOffered, IsOnOffer, WayOf, LeadsToCover, DominatesAt}
use Rattle.lin_members.specs.MemberLaws.{IsTaken}
use Rattle.lin_frontier.specs.lemmas.Inserting.{rising_once, taken_out}
use Rattle.lin_members.specs.lemmas.Ways.{way_kept, way_start, to_covers}
use Rattle.lin_members.specs.lemmas.Following.{DoesFor, meets_by}
use Rattle.lin_members.specs.lemmas.Crashes.{passes_ok}

-- one of the other members dominates the end of the way, once crashed operations of the same call are exchanged
abbrev pub IsHeld : {S : Type 0} → (step : S → Call → S → Reply → Type 0) → (observes : Call → Bool) → (h g : List Event) → List (Member S) → (m : Member S) → (c : S × List (ℕ × Reply)) → WayOf step observes h m c → Type 0
IsHeld {S} step observes h g others m c way = (e : Exchange h) × (placed : List (ℕ × Reply)) × (n : Member S) × IsExchanged e c.1 placed × Contains others n
    × DominatesAt observes g n c.0 placed (IsOffered step observes h (IsOnOffer m) (m.state, m.placed) c way)

-- or some stop of it
abbrev pub IsStopped : {S : Type 0} → (step : S → Call → S → Reply → Type 0) → (observes : Call → Bool) → (h g : List Event) → List (Member S) → (m : Member S) → (c : S × List (ℕ × Reply)) → WayOf step observes h m c → Type 0
IsStopped step observes h g others m c here = IsHeld step observes h g others m c here
IsStopped step observes h g others m c (more {c = d} way u) = IsStopped step observes h g others m d way ⊎ IsHeld step observes h g others m c (more way u)

-- a way in two parts, with something that holds of the first
pub record Split {S : Type 0} (step : S → Call → S → Reply → Type 0) (observes : Call → Bool) (h : List Event) (offers : ℕ × Reply → Type 0) (b c : S × List (ℕ × Reply)) (way : Way step observes h b c)
    (holds : (d : S × List (ℕ × Reply)) → Way step observes h b d → Type 0) : Type 0 where
  pub mid : S × List (ℕ × Reply)
  pub first : Way step observes h b mid
  pub has : holds mid first
  pub second : Way step observes h mid c
  pub offered : (x : ℕ × Reply) → IsOffered step observes h offers b c way x → IsOffered step observes h (IsOffered step observes h offers b mid first) mid c second x

module _ {S : Type 0} (step : S → Call → S → Reply → Type 0) (observes : Call → Bool) (h : List Event) where
  -- the whole way is a first part
  pub whole : (offers : ℕ × Reply → Type 0) (b : S × List (ℕ × Reply)) (holds : (d : S × List (ℕ × Reply)) → Way step observes h b d → Type 0)
      → (c : S × List (ℕ × Reply)) (way : Way step observes h b c) → holds c way → Split step observes h offers b c way holds
  whole offers b holds c way has = record { mid = c; first = way; has = has; second = here; offered = λ x is. is }

  pub longer : (offers : ℕ × Reply → Type 0) (b : S × List (ℕ × Reply)) (holds : (d : S × List (ℕ × Reply)) → Way step observes h b d → Type 0)
      → (d c : S × List (ℕ × Reply)) (way : Way step observes h b d) (u : IsUpdate step observes h d c) → Split step observes h offers b d way holds
      → Split step observes h offers b c (more way u) holds
  longer offers b holds d c way u r = record {
    mid = r.mid;
    first = r.first;
    has = r.has;
    second = more r.second u;
    offered = λ x is. elim is [
      | inl earlier ↦ inl (r.offered x earlier)
      | inr now ↦ inr now
    ];
  }

  -- at a stop
  pub at_stop : (g : List Event) (others : List (Member S)) (m : Member S) (c : S × List (ℕ × Reply)) (way : WayOf step observes h m c) → IsStopped step observes h g others m c way
      → Split step observes h (IsOnOffer m) (m.state, m.placed) c way (IsHeld step observes h g others m)
  at_stop g others m c here stopped = whole (IsOnOffer m) (m.state, m.placed) (IsHeld step observes h g others m) c here stopped
  at_stop g others m c (more {c = d} way u) stopped = elim stopped [
    | inl earlier ↦ longer (IsOnOffer m) (m.state, m.placed) (IsHeld step observes h g others m) d c way u (at_stop g others m d way earlier)
    | inr now ↦ whole (IsOnOffer m) (m.state, m.placed) (IsHeld step observes h g others m) c (more way u) now
  ]

  -- where an operation is placed
  pub at_placing : (offers : ℕ × Reply → Type 0) (process : ℕ) (reply : Reply) (b : S × List (ℕ × Reply)) (holds : (d : S × List (ℕ × Reply)) → Way step observes h b d → Type 0)
      → ((c d : S × List (ℕ × Reply)) (way : Way step observes h b c) (u : IsUpdate step observes h c d) → u.1.process ≡ process → u.0.reply ≡ reply → holds d (more way u))
      → ((other : Reply) → Contains b.1 (process, other) → ⊥)
      → (c : S × List (ℕ × Reply)) (way : Way step observes h b c) → Contains c.1 (process, reply) → Split step observes h offers b c way holds
  at_placing offers process reply b holds place absent c here there = absurd (absent reply there)
  at_placing offers process reply b holds place absent c (more {c = d} way u) there = elim (cases_eq u.1.process process) [
    | inl same ↦
        whole offers b holds c (more way u)
        (place d c way u same (rising_once c.1 process u.0.reply reply u.1.added.rising (subst (λ q. Contains c.1 (q, u.0.reply)) same u.1.added.has) there))
    | inr other ↦ longer offers b holds d c way u (at_placing offers process reply b holds place absent d way (elim (u.1.added.was (process, reply) there) [
      | inl old ↦ old
      | inr new ↦ absurd (other (ap (λ (x : ℕ × Reply). x.0) new))
    ]))
  ]

  -- the rest of a way
  pub rest_of : (b : S × List (ℕ × Reply)) (offers : ℕ × Reply → Type 0) (s : S) (placed : List (ℕ × Reply)) (is : Meets step observes h b offers s placed)
      → (holds : (d : S × List (ℕ × Reply)) → Way step observes h b d → Type 0) (split : Split step observes h offers b (s, is.placed) is.way holds)
      → Meets step observes h split.mid (IsOffered step observes h offers b split.mid split.first) s placed
  rest_of b offers s placed is holds split = record {
    placed = is.placed;
    way = split.second;
    before = is.before;
    rising = is.rising;
    part = is.part;
    each = λ x there. elim (is.each x there) [
      | inl old ↦ inl old
      | inr other ↦ elim other [
        | inl ready ↦ inr (inl (
          ready.0,
          elim ready.1 [
            | inl offered ↦ inl (split.offered x offered)
            | inr now ↦ inr now
          ],
        ))
        | inr crashed ↦ inr (inr crashed)
      ]
    ];
  }

-- what was there stays, or is of the process
pub was_of : (process : ℕ) (reply : Reply) (kept old : List (ℕ × Reply)) → IsAdded process reply kept old → (x : ℕ × Reply) → Contains old x → Contains kept x ⊎ (x.0 ≡ process)
was_of process reply kept old added x there = elim (added.was x there) [
  | inl stays ↦ inl stays
  | inr new ↦ inr (sym (ap (λ (y : ℕ × Reply). y.0) new))
]

module _ {S : Type 0} (step : S → Call → S → Reply → Type 0) (observes : Call → Bool) (functions : Item → Name → Bool) (h : List Event) (event : Event) (name : Name) (reply : Reply)
    (body : event.body ≡ Ok name reply) (alternates : IsAlternating functions (with_event h event)) where
  -- from a point where the operation's pair, if it is there, is taken out
  pub on_by : (s : S) (old kept new : List (ℕ × Reply)) (offers offers' : ℕ × Reply → Type 0) → ((x : ℕ × Reply) → Contains kept x → Contains old x) → ((other : Reply) → Contains kept (event.process, other) → ⊥)
      → ((x : ℕ × Reply) → Contains old x → Contains kept x ⊎ (x.0 ≡ event.process)) → DoesFor observes (with_event h event) new offers' kept offers
      → (c : S × List (ℕ × Reply)) (placed : List (ℕ × Reply)) → IsAdded event.process reply c.1 placed → Meets step observes h (s, old) offers c.0 placed
      → ((at : ℕ) (key : Item) (call : Call) → IsOpen h at event.process key call → observes call ≡ false → ((r : Reply) → Contains old (event.process, r) → ⊥) → ⊥)
      → Meets step observes (with_event h event) (s, new) offers' c.0 c.1
  on_by s old kept new offers offers' within absent leaves does c placed added is never =
      meets_by step observes h (with_event h event) (λ q. q ≡ event.process) (passes_ok h event functions alternates observes name reply body)
      s old kept new offers offers' within (λ x there same. absent x.1 (subst (λ q. Contains kept (q, x.1)) same there)) leaves does
      c.0 placed c.1 added.before added.kept (λ x there same. added.absent x.1 (subst (λ q. Contains c.1 (q, x.1)) same there))
      (was_of event.process reply c.1 placed added)
      is (λ at p key call other is_open no' first there same. never at key call
      (subst (λ q. IsOpen h at q key call) same is_open) no' (subst (λ q. (r : Reply) → Contains old (q, r) → ⊥) same first))

module _ {S : Type 0} (step : S → Call → S → Reply → Type 0) (observes : Call → Bool) (functions : Item → Name → Bool) (h : List Event) (event : Event) (name : Name) (reply : Reply)
    (body : event.body ≡ Ok name reply) (alternates : IsAlternating functions (with_event h event)) (others : List (Member S)) where
  -- of a member that dominates the point
  pub on_from : (s : S) (old kept : List (ℕ × Reply)) (offers : ℕ × Reply → Type 0) (n : Member S) → ((x : ℕ × Reply) → Contains kept x → Contains old x) → ((other : Reply) → Contains kept (event.process, other) → ⊥)
      → ((x : ℕ × Reply) → Contains old x → Contains kept x ⊎ (x.0 ≡ event.process)) → DominatesAt observes (with_event h event) n s kept offers
      → (c : S × List (ℕ × Reply)) (placed : List (ℕ × Reply)) → IsAdded event.process reply c.1 placed → Meets step observes h (s, old) offers c.0 placed
      → ((at : ℕ) (key : Item) (call : Call) → IsOpen h at event.process key call → observes call ≡ false → ((r : Reply) → Contains old (event.process, r) → ⊥) → ⊥)
      → LeadsToCover step observes (with_event h event) n c
  on_from s old kept offers n within absent leaves dominates c placed added is never =
      to_covers step observes (with_event h event) n c (subst (λ b. Meets step observes (with_event h event) (b, n.placed) (IsOnOffer n) c.0 c.1) (sym dominates.same)
      (on_by step observes functions h event name reply body alternates s old kept n.placed offers (IsOnOffer n) within absent leaves
      (record { sorted = dominates.sorted; part = dominates.part; rest = dominates.rest; offered = dominates.offered }) c placed added is never))

  -- a member that placed the operation
  pub placed_it : (m : Member S) → IsTaken observes (with_event h event) event.process reply others m → (c : S × List (ℕ × Reply)) (placed : List (ℕ × Reply)) → IsAdded event.process reply c.1 placed
      → Meets step observes h (m.state, m.placed) (IsOnOffer m) c.0 placed → (other : Reply) → Contains m.placed (event.process, other)
      → (n : Member S) × Contains others n × LeadsToCover step observes (with_event h event) n c
  placed_it m taken c placed added is other there =
      let sorted = way_start step observes h (m.state, m.placed) (c.0, is.placed) is.way is.before in
      let in_placed = is.part (event.process, other) (way_kept step observes h (m.state, m.placed) (c.0, is.placed) is.way (event.process, other) there) in
      let same : other ≡ reply = rising_once placed event.process other reply added.rising in_placed added.has in
      let out = taken_out event.process reply m.placed sorted (subst (λ r. Contains m.placed (event.process, r)) same there) in
      let n = taken (without event.process m.placed) out in (
        n.0,
        n.1,
        on_from m.state m.placed (without event.process m.placed) (IsOnOffer m) n.0 out.kept out.absent (was_of event.process reply (without event.process m.placed) m.placed out)
            n.2 c placed added is (λ at key call is_open no' absent. absent other there),
      )

  -- what was held where the operation was placed
  pub held_placed : (s : S) (old kept : List (ℕ × Reply)) (offers : ℕ × Reply → Type 0) (n : Member S) → IsAdded event.process reply kept old → DominatesAt observes (with_event h event) n s kept offers
      → (c : S × List (ℕ × Reply)) (placed : List (ℕ × Reply)) → IsAdded event.process reply c.1 placed → Meets step observes h (s, old) offers c.0 placed → LeadsToCover step observes (with_event h event) n c
  held_placed s old kept offers n out dominates c placed added is =
      on_from s old kept offers n out.kept out.absent (was_of event.process reply kept old out) dominates c placed added is (λ at key call is_open no' first. first reply out.has)
