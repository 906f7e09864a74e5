-- After an ok, of members that stand also for what overwritten updates did: how a way goes on from members that are held, and the ok of an update.
use Rattle.std.proofs.Common.{◌≡◌, ℕ, Bool, false, List, length, Contains, ◌⊎◌, inl, inr, sym, ap, subst, ◌∙◌, true≢false}
use Rattle.std.proofs.lemmas.Bool.{cases_eq}
use Rattle.lin_events.specs.declared.items.Item.{Item}
use Rattle.lin_events.specs.declared.calls.Call.{Call}
use Rattle.lin_events.specs.declared.calls.Name.{Name}
use Rattle.lin_events.specs.declared.calls.Reply.{Reply}
use Rattle.lin_events.specs.declared.events.Body.TheVariants.{Ok}
use Rattle.lin_events.specs.declared.events.Event.{Event}
use Rattle.lin_events.specs.Alternation.{IsAlternating}
use Rattle.lin_events.specs.Operations.{IsOpen}
use Rattle.lin_events.specs.WellFormedLaws.{EndsAreUnique, WellFormedIsAlternating}
use Rattle.lin_objects.specs.Overwriting.{IsOverwriting}
use Rattle.lin_order.specs.Configurations.{IsAdded, IsRising}
use Rattle.lin_order.specs.ConfigurationLaws.{with_event, AfterOk, OkLaw}
use Rattle.lin_members.specs.declared.members.Path.{Path}
use Rattle.lin_members.specs.Exchanges.{Exchange, IsExchanged}
use Rattle.lin_members.specs.Members.{Meets, Member, Way, IsGiven, IsOffered, IsOnOffer}
use Rattle.lin_members.specs.Overwritten.{IsCompleteWith, IsCoveredWith, IsEarlyGiven, IsEarlyUpdate, IsOfferedWith}
use Rattle.lin_members.specs.OverwrittenLaws.{AreReached, IsHeldUntil, IsTakenWith, UpdateWithLaw}
use Rattle.lin_frontier.specs.Placing.{without}
use Rattle.lin_members.specs.lemmas.Choosing.{stands}
use Rattle.lin_members.specs.lemmas.Crashes.{passes_ok}
use Rattle.lin_members.specs.lemmas.Exchanging.{both, exchanged_itself, fixed, no_exchange}
use Rattle.lin_members.specs.lemmas.Following.{Passes}
use Rattle.lin_frontier.specs.lemmas.Inserting.{from_without, in_without, rising_once, taken_out}
use Rattle.lin_members.specs.lemmas.Returning.{earlier, exchanged_then, not_crashed, then'}
use Rattle.lin_members.proofs.Standing.{EndsWith, GivesEarly, meets_still, one_outcome, placed_early, point_each, point_offers, stand_in, stands_for, stands_with}
use Rattle.lin_members.specs.lemmas.Taking.{at_placing, on_by, rest_of, was_of}
use Rattle.lin_members.specs.lemmas.Ways.{way_kept, way_start}

-- a point from which a way goes on without the process: what is placed there are these, which are held, and early updates
pub record GoesOn {S : Type 0} (step : S → Call → S → Reply → Type 0) (observes : Call → Bool) (h : List Event) (process : ℕ) (s : S) (old kept base : List (ℕ × Reply))
    (offers' offers : ℕ × Reply → Type 0) (until : ℕ) : Type 0 where
  pub sorted : IsRising kept
  pub within : (x : ℕ × Reply) → Contains kept x → Contains old x
  pub absent : (other : Reply) → Contains kept (process, other) → ⊥
  pub leaves : (x : ℕ × Reply) → Contains old x → Contains kept x ⊎ (x.0 ≡ process)
  pub part : (x : ℕ × Reply) → Contains base x → Contains kept x
  pub each : (x : ℕ × Reply) → Contains kept x → Contains base x ⊎ ((next : S) × IsEarlyUpdate step observes h until x next)
  pub offered : (x : ℕ × Reply) → offers' x → (offers x ⊎ GivesEarly step observes h until kept base x) ⊎ IsGiven step h s x

module _ {S : Type 0} (start : S) (step : S → Call → S → Reply → Type 0) (observes : Call → Bool) (unique : EndsAreUnique) (functions : Item → Name → Bool) (h : List Event) (event : Event)
    (name : Name) (reply : Reply) (body : event.body ≡ Ok name reply) (alternates : IsAlternating functions (with_event h event)) (members others : List (Member S × Path)) where
  abbrev g : List Event
  g = with_event h event

  module _ {c : S × List (ℕ × Reply)} {all : List (ℕ × Reply)} (found : IsCoveredWith step observes h members (c.0, all)) (was : IsAdded event.process reply c.1 all) where
    -- a way, exchanged, goes on from a point that is held
    pub go_on : (e : Exchange h) (placed : List (ℕ × Reply)) → IsExchanged e found.placed placed → (s : S) (old kept base : List (ℕ × Reply)) (offers' offers : ℕ × Reply → Type 0) (until : ℕ)
        → IsHeldUntil observes g others s base offers until → GoesOn step observes h event.process s old kept base offers' offers until → Meets step observes h (s, old) offers' c.0 placed
        → ((at : ℕ) (key : Item) (call : Call) → IsOpen h at event.process key call → observes call ≡ false → ((r : Reply) → Contains old (event.process, r) → ⊥) → ⊥)
        → IsCoveredWith step observes g others c
    go_on e placed exchanged s old kept base offers' offers until held goes is never =
        let now = exchanged_then start step observes unique functions h event name reply body alternates found.exchange e c.1 all found.placed placed found.exchanged exchanged was in
        record {
          exchange = then' start step observes unique functions h event name reply body alternates (both functions (earlier start step observes unique functions h event name reply body alternates) found.exchange e);
          placed = without event.process placed;
          exchanged = now.0;
          member = held.0;
          among = held.1;
          wider = wider;
          more = stands_with step observes h g _ passes held.0 s base kept offers until held.2 held.3 goes.sorted goes.part stays goes.each;
          meets = subst (λ t. Meets step observes g (t, wider) (IsOfferedWith step observes g held.0 wider) c.0 (without event.process placed)) (sym held.2.same)
              (on_by step observes functions h event name reply body alternates s old kept wider (λ x. offers x ⊎ GivesEarly step observes h until kept base x) (IsOfferedWith step observes g held.0 wider)
              goes.within goes.absent goes.leaves (stands_for step observes h g _ passes held.0 s base kept offers until held.2 held.3 goes.sorted goes.part stays goes.each)
              (c.0, without event.process placed) placed now.1 (meets_still step observes h (s, old) offers' (λ x. offers x ⊎ GivesEarly step observes h until kept base x) goes.offered c.0 placed is) never);
        }
      where
        passes : Passes observes h g (λ q. q ≡ event.process)
        passes = passes_ok h event functions alternates observes name reply body

        stays : (x : ℕ × Reply) → Contains kept x → x.0 ≡ event.process → ⊥
        stays x there same = goes.absent x.1 (subst (λ q. Contains kept (q, x.1)) same there)

        wider : List (ℕ × Reply)
        wider = stand_in step observes h g (λ q. q ≡ event.process) passes held.0 s base kept offers until held.2 held.3 goes.sorted goes.part stays goes.each

    -- without more exchanges
    pub go_on_so : (s : S) (old kept base : List (ℕ × Reply)) (offers' offers : ℕ × Reply → Type 0) (until : ℕ)
        → IsHeldUntil observes g others s base offers until → GoesOn step observes h event.process s old kept base offers' offers until → Meets step observes h (s, old) offers' c.0 found.placed
        → ((at : ℕ) (key : Item) (call : Call) → IsOpen h at event.process key call → observes call ≡ false → ((r : Reply) → Contains old (event.process, r) → ⊥) → ⊥)
        → IsCoveredWith step observes g others c
    go_on_so = go_on (no_exchange h) found.placed (exchanged_itself h found.placed found.exchanged.rising)

    -- the pair of the process
    pub own_pair : Contains found.placed (event.process, reply)
    own_pair = subst (λ q. Contains found.placed (q, reply)) (fixed found.exchange event.process (not_crashed start step observes unique functions h event name reply body alternates))
        (found.exchanged.part (event.process, reply) was.has)

    pub wider_rising : IsRising found.wider
    wider_rising = way_start step observes h (found.member.0.state, found.wider) (c.0, found.meets.placed) found.meets.way found.meets.before

    -- one that is placed at the beginning has the reply
    pub own_first : (other : Reply) → Contains found.wider (event.process, other) → other ≡ reply
    own_first other there = rising_once found.placed event.process other reply found.exchanged.rising
        (found.meets.part (event.process, other) (way_kept step observes h (found.member.0.state, found.wider) (c.0, found.meets.placed) found.meets.way (event.process, other) there)) own_pair

    -- without the pair, where it is placed at the beginning
    module _ (there : Contains found.wider (event.process, reply)) where
      pub out : IsAdded event.process reply (without event.process found.wider) found.wider
      out = taken_out event.process reply found.wider wider_rising there

      pub kept_without : (x : ℕ × Reply) → Contains found.wider x → (x.0 ≡ event.process → ⊥) → Contains (without event.process found.wider) x
      kept_without x is other = in_without event.process found.wider x is other

      -- the only pair of the process
      pub only_pair : (x : ℕ × Reply) → Contains found.wider x → x.0 ≡ event.process → (event.process, reply) ≡ x
      only_pair x is same = λ i. (sym same i, sym (own_first x.1 (subst (λ q. Contains found.wider (q, x.1)) same is)) i)

    -- a member that placed the operation
    pub placed_with : IsTakenWith observes g event.process reply others found.member → (other : Reply) → Contains found.member.0.placed (event.process, other) → IsCoveredWith step observes g others c
    placed_with taken other first =
        let there = found.more.part (event.process, other) first in
        by (subst (λ r. Contains found.member.0.placed (event.process, r)) (own_first other there) first) (subst (λ r. Contains found.wider (event.process, r)) (own_first other there) there)
      where
        by : Contains found.member.0.placed (event.process, reply) → Contains found.wider (event.process, reply) → IsCoveredWith step observes g others c
        by first there =
            let own = taken_out event.process reply found.member.0.placed found.more.before first in
            go_on_so found.member.0.state found.wider (without event.process found.wider) (without event.process found.member.0.placed) (IsOfferedWith step observes h found.member found.wider)
            (IsOnOffer found.member.0) found.member.1.until (taken (without event.process found.member.0.placed) own) (record {
              sorted = (out there).before;
              within = (out there).kept;
              absent = (out there).absent;
              leaves = was_of event.process reply (without event.process found.wider) found.wider (out there);
              part = λ x is. kept_without there x (found.more.part x (own.kept x is)) (λ same. own.absent x.1 (subst (λ q. Contains (without event.process found.member.0.placed) (q, x.1)) same is));
              each = λ x is. elim (found.more.rest x ((out there).kept x is)) [
                | inl old ↦ inl (in_without event.process found.member.0.placed x old (from_without event.process found.wider x is).1)
                | inr early ↦ inr early
              ];
              offered = λ x is. elim is [
                | inl offer ↦ inl (inl offer)
                | inr e ↦ inl (inr (
                  e.0,
                  e.1,
                  kept_without there e.0 e.2 (λ same. e.3 (subst (Contains found.member.0.placed) (only_pair there e.0 e.2 same) first)),
                  (λ old. e.3 (own.kept e.0 old)),
                  e.4,
                  e.5,
                ))
              ];
            }) found.meets (λ at key call is_open no' absent. absent reply there)

  -- of members that didn't place the operation
  module _ (over : IsOverwriting start step observes) (reached : AreReached start step members) (update : (at : ℕ) (key : Item) (call : Call) → IsOpen h at event.process key call → observes call ≡ false)
      (taken : (m : Member S × Path) → Contains members m → IsTakenWith observes g event.process reply others m)
      (ahead : (m : Member S × Path) → Contains members m → ((other : Reply) → Contains m.0.placed (event.process, other) → ⊥) → (next : S) → IsEarlyUpdate step observes h m.1.until (event.process, reply) next
      → IsHeldUntil observes g others m.0.state m.0.placed (λ x. IsOnOffer m.0 x ⊎ IsEarlyGiven step h m.1.until next x) m.1.until)
      (last : (m : Member S × Path) → Contains members m → ((other : Reply) → Contains m.0.placed (event.process, other) → ⊥) → (at : ℕ) (key : Item) (call : Call) (next : S) → IsOpen h at event.process key call
      → step m.0.state call next reply → IsHeldUntil observes g others next m.0.placed (λ x. IsOnOffer m.0 x ⊎ IsGiven step h m.0.state x) (length h)) where
    now : IsAlternating functions h
    now = earlier start step observes unique functions h event name reply body alternates

    module _ {c : S × List (ℕ × Reply)} {all : List (ℕ × Reply)} (found : IsCoveredWith step observes h members (c.0, all)) (was : IsAdded event.process reply c.1 all)
        (absent : (other : Reply) → Contains found.member.0.placed (event.process, other) → ⊥) where
      -- it is one of the overwritten updates
      overwritten : Contains found.wider (event.process, reply) → (next : S) → IsEarlyUpdate step observes h found.member.1.until (event.process, reply) next → IsCoveredWith step observes g others c
      overwritten there next early =
          go_on_so found was found.member.0.state found.wider (without event.process found.wider) found.member.0.placed (IsOfferedWith step observes h found.member found.wider)
          (λ x. IsOnOffer found.member.0 x ⊎ IsEarlyGiven step h found.member.1.until next x) found.member.1.until (ahead found.member found.among absent next early) (record {
            sorted = (out found was there).before;
            within = (out found was there).kept;
            absent = (out found was there).absent;
            leaves = was_of event.process reply (without event.process found.wider) found.wider (out found was there);
            part = λ x is. kept_without found was there x (found.more.part x is) (λ same. absent x.1 (subst (λ q. Contains found.member.0.placed (q, x.1)) same is));
            each = λ x is. found.more.rest x ((out found was there).kept x is);
            offered = λ x is. elim is [
              | inl offer ↦ inl (inl (inl offer))
              | inr e ↦ elim (cases_eq e.0.0 event.process) [
                | inl same ↦ inl (inl (inr (subst (λ s. IsEarlyGiven step h found.member.1.until s x)
                    (one_outcome step observes over functions h now found.member.1.until found.member.1.until (event.process, reply) e.0 next e.1 early e.4 (sym same)).0 e.5)))
                | inr other ↦ inl (inr (e.0, e.1, kept_without found was there e.0 e.2 other, e.3, e.4, e.5))
              ]
            ];
          }) found.meets (λ at key call is_open no' none. none reply there)

      -- it is placed on the way, with this reply
      abbrev IsPlacedLast : (d : S × List (ℕ × Reply)) → Way step observes h (found.member.0.state, found.wider) d → Type 0
      IsPlacedLast d way = (e : EndsWith step observes h (found.member.0.state, found.wider) d) × (e.last.1.process ≡ event.process) × (e.last.0.reply ≡ reply)

      placed_last : Contains found.meets.placed (event.process, reply) → ((other : Reply) → Contains found.wider (event.process, other) → ⊥) → IsCoveredWith step observes g others c
      placed_last there none =
          let split = at_placing step observes h offers event.process reply (found.member.0.state, found.wider) IsPlacedLast
          (λ b d way u same_process same_reply. (record { before = b; way = way; last = u }, same_process, same_reply)) none (c.0, found.meets.placed) found.meets.way there in
          let b = split.has.0.before in
          let u = split.has.0.last in
          let own : IsAdded event.process reply b.1 split.mid.1 =
          subst (λ r. IsAdded event.process r b.1 split.mid.1) split.has.2 (subst (λ p. IsAdded p u.0.reply b.1 split.mid.1) split.has.1 u.1.added) in
          go_on_so found was split.mid.0 split.mid.1 b.1 found.member.0.placed (IsOffered step observes h offers (found.member.0.state, found.wider) split.mid split.first)
          (λ x. IsOnOffer found.member.0 x ⊎ IsGiven step h found.member.0.state x) (length h)
          (last found.member found.among absent u.0.at u.1.key u.1.call split.mid.0 (subst (λ q. IsOpen h u.0.at q u.1.key u.1.call) split.has.1 u.1.is_open)
          ((over u.1.call u.2 b.0 found.member.0.state split.mid.0 reply (subst (step b.0 u.1.call split.mid.0) split.has.2 u.1.steps)).0 (reached found.member found.among)))
          (record {
            sorted = own.before;
            within = own.kept;
            absent = own.absent;
            leaves = was_of event.process reply b.1 split.mid.1 own;
            part = λ x is. way_kept step observes h (found.member.0.state, found.wider) b split.has.0.way x (found.more.part x is);
            each = λ x is. point_each step observes h found.member found.wider found.more b split.has.0.way x is;
            offered = λ x is. elim (point_offers step observes h found.member found.wider found.more split.mid split.first x is) [
              | inl first ↦ inl (inl first)
              | inr e ↦ elim (cases_eq e.0.0 event.process) [
                | inl same ↦ inr (subst (λ s. IsGiven step h s x)
                    (one_outcome step observes over functions h now (length h) (length h) (u.1.process, u.0.reply) e.0 split.mid.0 e.1 (placed_early step observes h b split.mid u) e.4 (split.has.1 ∙ sym same)).0 e.5.0)
                | inr other ↦ inl (inr (
                  e.0,
                  e.1,
                  elim (own.was e.0 e.2) [
                    | inl old ↦ old
                    | inr new ↦ absurd (other (sym (ap (λ (y : ℕ × Reply). y.0) new)))
                  ],
                  e.3,
                  e.4,
                  e.5,
                ))
              ]
            ];
          })
          (rest_of step observes h (found.member.0.state, found.wider) offers c.0 found.placed found.meets IsPlacedLast split) (λ at key call is_open no' first. first reply own.has)
        where
          offers : ℕ × Reply → Type 0
          offers = IsOfferedWith step observes h found.member found.wider

      without_it : IsCoveredWith step observes g others c
      without_it = elim (stands event.process found.wider) [
        | inl some ↦
            let there = subst (λ r. Contains found.wider (event.process, r)) (own_first found was some.0 some.1) some.1 in
            elim (found.more.rest (event.process, reply) there) [
              | inl first ↦ absurd (absent reply first)
              | inr early ↦ overwritten there early.0 early.1
            ]
        | inr none ↦ elim (found.meets.each (event.process, reply) (own_pair found was)) [
          | inl there ↦ placed_last there none
          | inr other ↦ elim other [
            | inl ready ↦ absurd (true≢false (sym ready.0.observer ∙ update ready.0.at ready.0.key ready.0.call ready.0.is_open))
            | inr crashed ↦ absurd (not_crashed start step observes unique functions h event name reply body alternates crashed)
          ]
        ]
      ]

    pub ok_update_with : AfterOk start step h event reply → IsCompleteWith start step observes h members → IsCompleteWith start step observes g others
    ok_update_with after complete c config =
        let from = after.was config.0 c config.1 in
        let found = complete (c.0, from.0) (config.0, from.1) in
        elim (stands event.process found.member.0.placed) [
          | inl some ↦ placed_with found from.2 (taken found.member found.among) some.0 some.1
          | inr absent ↦ without_it found from.2 absent
        ]

pub update_with_law : {S : Type 0} (start : S) (step : S → Call → S → Reply → Type 0) → EndsAreUnique → WellFormedIsAlternating → OkLaw start step → UpdateWithLaw start step
update_with_law start step unique alternating law observes over functions h event name reply body well_formed update members others reached taken ahead last complete =
    ok_update_with start step observes unique functions h event name reply body ((alternating functions (with_event h event)).0 well_formed) members others over reached update taken ahead last
    (law functions h event name reply body well_formed) complete
