-- After the ok of an observer, of members that stand also for what overwritten updates did: what gives the reply is placed, or one that is like it.
use Rattle.std.proofs.Common.{◌≡◌, ◌≢◌, ℕ, Bool, true, false, List, length, Contains, ◌⊎◌, inl, inr, refl, sym, ap, subst, ◌∙◌, true≢false}
use Rattle.std.proofs.lemmas.Bool.{cases_eq}
use Rattle.lin_events.specs.declared.items.Item.{Item}
use Rattle.lin_events.specs.declared.calls.Call.{Call}
use Rattle.lin_events.specs.declared.calls.Name.{Name}
use Rattle.lin_events.specs.declared.calls.Reply.{Reply}
use Rattle.lin_events.specs.declared.events.Body.TheVariants.{Ok}
use Rattle.lin_events.specs.declared.events.Event.{Event}
use Rattle.lin_events.specs.Alternation.{IsAlternating}
use Rattle.lin_events.specs.Operations.{IsOpen}
use Rattle.lin_events.specs.WellFormedLaws.{EndsAreUnique, WellFormedIsAlternating}
use Rattle.lin_objects.specs.Overwriting.{IsOverwriting}
use Rattle.lin_order.specs.Configurations.{IsAdded, IsRising}
use Rattle.lin_order.specs.ConfigurationLaws.{with_event, AfterOk, OkLaw}
use Rattle.lin_members.specs.declared.members.Path.{Path}
use Rattle.lin_members.specs.Exchanges.{AreAlike, Exchange, IsExchanged}
use Rattle.lin_members.specs.Members.{Meets, Member, IsGiven, IsOffered, IsOnOffer, IsReady, IsUpdate}
use Rattle.lin_members.specs.Overwritten.{IsCompleteWith, IsCoveredWith, IsEarlyGiven, IsEarlyUpdate, IsOfferedWith}
use Rattle.lin_members.specs.OverwrittenLaws.{AreReached, IsAskedFor, IsHeldUntil, IsHeldWith, IsLike, IsTakenWith, ObserverWithLaw}
use Rattle.lin_members.specs.lemmas.Choosing.{can_add, stands}
use Rattle.lin_members.specs.lemmas.Exchanging.{change, change_first, change_other, change_second, exchange_all, exchanged_itself, exchanged_meets, fixed_from, no_exchange, open_call}
use Rattle.lin_frontier.specs.lemmas.Inserting.{rising_once}
use Rattle.lin_members.proofs.Overwriting.{go_on, go_on_so, own_pair, placed_with, wider_rising}
use Rattle.lin_members.specs.lemmas.Returning.{earlier, not_crashed}
use Rattle.lin_members.proofs.Standing.{EndsWith, GivesEarly, given_at, one_outcome, placed_early, point_each, point_offers, same_outcome}
use Rattle.lin_members.specs.lemmas.Taking.{Split, rest_of}
use Rattle.lin_members.specs.lemmas.Ways.{way_kept, way_was}

-- placed operations in which the second pair has a place, and all others but the first have theirs
pub record HasLike (h : List Event) (old : List (ℕ × Reply)) (x y : ℕ × Reply) : Type 0 where
  pub exchange : Exchange h
  pub placed : List (ℕ × Reply)
  pub exchanged : IsExchanged exchange old placed
  pub has : Contains placed y
  pub others_in : (v : ℕ × Reply) → Contains old v → v.0 ≢ x.0 → v.0 ≢ y.0 → Contains placed v
  pub others_from : (v : ℕ × Reply) → Contains placed v → v.0 ≢ y.0 → Contains old v

-- an update that is placed, and one like it that isn't among these
module _ {S : Type 0} {start : S} (step : S → Call → S → Reply → Type 0) (observes : Call → Bool) (over : IsOverwriting start step observes) (functions : Item → Name → Bool) (h : List Event) (alternates : IsAlternating functions h)
    (until : ℕ) (x y : ℕ × Reply) (next : S) (early : IsEarlyUpdate step observes h until x next) (like : IsLike h x y) where
  -- updates of its process come to the same
  pub like_outcome : (v : ℕ × Reply) (last : S) → IsEarlyUpdate step observes h until v last → v.0 ≡ y.0 → (last ≡ next) × (v.1 ≡ x.1)
  like_outcome v last e same = elim like [
    | inl is ↦ one_outcome step observes over functions h alternates until until x v next last early e (ap (λ (z : ℕ × Reply). z.0) is ∙ sym same)
    | inr alike ↦ same_outcome step observes over functions h alternates until until x v next last early e
        (open_call functions h alternates early.at alike.0.at x.0 early.key alike.0.key early.call alike.0.call early.is_open alike.0.first
        ∙ open_call functions h alternates alike.0.other e.at y.0 alike.0.other_key e.key alike.0.call e.call alike.0.second (subst (λ q. IsOpen h e.at q e.key e.call) same e.is_open))
  ]

  like_reply : x.1 ≡ y.1
  like_reply = elim like [
    | inl is ↦ ap (λ (z : ℕ × Reply). z.1) is
    | inr alike ↦ alike.1
  ]

  module _ (old : List (ℕ × Reply)) (sorted : IsRising old) (there : Contains old x) where
    -- the one is put in the place of the other
    changed : ((other : Reply) → Contains old (y.0, other) → ⊥) → AreAlike h x.0 y.0 → HasLike h old x y
    changed none alike = record {
      exchange = e;
      placed = k.0;
      exchanged = k.1;
      has = subst (λ r. Contains k.0 (y.0, r)) like_reply (subst (λ q. Contains k.0 (q, x.1)) (change_first h x.0 y.0 alike) (k.1.part x there));
      others_in = λ v is not_x not_y. subst (λ q. Contains k.0 (q, v.1)) (change_other h x.0 y.0 alike v.0 not_x not_y) (k.1.part v is);
      others_from = λ v is not_y. elim (cases_eq v.0 x.0) [
        | inl same ↦ absurd (none v.1 (subst (λ q. Contains old (q, v.1)) (ap e.from (same ∙ sym (change_second h x.0 y.0 alike)) ∙ e.there y.0) (k.1.rest v is)))
        | inr not_x ↦ subst (λ q. Contains old (q, v.1)) (ap e.from (sym (change_other h x.0 y.0 alike v.0 not_x not_y)) ∙ e.there v.0) (k.1.rest v is)
      ];
    }
      where
        e : Exchange h
        e = change h x.0 y.0 alike

        k : (others : List (ℕ × Reply)) × IsExchanged e old others
        k = exchange_all e old sorted

    pub has_like : (base : List (ℕ × Reply)) → ((other : Reply) → Contains base (y.0, other) → ⊥) → ((v : ℕ × Reply) → Contains old v → Contains base v ⊎ ((last : S) × IsEarlyUpdate step observes h until v last)) → HasLike h old x y
    has_like base absent each = elim (stands y.0 old) [
      | inl some ↦ record {
        exchange = no_exchange h;
        placed = old;
        exchanged = exchanged_itself h old sorted;
        has = subst (λ r. Contains old (y.0, r)) (elim (each (y.0, some.0) some.1) [
          | inl first ↦ absurd (absent some.0 first)
          | inr e ↦ (like_outcome (y.0, some.0) e.0 e.1 refl).1 ∙ like_reply
        ]) some.1;
        others_in = λ v is not_x not_y. is;
        others_from = λ v is not_y. is;
      }
      | inr none ↦ elim like [
        | inl is ↦ absurd (none x.1 (subst (λ (z : ℕ × Reply). Contains old (z.0, x.1)) is there))
        | inr alike ↦ changed none alike.0
      ]
    ]

module _ {S : Type 0} (start : S) (step : S → Call → S → Reply → Type 0) (observes : Call → Bool) (unique : EndsAreUnique) (functions : Item → Name → Bool) (h : List Event) (event : Event)
    (name : Name) (reply : Reply) (body : event.body ≡ Ok name reply) (alternates : IsAlternating functions (with_event h event)) (members others : List (Member S × Path))
    (over : IsOverwriting start step observes) (reached : AreReached start step members) (observer : (at : ℕ) (key : Item) (call : Call) → IsOpen h at event.process key call → observes call ≡ true) where
  abbrev g : List Event
  g = with_event h event

  now : IsAlternating functions h
  now = earlier start step observes unique functions h event name reply body alternates

  module _ {c : S × List (ℕ × Reply)} {all : List (ℕ × Reply)} (found : IsCoveredWith step observes h members (c.0, all)) (was : IsAdded event.process reply c.1 all) where
    abbrev first_placed : List (ℕ × Reply)
    first_placed = found.member.0.placed

    -- no update is of the process
    no_update : {A : Type 0} (at : ℕ) (key : Item) (call : Call) → IsOpen h at event.process key call → observes call ≡ false → A
    no_update at key call is_open no' = absurd (true≢false (sym (observer at key call is_open) ∙ no'))

    -- at a point where an update is placed that gives the reply, one that is like it is placed too
    asked : (s : S) (old : List (ℕ × Reply)) (offers' : ℕ × Reply → Type 0) → Meets step observes h (s, old) offers' c.0 found.placed → IsRising old → ((other : Reply) → Contains old (event.process, other) → ⊥)
        → ((v : ℕ × Reply) → Contains first_placed v → Contains old v) → (until : ℕ) → ((v : ℕ × Reply) → Contains old v → Contains first_placed v ⊎ ((last : S) × IsEarlyUpdate step observes h until v last))
        → (x : ℕ × Reply) → Contains old x → ((other : Reply) → Contains first_placed (x.0, other) → ⊥) → (next : S) → IsEarlyUpdate step observes h until x next
        → (P : ℕ × Reply → Type 0) (offers : ℕ × Reply → Type 0) → IsHeldWith observes h g others first_placed x P s offers until
        → ((z : ℕ × Reply) → offers' z → offers z ⊎ GivesEarly step observes h until old first_placed z)
        → ((z : ℕ × Reply) → IsEarlyGiven step h until next z → offers z ⊎ IsGiven step h s z)
        → IsCoveredWith step observes g others c
    asked s old offers' is sorted none part until each x there absent next early P offers asks offered gives =
        go_on start step observes unique functions h event name reply body alternates members others found was l.exchange on.0 on.1 s l.placed l.placed base.0 offers' offers until (asks.held base.0 base.1) (record {
          sorted = l.exchanged.rising;
          within = λ v is_in. is_in;
          absent = λ other is_in. none other (subst (λ q. Contains old (q, other)) (fixed_from l.exchange event.process (not_crashed start step observes unique functions h event name reply body alternates))
              (l.exchanged.rest (event.process, other) is_in));
          leaves = λ v is_in. inl is_in;
          part = λ v is_in. elim (base.1.was v is_in) [
            | inl first ↦ l.others_in v (part v first) (λ same. absent v.1 (subst (λ q. Contains first_placed (q, v.1)) same first)) (λ same. asks.absent v.1 (subst (λ q. Contains first_placed (q, v.1)) same first))
            | inr new ↦ subst (Contains l.placed) new l.has
          ];
          each = λ v is_in. elim (cases_eq v.0 asks.y.0) [
            | inl same ↦
                let one = rising_once l.placed asks.y.0 asks.y.1 v.1 l.exchanged.rising l.has (subst (λ q. Contains l.placed (q, v.1)) same is_in) in
                inl (subst (Contains base.0) (λ i. (sym same i, one i)) base.1.has)
            | inr not_y ↦ elim (each v (l.others_from v is_in not_y)) [
              | inl first ↦ inl (base.1.kept v first)
              | inr e ↦ inr e
            ]
          ];
          offered = λ z is_in. elim (offered z is_in) [
            | inl offer ↦ inl (inl offer)
            | inr e ↦ elim (cases_eq e.0.0 x.0) [
              | inl same ↦ as_next z e.1 (one_outcome step observes over functions h now until until x e.0 next e.1 early e.4 (sym same)).0 e.5
              | inr not_x ↦ elim (cases_eq e.0.0 asks.y.0) [
                | inl same ↦ as_next z e.1 (like_outcome step observes over functions h now until x asks.y next early asks.like e.0 e.1 e.4 same).0 e.5
                | inr not_y ↦ inl (inr (
                  e.0,
                  e.1,
                  l.others_in e.0 e.2 not_x not_y,
                  (λ is_base. elim (base.1.was e.0 is_base) [
                    | inl first ↦ e.3 first
                    | inr new ↦ not_y (sym (ap (λ (v : ℕ × Reply). v.0) new))
                  ]),
                  e.4,
                  e.5,
                ))
              ]
            ]
          ];
        }) on.2 (λ at key call is_open no' first. no_update at key call is_open no')
      where
        l : HasLike h old x asks.y
        l = has_like step observes over functions h now until x asks.y next early asks.like old sorted there first_placed asks.absent each

        on : (r : List (ℕ × Reply)) × IsExchanged l.exchange found.placed r × Meets step observes h (s, l.placed) offers' c.0 r
        on = exchanged_meets l.exchange functions now step observes offers' (s, old) l.placed l.exchanged c.0 found.placed is

        base : (wider : List (ℕ × Reply)) × IsAdded asks.y.0 asks.y.1 first_placed wider
        base = can_add asks.y.0 asks.y.1 first_placed found.more.before asks.absent

        as_next : (z : ℕ × Reply) (last : S) → last ≡ next → IsEarlyGiven step h until last z → (offers z ⊎ GivesEarly step observes h until l.placed base.0 z) ⊎ IsGiven step h s z
        as_next z last same given = elim (gives z (subst (λ t. IsEarlyGiven step h until t z) same given)) [
          | inl offer ↦ inl (inl offer)
          | inr given' ↦ inr given'
        ]

    module _ (none : (other : Reply) → Contains found.wider (event.process, other) → ⊥) where
      sorted : IsRising found.wider
      sorted = wider_rising start step observes unique functions h event name reply body alternates members others found was

      abbrev offers_with : ℕ × Reply → Type 0
      offers_with = IsOfferedWith step observes h found.member found.wider

      -- the member itself is held
      at_once : IsHeldUntil observes g others found.member.0.state first_placed (IsOnOffer found.member.0) found.member.1.until → IsCoveredWith step observes g others c
      at_once held = go_on_so start step observes unique functions h event name reply body alternates members others found was found.member.0.state found.wider found.wider first_placed offers_with
          (IsOnOffer found.member.0) found.member.1.until held (record {
            sorted = sorted;
            within = λ v is_in. is_in;
            absent = none;
            leaves = λ v is_in. inl is_in;
            part = found.more.part;
            each = found.more.rest;
            offered = λ z is_in. inl is_in;
          }) found.meets (λ at key call is_open no' first. no_update at key call is_open no')

      module _ (asks : IsAskedFor step observes h g event.process reply others found.member) where
        -- an overwritten update gives the reply
        by_early : GivesEarly step observes h found.member.1.until found.wider first_placed (event.process, reply) → IsCoveredWith step observes g others c
        by_early e =
            asked found.member.0.state found.wider offers_with found.meets sorted none found.more.part found.member.1.until found.more.rest e.0 e.2 absent e.1 e.4
            (λ y. IsEarlyUpdate step observes h found.member.1.until y e.1) (λ z. IsOnOffer found.member.0 z ⊎ IsEarlyGiven step h found.member.1.until e.1 z) (asks.before e.0 e.1 e.4 absent e.5)
            (λ z is_in. elim is_in [
              | inl offer ↦ inl (inl offer)
              | inr gives ↦ inr gives
            ])
            (λ z given. inl (inr given))
          where
            absent : (other : Reply) → Contains first_placed (e.0.0, other) → ⊥
            absent other is_in = e.3 (subst (λ r. Contains first_placed (e.0.0, r)) (rising_once found.wider e.0.0 other e.0.1 sorted (found.more.part (e.0.0, other) is_in) e.2) is_in)

        -- an update on the way gives it
        abbrev Gives : (d : S × List (ℕ × Reply)) → Type 0
        Gives d = EndsWith step observes h (found.member.0.state, found.wider) d × IsGiven step h d.0 (event.process, reply)

        by_update : Split step observes h offers_with (found.member.0.state, found.wider) (c.0, found.meets.placed) found.meets.way (λ d first. Gives d) → IsCoveredWith step observes g others c
        by_update split =
            asked split.mid.0 split.mid.1 (IsOffered step observes h offers_with (found.member.0.state, found.wider) split.mid split.first)
            (rest_of step observes h (found.member.0.state, found.wider) offers_with c.0 found.placed found.meets (λ d first. Gives d) split)
            u.1.added.rising
            (λ other is_in. elim (way_was step observes h (found.member.0.state, found.wider) split.mid split.first (event.process, other) is_in) [
              | inl first ↦ none other first
              | inr v ↦ no_update v.0 v.1 v.2 v.3 v.4
            ])
            (λ v is_in. way_kept step observes h (found.member.0.state, found.wider) split.mid split.first v (found.more.part v is_in)) (length h)
            (point_each step observes h found.member found.wider found.more split.mid split.first) (u.1.process, u.0.reply) u.1.added.has absent split.mid.0 (placed_early step observes h b split.mid u)
            (λ y. Unit {0}) (λ z. IsOnOffer found.member.0 z ⊎ IsGiven step h found.member.0.state z)
            (asks.behind (u.1.process, u.0.reply) u.0.at u.1.key u.1.call split.mid.0 u.1.is_open u.2 ((over u.1.call u.2 b.0 found.member.0.state split.mid.0 u.0.reply u.1.steps).0 (reached found.member found.among)) absent split.has.1)
            (point_offers step observes h found.member found.wider found.more split.mid split.first)
            (λ z given. inr given.0)
          where
            b : S × List (ℕ × Reply)
            b = split.has.0.before

            u : IsUpdate step observes h b split.mid
            u = split.has.0.last

            absent : (other : Reply) → Contains first_placed (u.1.process, other) → ⊥
            absent other is_in = u.1.added.absent other (way_kept step observes h (found.member.0.state, found.wider) b split.has.0.way (u.1.process, other) (found.more.part (u.1.process, other) is_in))

        -- the member may not have the reply itself
        by_another : (IsOnOffer found.member.0 (event.process, reply) → ⊥) → (IsGiven step h found.member.0.state (event.process, reply) → ⊥)
            → IsReady step observes h offers_with (found.member.0.state, found.wider) (c.0, found.meets.placed) found.meets.way (event.process, reply) → IsCoveredWith step observes g others c
        by_another no_offer not_given ready = elim (given_at step observes h (found.member.0.state, found.wider) offers_with (event.process, reply) (c.0, found.meets.placed) found.meets.way ready.1) [
          | inl first ↦ elim first [
            | inl begins ↦ elim begins [
              | inl offer ↦ absurd (no_offer offer)
              | inr e ↦ by_early e
            ]
            | inr given ↦ absurd (not_given given)
          ]
          | inr split ↦ by_update split
        ]

  -- of all members
  pub ok_observer_with : AfterOk start step h event reply → ((m : Member S × Path) → Contains members m → IsTakenWith observes g event.process reply others m)
      → ((m : Member S × Path) → Contains members m → ((other : Reply) → Contains m.0.placed (event.process, other) → ⊥) → IsHeldUntil observes g others m.0.state m.0.placed (IsOnOffer m.0) m.1.until
      ⊎ ((IsOnOffer m.0 (event.process, reply) → ⊥) × (IsGiven step h m.0.state (event.process, reply) → ⊥) × IsAskedFor step observes h g event.process reply others m))
      → IsCompleteWith start step observes h members → IsCompleteWith start step observes g others
  ok_observer_with after taken each complete c config =
      let from = after.was config.0 c config.1 in
      let found = complete (c.0, from.0) (config.0, from.1) in
      by found from.2
    where
      by : {all : List (ℕ × Reply)} → (found : IsCoveredWith step observes h members (c.0, all)) → IsAdded event.process reply c.1 all → IsCoveredWith step observes g others c
      by found was = elim (stands event.process found.member.0.placed) [
        | inl some ↦ placed_with start step observes unique functions h event name reply body alternates members others found was (taken found.member found.among) some.0 some.1
        | inr absent ↦ elim (stands event.process found.wider) [
          | inl some ↦ elim (found.more.rest (event.process, some.0) some.1) [
            | inl first ↦ absurd (absent some.0 first)
            | inr e ↦ no_update found was e.1.at e.1.key e.1.call e.1.is_open e.1.update
          ]
          | inr none ↦ elim (found.meets.each (event.process, reply) (own_pair start step observes unique functions h event name reply body alternates members others found was)) [
            | inl last ↦ elim (way_was step observes h (found.member.0.state, found.wider) (c.0, found.meets.placed) found.meets.way (event.process, reply) last) [
              | inl first ↦ absurd (none reply first)
              | inr u ↦ no_update found was u.0 u.1 u.2 u.3 u.4
            ]
            | inr other ↦ elim other [
              | inl ready ↦ elim (each found.member found.among absent) [
                | inl held ↦ at_once found was none held
                | inr asks ↦ by_another found was none asks.2 asks.0 asks.1 ready
              ]
              | inr crashed ↦ absurd (not_crashed start step observes unique functions h event name reply body alternates crashed)
            ]
          ]
        ]
      ]

pub observer_with_law : {S : Type 0} (start : S) (step : S → Call → S → Reply → Type 0) → EndsAreUnique → WellFormedIsAlternating → OkLaw start step → ObserverWithLaw start step
observer_with_law start step unique alternating law observes over functions h event name reply body well_formed observer members others reached taken each complete =
    ok_observer_with start step observes unique functions h event name reply body ((alternating functions (with_event h event)).0 well_formed) members others over reached observer
    (law functions h event name reply body well_formed) taken each complete
