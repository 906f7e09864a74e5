-- After an ok, by members that a search visits.
use Rattle.std.proofs.Common.{◌≡◌, ◌≢◌, ℕ, Bool, true, List, length, Contains, ◌⊎◌, inl, inr, refl, sym, ap, subst, ◌∙◌, Some, slice_get}
use Rattle.lin_events.specs.declared.items.Item.{Item}
use Rattle.lin_events.specs.declared.calls.Name.{Name}
use Rattle.lin_events.specs.declared.calls.Call.{Call}
use Rattle.lin_events.specs.declared.calls.Reply.{Reply}
use Rattle.lin_events.specs.declared.events.Body.TheVariants.{Ok}
use Rattle.lin_events.specs.declared.events.Event.{Event}
use Rattle.lin_events.specs.Alternation.{IsAlternating}
use Rattle.lin_events.specs.Operations.{IsOpen, IsOperation}
use Rattle.lin_events.specs.WellFormed.{Completes}
use Rattle.lin_events.specs.WellFormedLaws.{EndsAreUnique}
use Rattle.lin_lists.specs.lemmas.Lists.{get_last}
use Rattle.lin_events.specs.lemmas.OneMore.{completes, open_before}
use Rattle.lin_order.specs.Configurations.{IsAdded}
use Rattle.lin_order.specs.ConfigurationLaws.{with_event}
use Rattle.lin_members.specs.Covers.{HasCrashed}
use Rattle.lin_members.specs.Exchanges.{Exchange, IsExchanged}
use Rattle.lin_members.specs.Members.{Member, IsOnOffer, IsWatching, IsGiven, IsUpdate, WayOf, here, more, DominatesAt}
use Rattle.lin_members.specs.lemmas.Choosing.{can_add}
use Rattle.lin_members.specs.lemmas.Following.{Passes}
use Rattle.lin_members.specs.lemmas.Crashes.{never_crashed, ok_no_info, passes_ok}
use Rattle.lin_members.specs.lemmas.Exchanging.{crash_to, fixed}
use Rattle.lin_members.specs.lemmas.Taking.{IsHeld, IsStopped}

-- what the one history has of watching and crashed processes, the other has
pub record Backs (observes : Call → Bool) (h g : List Event) : Type 0 where
  pub crashes : (q : ℕ) → HasCrashed h q → HasCrashed g q
  pub watches : (q : ℕ) → IsWatching observes g q → IsWatching observes h q

pub backs_itself : (observes : Call → Bool) (h : List Event) → Backs observes h h
backs_itself observes h = record { crashes = λ q c. c; watches = λ q w. w }

-- one event stands at a position
pub one_event : (h : List Event) (at : ℕ) (a b : Event) → slice_get h at ≡ Some a → slice_get h at ≡ Some b → a ≡ b
one_event h at a b p q = some_same (sym p ∙ q)
  where
    some_same : Some a ≡ Some b → a ≡ b
    some_same e = cc

module _ {S : Type 0} (step : S → Call → S → Reply → Type 0) (observes : Call → Bool) where
  -- domination of a point by way of another member
  pub through : (h g : List Event) → Backs observes h g → (n k : Member S) (s : S) (placed : List (ℕ × Reply)) (first_offers between last_offers : ℕ × Reply → Type 0)
      → DominatesAt observes h n s placed first_offers → DominatesAt observes g k n.state n.placed between
      → ((x : ℕ × Reply) → IsWatching observes g x.0 → last_offers x → first_offers x × (IsOnOffer n x → between x)) → DominatesAt observes g k s placed last_offers
  through h g backs n k s placed first_offers between last_offers first second splits = record {
    sorted = second.sorted;
    same = second.same ∙ first.same;
    part = λ x there. first.part x (second.part x there);
    rest = λ x there. elim (first.rest x there) [
      | inl kept ↦ second.rest x kept
      | inr crashed ↦ inr (backs.crashes x.0 crashed)
    ];
    offered = λ x watching absent there.
        let both = splits x watching there in
        second.offered x watching absent (both.1 (first.offered x (backs.watches x.0 watching)
        (λ other is. elim (second.rest (x.0, other) is) [ inl kept ↦ absent other kept | inr crashed ↦ watching.alive crashed ]) both.0));
  }

  module _ (h : List Event) (process : ℕ) (n : Member S) (c d : S × List (ℕ × Reply)) (offers : ℕ × Reply → Type 0) (dominates : DominatesAt observes h n c.0 c.1 (λ x. (x.0 ≢ process) × offers x))
      (u : IsUpdate step observes h c d) where
    pub own_wider : (placed : List (ℕ × Reply)) × IsAdded u.1.process u.0.reply n.placed placed
    own_wider = can_add u.1.process u.0.reply n.placed dominates.sorted (λ other there. u.1.added.absent other (dominates.part (u.1.process, other) there))

    -- the update of a point is one of the member that dominates it
    abbrev pub own_update : IsUpdate step observes h (n.state, n.placed) (d.0, own_wider.0)
    own_update = (
      u.0,
      record {
        process = u.1.process;
        key = u.1.key;
        call = u.1.call;
        is_open = u.1.is_open;
        steps = subst (λ s. step s u.1.call d.0 u.0.reply) (sym dominates.same) u.1.steps;
        added = own_wider.1;
      },
      u.2,
    )

    -- the end of the one places no more than the end of the other, but for what crashed
    pub own_part : (x : ℕ × Reply) → Contains own_wider.0 x → Contains d.1 x
    own_part x there = elim (own_wider.1.was x there) [
      | inl old ↦ u.1.added.kept x (dominates.part x old)
      | inr new ↦ subst (Contains d.1) new u.1.added.has
    ]

    pub own_rest : (x : ℕ × Reply) → Contains d.1 x → Contains own_wider.0 x ⊎ HasCrashed h x.0
    own_rest x there = elim (u.1.added.was x there) [
      | inl old ↦ elim (dominates.rest x old) [
        | inl kept ↦ inl (own_wider.1.kept x kept)
        | inr crashed ↦ inr crashed
      ]
      | inr new ↦ inl (subst (Contains own_wider.0) new own_wider.1.has)
    ]

    -- and what dominates the one's end, exchanged, dominates the other's
    pub after_update : (e : Exchange h) (others more_of : List (ℕ × Reply)) → IsExchanged e own_wider.0 others → IsExchanged e d.1 more_of → (k : Member S)
        → DominatesAt observes h k d.0 others (λ x. (x.0 ≢ process) × (IsOnOffer n x ⊎ IsGiven step h n.state x))
        → DominatesAt observes h k d.0 more_of (λ x. (x.0 ≢ process) × (offers x ⊎ IsGiven step h c.0 x))
    after_update e others more_of own whole k next = record {
      sorted = next.sorted;
      same = next.same;
      part = λ x there. subst (λ q. Contains more_of (q, x.1)) (e.back x.0) (whole.part (e.from x.0, x.1) (own_part (e.from x.0, x.1) (own.rest x (next.part x there))));
      rest = λ x there. elim (own_rest (e.from x.0, x.1) (whole.rest x there)) [
        | inl kept ↦ next.rest x (subst (λ q. Contains others (q, x.1)) (e.back x.0) (own.part (e.from x.0, x.1) kept))
        | inr crashed ↦ inr (subst (HasCrashed h) (e.back x.0) (crash_to e (e.from x.0) crashed))
      ];
      offered = λ x watching absent there. next.offered x watching absent (
        there.0,
        elim there.1 [
          | inl earlier ↦ inl (dominates.offered x watching
              (λ other is. elim (next.rest (x.0, other) (subst (λ q. Contains others (q, other)) (fixed e x.0 watching.alive) (own.part (x.0, other) (own_wider.1.kept (x.0, other) is)))) [
                | inl kept ↦ absent other kept
                | inr crashed ↦ watching.alive crashed
              ])
              (there.0, earlier))
          | inr given ↦ inr (record { at = given.at; key = given.key; call = given.call; next = given.next; is_open = given.is_open; steps = subst (λ s. step s given.call given.next x.1) (sym dominates.same) given.steps })
        ],
      );
    }

  -- a way's end that is held is a stop
  pub held_stops : (h g : List Event) (others : List (Member S)) (m : Member S) (c : S × List (ℕ × Reply)) (way : WayOf step observes h m c) → IsHeld step observes h g others m c way → IsStopped step observes h g others m c way
  held_stops h g others m c here held = held
  held_stops h g others m c (more way u) held = inr held

  -- where the history and the longer one are of an ok
  module _ (functions : Item → Name → Bool) (h : List Event) (event : Event) (name : Name) (reply : Reply) (body : event.body ≡ Ok name reply)
      (alternates : IsAlternating functions (with_event h event)) where
    pub passes : Passes observes h (with_event h event) (λ q. q ≡ event.process)
    passes = passes_ok h event functions alternates observes name reply body

    pub not_watching : (q : ℕ) → IsWatching observes (with_event h event) q → q ≢ event.process
    not_watching q w same = passes.shut w.at q w.key w.call same w.is_open

    pub backs_ok : Backs observes h (with_event h event)
    backs_ok = record {
      crashes = passes.crashes;
      watches = λ q w. record {
        at = w.at;
        key = w.key;
        call = w.call;
        is_open = open_before h event w.at q w.key w.call (λ e. not_watching q w (is_last w.at q w.key w.call e w.is_open)) w.is_open;
        observer = w.observer;
        alive = λ c. w.alive (passes.crashes q c);
      };
    }
      where
        -- what stands last is of the event's process
        is_last : (at q : ℕ) (key : Item) (call : Call) → at ≡ length h → IsOpen (with_event h event) at q key call → q ≡ event.process
        is_last at q key call e o = ap (λ (x : Event). x.process) (one_event (with_event h event) (length h) _ event (subst (λ k. IsOperation (with_event h event) k q key call) e o.begins) (get_last h event))

    -- the process watches, if its operation observes
    pub watching : EndsAreUnique → ((at : ℕ) (key : Item) (call : Call) → IsOpen h at event.process key call → observes call ≡ true) → IsWatching observes h event.process
    watching unique observer =
        let is = subst (λ b. Completes b name) (sym body) refl in
        let i = completes h event functions alternates name is in
        record { at = i.0; key = i.1; call = i.2; is_open = i.3; observer = observer i.0 i.1 i.2 i.3; alive = λ c. never_crashed h event functions alternates unique name is (λ other. ok_no_info body other) c }
