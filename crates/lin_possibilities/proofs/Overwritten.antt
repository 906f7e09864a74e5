-- Where the object is overwritten, what the members of its frontier show is all that is possible: an update that was overwritten, or is placed last, can be placed
-- on the member itself, with the same outcome.
use Rattle.std.proofs.Common.{◌≡◌, ◌⊎◌, ℕ, Bool, true, false, true≢false, IsTrue, List, Contains, inl, inr, refl, sym, ap, subst, ◌∙◌, length}
use Rattle.lin_events.specs.declared.items.Item.{Item}
use Rattle.lin_events.specs.declared.calls.Call.{Call}
use Rattle.lin_events.specs.declared.calls.Name.{Name}
use Rattle.lin_events.specs.declared.calls.Reply.{Reply}
use Rattle.lin_events.specs.declared.events.Event.{Event}
use Rattle.lin_events.specs.Alternation.{IsAlternating}
use Rattle.lin_events.specs.Operations.{IsOpen}
use Rattle.lin_objects.specs.Overwriting.{IsOverwriting}
use Rattle.lin_objects.specs.Total.{Reaches}
use Rattle.lin_order.specs.declared.placed.Placed.{Placed}
use Rattle.lin_order.specs.Configurations.{IsAdded, IsRising}
use Rattle.lin_frontier.specs.declared.pending.Open.{Open}
use Rattle.lin_frontier.specs.Frontiers.{IsPending}
use Rattle.lin_frontier.specs.Placing.{IsAbsent, PlacesOne, insert_pair}
use Rattle.lin_frontier.specs.lemmas.Inserting.{absent_from, insert_added, none_from, rising_once}
use Rattle.lin_lists.specs.lemmas.Filters.{from_map}
use Rattle.lin_members.specs.declared.members.Path.{Path}
use Rattle.lin_members.specs.Covers.{HasCrashed}
use Rattle.lin_members.specs.Listed.{config_of}
use Rattle.lin_members.specs.Members.{Member, IsGiven, IsOffered, IsWatching, Meets, Way, here, more}
use Rattle.lin_members.specs.Overwritten.{HasOverwritten, IsCoveredWith, IsOfferedWith}
use Rattle.lin_members.specs.lemmas.Awaiting.{open_pending, pending_crashed}
use Rattle.lin_members.specs.lemmas.Choosing.{stands}
use Rattle.lin_members.specs.lemmas.Exchanging.{open_call}
use Rattle.lin_members.specs.lemmas.Ways.{way_kept}
use Rattle.lin_possibilities.specs.inner.Telling.{AreWatching, Has, IsTold}
use Rattle.std.proofs.Common.{Option}
use Rattle.lin_events.specs.WellFormed.{IsWellFormed}
use Rattle.lin_events.specs.WellFormedLaws.{WellFormedIsAlternating}
use Rattle.lin_objects.specs.declared.kinds.Kind.{Kind}
use Rattle.lin_objects.specs.declared.states.State.{State}
use Rattle.lin_objects.specs.Observing.{observes}
use Rattle.lin_objects.specs.Steps.{Step, start}
use Rattle.lin_configurations.specs.lemmas.Onward.{spelled_reached, spelled_rising}
use Rattle.lin_members.specs.Compressed.{IsCovering, IsSpelled}
use Rattle.lin_members.specs.RoundLaws.{TrailEndsLaw}
use Rattle.lin_members.specs.Rounds.{joined}
use Rattle.lin_possibilities.specs.declared.possible.Possible.{Possible}
use Rattle.lin_possibilities.specs.After.{IsAfter, kind_in}
use Rattle.lin_possibilities.specs.Running.{IsKnown}

-- a truth that is not true is false
decide : (b : Bool) → (b ≡ true) ⊎ (b ≡ false)
decide true = inl refl
decide false = inr refl

module _ {S : Type 0} (start : S) (step : S → Call → S → Reply → Type 0) (observes : Call → Bool) (overwriting : IsOverwriting start step observes) (functions : Item → Name → Bool) (h : List Event) (alternates : IsAlternating functions h)
    (pending observers : List Open) (opened : IsPending h pending) (watching : AreWatching observes pending observers) (m : Member S × Path) (reached : Reaches step start m.0.state) (rising : IsRising m.0.placed)
    (now : List (Member S × Path)) (told : IsTold step pending observers m now) where
  -- a member has the state, or places the pair
  abbrev pub ShowsState : S → Type 0
  ShowsState s = (n : Member S × Path) × Contains now n × (n.0.state ≡ s)

  abbrev pub ShowsPair : ℕ × Reply → Type 0
  ShowsPair x = (n : Member S × Path) × Contains now n × Contains n.0.placed x

  shows_state : (c : S × List (ℕ × Reply)) → Has now c → ShowsState c.0
  shows_state c has = let n = from_map config_of now c has in (n.0, n.1, ap (λ (d : S × List (ℕ × Reply)). d.0) n.2)

  shows_pair : (c : S × List (ℕ × Reply)) (x : ℕ × Reply) → Has now c → Contains c.1 x → ShowsPair x
  shows_pair c x has there = let n = from_map config_of now c has in (n.0, n.1, subst (λ (d : S × List (ℕ × Reply)). Contains d.1 x) (sym n.2) there)

  -- the state is the member's, or an open update that has no place in it leads to it at once
  abbrev Follows : S → Type 0
  Follows s = (m.0.state ≡ s) ⊎ ((o : Open) × (reply : Reply) × Contains pending o × IsAbsent o.process m.0.placed × (observes o.call ≡ false) × step m.0.state o.call s reply)

  -- what the process places in the member, if it does, is this reply
  abbrev IsOnly : ℕ × Reply → Type 0
  IsOnly x = (other : Reply) → Contains m.0.placed (x.0, other) → other ≡ x.1

  abbrev placed_by : (o : Open) (reply : Reply) → Placed
  placed_by o reply = record { at = o.at; reply = reply }

  places : (o : Open) (s t : S) (placed : List (ℕ × Reply)) (reply : Reply) → IsAbsent o.process placed → step s o.call t reply → PlacesOne step o (s, placed) (placed_by o reply) (t, insert_pair o.process reply placed)
  places o s t placed reply absent steps = record { absent = absent; at = refl; steps = steps; placed = refl }

  shows_own : (x : ℕ × Reply) → IsOnly x → (other : Reply) → Contains m.0.placed (x.0, other) → ShowsPair x
  shows_own x only other there = shows_pair (config_of m) x told.own (subst (λ r. Contains m.0.placed (x.0, r)) (only other there) there)

  shows_next : (s : S) → Follows s → ShowsState s
  shows_next s follows = elim follows [
    | inl same ↦ let n = shows_state (config_of m) told.own in (n.0, n.1, n.2 ∙ same)
    | inr o ↦ shows_state (s, insert_pair o.0.process o.1 m.0.placed) (told.placed o.0 (placed_by o.0 o.1) (s, insert_pair o.0.process o.1 m.0.placed) o.2 (places o.0 m.0.state s m.0.placed o.1 o.3 o.5))
  ]

  -- the pair that was put in
  put_in : (process : ℕ) (reply : Reply) (placed : List (ℕ × Reply)) → IsRising placed → IsAbsent process placed → IsAdded process reply placed (insert_pair process reply placed)
  put_in process reply placed sorted absent = insert_added process reply placed sorted (none_from process placed absent)

  -- an update that is open, wherever it takes a step
  module _ (x : ℕ × Reply) (at : ℕ) (key : Item) (call : Call) (is_open : IsOpen h at x.0 key call) (update : observes call ≡ false) (from next : S) (steps : step from call next x.1) where
    follows_by : ((other : Reply) → Contains m.0.placed (x.0, other) → ⊥) → Follows next
    follows_by none =
        let o = open_pending h pending opened at x.0 key call is_open in
        let same = sym o.4 in
        inr (
          o.0,
          x.1,
          o.1,
          subst (λ q. IsAbsent q m.0.placed) (sym o.3) (absent_from x.0 m.0.placed none),
          ap observes o.4 ∙ update,
          subst (λ k. step m.0.state k next x.1) same ((overwriting call update from m.0.state next x.1 steps).0 reached),
        )

    shows_update : IsOnly x → ShowsPair x
    shows_update only = elim (stands x.0 m.0.placed) [
      | inl some ↦ shows_own x only some.0 some.1
      | inr none ↦
          let o = open_pending h pending opened at x.0 key call is_open in
          let absent = subst (λ q. IsAbsent q m.0.placed) (sym o.3) (absent_from x.0 m.0.placed none) in
          let takes = subst (λ k. step m.0.state k next x.1) (sym o.4) ((overwriting call update from m.0.state next x.1 steps).0 reached) in
          let d : S × List (ℕ × Reply) = (next, insert_pair o.0.process x.1 m.0.placed) in
          shows_pair d x (told.placed o.0 (placed_by o.0 x.1) d o.1 (places o.0 m.0.state next m.0.placed x.1 absent takes))
          (subst (λ q. Contains (insert_pair o.0.process x.1 m.0.placed) (q, x.1)) o.3 (put_in o.0.process x.1 m.0.placed rising absent).has)
    ]

  -- an observer that is open and has not crashed is among the observers
  watcher : (o : Open) → Contains pending o → observes o.call ≡ true → (HasCrashed h o.process → ⊥) → Contains observers o
  watcher o there observer alive = elim (decide o.crashed) [
    | inl crashed ↦ absurd (alive (pending_crashed h pending opened o there (truth o.crashed crashed)))
    | inr not ↦ watching.all o there observer not
  ]
    where
      truth : (b : Bool) → b ≡ true → IsTrue b
      truth b is = is

  -- what a state that follows gives to an observer
  shows_given : (s : S) → Follows s → (x : ℕ × Reply) → IsWatching observes h x.0 → IsGiven step h s x → IsOnly x → ShowsPair x
  shows_given s follows x watches given only = elim (stands x.0 m.0.placed) [
    | inl some ↦ shows_own x only some.0 some.1
    | inr none ↦
        let w = open_pending h pending opened given.at x.0 given.key given.call given.is_open in
        let takes : step s w.0.call given.next x.1 = subst (λ k. step s k given.next x.1) (sym w.4) given.steps in
        let absent : IsAbsent w.0.process m.0.placed = subst (λ q. IsAbsent q m.0.placed) (sym w.3) (absent_from x.0 m.0.placed none) in
        elim follows [
          | inl same ↦
              let d : S × List (ℕ × Reply) = (given.next, insert_pair w.0.process x.1 m.0.placed) in
              shows_pair d x (told.placed w.0 (placed_by w.0 x.1) d w.1 (places w.0 m.0.state given.next m.0.placed x.1 absent (subst (λ t. step t w.0.call given.next x.1) (sym same) takes)))
              (subst (λ q. Contains (insert_pair w.0.process x.1 m.0.placed) (q, x.1)) w.3 (put_in w.0.process x.1 m.0.placed rising absent).has)
          | inr o ↦ behind w.0 w.1 w.3 (ap observes (w.4 ∙ open_call functions h alternates given.at watches.at x.0 given.key watches.key given.call watches.call given.is_open watches.is_open) ∙ watches.observer) takes absent o.0 o.1 o.2 o.3 o.4 o.5
        ]
  ]
    where
      behind : (w : Open) → Contains pending w → w.process ≡ x.0 → observes w.call ≡ true → step s w.call given.next x.1 → IsAbsent w.process m.0.placed
          → (o : Open) (reply : Reply) → Contains pending o → IsAbsent o.process m.0.placed → observes o.call ≡ false → step m.0.state o.call s reply → ShowsPair x
      behind w w_there w_same observer takes w_absent o reply o_there o_absent update steps =
          let put = put_in o.process reply m.0.placed rising o_absent in
          let placed = insert_pair o.process reply m.0.placed in
          let others : IsAbsent w.process placed = absent_from w.process placed (λ other there. elim (put.was (w.process, other) there) [
            | inl old ↦ none_from w.process m.0.placed w_absent other old
            | inr same ↦ differ w w_there observer o o_there update (ap (λ (y : ℕ × Reply). y.0) same)
          ]) in
          let e : S × List (ℕ × Reply) = (given.next, insert_pair w.process x.1 placed) in
          shows_pair e x (told.behind o (placed_by o reply) (s, placed) o_there (places o m.0.state s m.0.placed reply o_absent steps) w (placed_by w x.1) e (watcher w w_there observer (λ crashed. watches.alive (subst (HasCrashed h) w_same crashed)))
          (places w s given.next placed x.1 others takes)) (subst (λ q. Contains (insert_pair w.process x.1 placed) (q, x.1)) w_same (put_in w.process x.1 placed put.rising others).has)
        where
          differ : (w : Open) → Contains pending w → observes w.call ≡ true → (o : Open) → Contains pending o → observes o.call ≡ false → o.process ≡ w.process → ⊥
          differ w w_there observer o o_there update same =
              let a = opened.sound w w_there in
              let b = opened.sound o o_there in
              true≢false (sym observer ∙ ap observes (open_call functions h alternates w.at o.at w.process a.0 b.0 w.call o.call a.1 (subst (λ q. IsOpen h o.at q b.0 o.call) same b.1)) ∙ update)

  module _ (wider : List (ℕ × Reply)) (overwritten : HasOverwritten step observes h m.1.until m.0.placed wider) where
    abbrev Begins : S × List (ℕ × Reply)
    Begins = (m.0.state, wider)

    -- each state on a way follows
    way_follows : (c : S × List (ℕ × Reply)) → Way step observes h Begins c → Follows c.0
    way_follows c here = inl refl
    way_follows c (more {c = d} way u) =
        follows_by (u.1.process, u.0.reply) u.0.at u.1.key u.1.call u.1.is_open u.2 d.0 c.0 u.1.steps (λ other there. u.1.added.absent other (way_kept step observes h Begins d way (u.1.process, other) (overwritten.part (u.1.process, other) there)))

    -- each pair on it is shown
    way_shows : (c : S × List (ℕ × Reply)) → Way step observes h Begins c → (x : ℕ × Reply) → Contains c.1 x → IsOnly x → ShowsPair x
    way_shows c here x there only = elim (overwritten.rest x there) [
      | inl own ↦ shows_own x only x.1 own
      | inr early ↦ let e = early.1 in shows_update x e.at e.key e.call e.is_open e.update e.from early.0 e.steps only
    ]
    way_shows c (more {c = d} way u) x there only = elim (u.1.added.was x there) [
      | inl old ↦ way_shows d way x old only
      | inr new ↦ shows_update x u.0.at u.1.key u.1.call (subst (λ (y : ℕ × Reply). IsOpen h u.0.at y.0 u.1.key u.1.call) new u.1.is_open) u.2 d.0 c.0 (subst (λ (y : ℕ × Reply). step d.0 u.1.call c.0 y.1) new u.1.steps) only
    ]

    -- and each reply that was on offer
    way_offers : (c : S × List (ℕ × Reply)) (way : Way step observes h Begins c) (x : ℕ × Reply) → IsWatching observes h x.0 → IsOnly x → IsOffered step observes h (IsOfferedWith step observes h m wider) Begins c way x → ShowsPair x
    way_offers c here x watches only offered = elim offered [
      | inl own ↦ elim (stands x.0 m.0.placed) [
        | inl some ↦ shows_own x only some.0 some.1
        | inr none ↦
            let w = open_pending h pending opened watches.at x.0 watches.key watches.call watches.is_open in
            let absent = absent_from x.0 m.0.placed none in
            shows_pair (m.0.state, insert_pair x.0 x.1 m.0.placed) x (told.taken (own.0, x) own.1 w.0 w.1 w.3 absent) (put_in x.0 x.1 m.0.placed rising absent).has
      ]
      | inr by ↦
          let u = by.0 in
          let e = by.4 in
          shows_given by.1 (follows_by u e.at e.key e.call e.is_open e.update e.from by.1 e.steps (λ other there.
          by.3 (subst (λ r. Contains m.0.placed (u.0, r)) (rising_once wider u.0 other u.1 overwritten.sorted (overwritten.part (u.0, other) there) by.2) there)))
          x watches by.5.0 only
    ]
    way_offers c (more {c = d} way u) x watches only offered = elim offered [
      | inl before ↦ way_offers d way x watches only before
      | inr given ↦ shows_given d.0 (way_follows d way) x watches given only
    ]

  -- all that a configuration shows which is covered from the member
  module _ (c : S × List (ℕ × Reply)) (members : List (Member S × Path)) (covered : IsCoveredWith step observes h members c) (same : covered.member ≡ m) where
    abbrev From : Member S × Path → Type 0
    From k = (wider : List (ℕ × Reply)) × HasOverwritten step observes h k.1.until k.0.placed wider × Meets step observes h (k.0.state, wider) (IsOfferedWith step observes h k wider) c.0 covered.placed

    from : From m
    from = subst From same (covered.wider, covered.more, covered.meets)

    pub covered_state : ShowsState c.0
    covered_state = shows_next c.0 (way_follows from.0 from.1 (c.0, from.2.placed) from.2.way)

    pub covered_pair : (x : ℕ × Reply) → Contains c.1 x → (HasCrashed h x.0 → ⊥) → ShowsPair x
    covered_pair x there live =
        let meets = from.2 in
        let unmoved : covered.exchange.to x.0 ≡ x.0 = elim (covered.exchange.moves x.0) [ inl stays ↦ stays | inr alike ↦ absurd (live alike.crashed) ] in
        let placed : Contains covered.placed x = subst (λ q. Contains covered.placed (q, x.1)) unmoved (covered.exchanged.part x there) in
        let only : IsOnly x = λ other own. rising_once covered.placed x.0 other x.1 meets.rising (meets.part (x.0, other) (way_kept step observes h (m.0.state, from.0) (c.0, meets.placed) meets.way (x.0, other) (from.1.part (x.0, other) own))) placed in
        elim (meets.each x placed) [
          | inl on_way ↦ way_shows from.0 from.1 (c.0, meets.placed) meets.way x on_way only
          | inr other ↦ elim other [
            | inl ready ↦ elim ready.1 [
              | inl offered ↦ way_offers from.0 from.1 (c.0, meets.placed) meets.way x ready.0 only offered
              | inr given ↦ shows_given c.0 (way_follows from.0 from.1 (c.0, meets.placed) meets.way) x ready.0 given only
            ]
            | inr crashed ↦ absurd (live crashed)
          ]
        ]

-- what is told of all members of a frontier is all that is possible
pub told_after : (possible : Possible) (kind : Kind) (h : List Event) → IsOverwriting (start kind) (Step kind) (observes kind) → TrailEndsLaw (start kind) (Step kind) → WellFormedIsAlternating → (functions : Item → Name → Bool) → IsWellFormed functions h
    → (pending observers : List Open) → IsPending h pending → AreWatching (observes kind) pending observers → (members : List (Member State × Path)) (nodes : List (ℕ × (Placed × Option ℕ)))
    → IsCovering (start kind) (Step kind) (observes kind) true h members nodes
    → ((m : Member State × Path) → Contains members m → IsTold (Step kind) pending observers m possible.members.items)
    → ((n : Member State × Path) → Contains possible.members.items n → IsSpelled (start kind) (Step kind) (observes kind) h possible.run.nodes n) → kind_in possible ≡ kind → IsKnown possible.run h (length h) → IsAfter possible kind h
told_after possible kind h overwriting ends alternating functions well pending observers opened watching members nodes covering told spelled same known = record {
  sound = λ m there.
      let by = spelled m there in
      (joined by.rounds, (by.rounds, by.spelled, refl), ends (observes kind) h by.states by.rounds m.0 by.trail);
  states = λ c is.
      let k = covering.complete c is in
      let s = covering.spelled k.member k.among in
      covered_state (start kind) (Step kind) (observes kind) overwriting functions h ((alternating functions h).0 well) pending observers opened watching k.member (spelled_reached (start kind) (Step kind) (observes kind) h nodes k.member s)
      (spelled_rising (start kind) (Step kind) (observes kind) h nodes k.member s) possible.members.items (told k.member k.among) c members k refl;
  replies = λ c x is placed live.
      let k = covering.complete c is in
      let s = covering.spelled k.member k.among in
      covered_pair (start kind) (Step kind) (observes kind) overwriting functions h ((alternating functions h).0 well) pending observers opened watching k.member (spelled_reached (start kind) (Step kind) (observes kind) h nodes k.member s)
      (spelled_rising (start kind) (Step kind) (observes kind) h nodes k.member s) possible.members.items (told k.member k.among) c members k refl x placed live;
  object = same;
  known = known;
}
