-- An observer put at the end of a round, and a new round.
use Rattle.std.proofs.Common.{◌≡◌, ◌≢◌, ℕ, suc, Bool, true, List, [], ◌∷◌, ◌++◌, length, length-append, Contains, ◌⊎◌, inl, inr, refl, sym, ap, subst, arith, Some, slice_get}
use Rattle.std.proofs.lemmas.List.Elements.{All-contains, Contains-append_left, Contains-append_right, Contains-append_cases}
use Rattle.lin_events.specs.declared.items.Item.{Item}
use Rattle.lin_events.specs.declared.calls.Call.{Call}
use Rattle.lin_events.specs.declared.calls.Reply.{Reply}
use Rattle.lin_events.specs.declared.events.Event.{Event}
use Rattle.lin_events.specs.Operations.{IsFailed, IsOk, IsOpen, IsOperation}
use Rattle.lin_lists.specs.lemmas.Lists.{get_left, get_cases, get_inside}
use Rattle.lin_events.specs.lemmas.OneMore.{one_caller}
use Rattle.lin_objects.specs.Observing.{IsObserving}
use Rattle.lin_order.specs.declared.placed.Placed.{Placed}
use Rattle.lin_order.specs.Orders.{IsBefore, IsCall, IsOrder, Places}
use Rattle.lin_order.specs.Configurations.{EndsIn, IsAdded, IsPlacedBy, IsPlacing}
use Rattle.lin_order.specs.ConfigurationLaws.{PlacingIsLegal}
use Rattle.lin_members.specs.Members.{IsGiven}
use Rattle.lin_members.specs.Rounds.{joined, put, begin_round, IsOfferedIn, IsTrail}
use Rattle.lin_members.specs.lemmas.Choosing.{all_from, nothing_in}
use Rattle.lin_frontier.specs.lemmas.Inserting.{first_or_rest}
use Rattle.lin_members.specs.lemmas.Joining.{insert_pairs, Around, around, joined_push, last_state, put_many, put_was, round_of, runs_by_push, runs_joined, runs_put}

-- an open operation put in the middle of an order, where nothing behind it is before it
module _ (h : List Event) (front back : List Placed) (p : Placed) (process : ℕ) (key : Item) (call : Call) (is_open : IsOpen h p.at process key call) where
  insert_cases : (y : Placed) → Contains (front ++ (p ∷ back)) y → Contains (front ++ back) y ⊎ (p ≡ y)
  insert_cases y there = elim (Contains-append_cases front (p ∷ back) y there) [
    | inl first ↦ inl (Contains-append_left front back y first)
    | inr rest ↦ elim (first_or_rest p back y rest) [
      | inl same ↦ inr same
      | inr later ↦ inl (Contains-append_right front back y later)
    ]
  ]

  insert_kept : (y : Placed) → Contains (front ++ back) y → Contains (front ++ (p ∷ back)) y
  insert_kept y there = elim (Contains-append_cases front back y there) [
    | inl first ↦ Contains-append_left front (p ∷ back) y first
    | inr later ↦ Contains-append_right front (p ∷ back) y (Contains-append_right (p ∷ []) back y later)
  ]

  insert_has : Contains (front ++ (p ∷ back)) p
  insert_has = Contains-append_right front (p ∷ back) p (0, omega arith, refl)

  pub insert_order : IsOrder h (front ++ back) → ((other : Reply) → Places (front ++ back) p.at other → ⊥) → ((y : Placed) → Contains back y → IsBefore h y.at p.at → ⊥) → IsOrder h (front ++ (p ∷ back))
  insert_order is absent late = record {
    operations = all_from (λ (y : Placed). (c : Call) × IsCall h y.at c × Unit {0}) (front ++ (p ∷ back)) (λ y there. elim (insert_cases y there) [
      | inl old ↦ All-contains (λ (z : Placed). (c : Call) × IsCall h z.at c × Unit {0}) (front ++ back) y is.operations old
      | inr new ↦ (call, subst (λ (z : Placed). IsCall h z.at call) new (process, key, is_open.begins), tt)
    ]);
    once = insert_pairs (λ x y. x.at ≢ y.at) front p back is.once
        (λ y there same. absent y.reply (subst (λ n. Places (front ++ back) n y.reply) same (Contains-append_left front back y there)))
        (λ y there same. absent y.reply (subst (λ n. Places (front ++ back) n y.reply) (sym same) (Contains-append_right front back y there)));
    none_failed = all_from (λ (y : Placed). IsFailed h y.at → ⊥) (front ++ (p ∷ back)) (λ y there failed. elim (insert_cases y there) [
      | inl old ↦ All-contains (λ (z : Placed). IsFailed h z.at → ⊥) (front ++ back) y is.none_failed old failed
      | inr new ↦ is_open.no_fail (subst (λ (z : Placed). IsFailed h z.at) (sym new) failed)
    ]);
    each_ok = λ at end reply scope ok. insert_kept (record { at = at; reply = reply }) (is.each_ok at end reply scope ok);
    real_time = insert_pairs (λ x y. IsBefore h y.at x.at → ⊥) front p back is.real_time
        (λ y there before. is_open.no_ok before.0 before.1 before.2)
        late;
  }

  pub insert_placed : (before after : List (ℕ × Reply)) → IsAdded process p.reply before after → IsPlacedBy h (front ++ back) before → IsPlacedBy h (front ++ (p ∷ back)) after
  insert_placed before after added placed = record {
    rising = added.rising;
    sound = λ q r there. elim (added.was (q, r) there) [
      | inl old ↦ let s = placed.sound q r old in (s.0, s.1, s.2, s.3, insert_kept (record { at = s.0; reply = r }) s.4)
      | inr new ↦ (
        p.at,
        key,
        call,
        subst (λ n. IsOpen h p.at n key call) (ap (λ (x : ℕ × Reply). x.0) new) is_open,
        subst (λ s. Places (front ++ (p ∷ back)) p.at s) (ap (λ (x : ℕ × Reply). x.1) new) insert_has,
      )
    ];
    complete = λ at q other c r open' there. elim (insert_cases (record { at = at; reply = r }) there) [
      | inl old ↦ added.kept (q, r) (placed.complete at q other c r open' old)
      | inr new ↦
          let same : process ≡ q = one_caller h at process q key other call c (subst (λ (z : Placed). IsOperation h z.at process key call) new is_open.begins) open'.begins in
          subst (Contains after) (λ k. (same k, ap (λ (x : Placed). x.reply) new k)) added.has
    ];
  }

module _ {S : Type 0} (start : S) (step : S → Call → S → Reply → Type 0) (observes : Call → Bool) (h : List Event) where
  pub trail_ends : (states : List S) (rounds : List (List Placed)) (c : S × List (ℕ × Reply)) → IsTrail start step h states rounds c → EndsIn start step h (joined rounds) c
  trail_ends states rounds c is = record { order_of = is.order_of; runs = runs_joined step h states rounds start c.0 is.runs; placed = is.placed }

  -- an offer stays one while its operation is open and others are put in rounds
  pub offer_put : (states : List S) (rounds : List (List Placed)) (k : ℕ) (p : Placed) (process : ℕ) (key : Item) (call : Call) → IsOpen h p.at process key call
      → (round at : ℕ) (x : ℕ × Reply) → IsOfferedIn step observes h states rounds round at x → IsOfferedIn step observes h states (put k p rounds) round at x
  offer_put states rounds k p process key call is_open round at x o = record {
    key = o.key;
    call = o.call;
    is_open = o.is_open;
    observer = o.observer;
    state = o.state;
    there = o.there;
    next = o.next;
    steps = o.steps;
    late = λ j later after is y there before.
        let w = put_was k p rounds j later is in
        elim (w.2 y there) [
          | inl old ↦ o.late j w.0 after w.1 y old before
          | inr new ↦ is_open.no_ok before.0 before.1 (subst (λ (z : Placed). IsOk h z.at before.0 before.1) (sym new) before.2)
        ];
  }

  pub trail_put : IsObserving step observes → (states : List S) (rounds : List (List Placed)) (c : S × List (ℕ × Reply)) → IsTrail start step h states rounds c
      → (round process : ℕ) (p : Placed) → IsOfferedIn step observes h states rounds round p.at (process, p.reply) → (wider : List (ℕ × Reply)) → IsAdded process p.reply c.1 wider
      → IsTrail start step h states (put round p rounds) (c.0, wider)
  trail_put observing states rounds c is round process p offer wider added = record {
    begun = let many = put_many round p rounds in let begun = is.begun in omega arith;
    order_of = subst (IsOrder h) (sym a.with') (insert_order h a.front a.back p process offer.key offer.call offer.is_open (subst (IsOrder h) a.without is.order_of)
        (λ other there. added.absent other (placed.complete p.at process offer.key offer.call other offer.is_open there))
        (λ y there before. let from = a.later y there in offer.late from.0 from.1 from.2 from.3 y from.4 before));
    runs = runs_put step h round p offer.call states rounds offer.state start c.0 offer.there (process, offer.key, offer.is_open.begins)
        (subst (λ v. step offer.state offer.call v p.reply) (sym (observing offer.state offer.next offer.call p.reply offer.observer offer.steps)) offer.steps) is.runs;
    placed = subst (λ o. IsPlacedBy h o wider) (sym a.with') (insert_placed h a.front a.back p process offer.key offer.call offer.is_open c.1 wider added placed);
  }
    where
      there : (content : List Placed) × (slice_get rounds round ≡ Some content)
      there = round_of step h states rounds start c.0 is.runs round offer.state offer.there

      a : Around round p rounds
      a = around round p rounds there.0 there.1

      placed : IsPlacedBy h (a.front ++ a.back) c.1
      placed = subst (λ o. IsPlacedBy h o c.1) a.without is.placed

  -- what the state gives is on offer from the last round
  pub trail_present : (states : List S) (rounds : List (List Placed)) (c : S × List (ℕ × Reply)) → IsTrail start step h states rounds c
      → (round : ℕ) → suc round ≡ length rounds → (x : ℕ × Reply) → (given : IsGiven step h c.0 x) → observes given.call ≡ true → IsOfferedIn step observes h states rounds round given.at x
  trail_present states rounds c is round last x given observer = record {
    key = given.key;
    call = given.call;
    is_open = given.is_open;
    observer = observer;
    state = c.0;
    there = last_state step h states rounds start c.0 is.runs round last;
    next = given.next;
    steps = given.steps;
    late = λ j later after is_round y there before. let inside = get_inside rounds j later is_round in omega (arith, last);
  }

  -- with a new round
  pub offer_longer : (states : List S) (rounds : List (List Placed)) (v : S) (p : Placed) (process : ℕ) (key : Item) (call : Call) → IsOpen h p.at process key call
      → (round at : ℕ) (x : ℕ × Reply) → IsOfferedIn step observes h states rounds round at x → IsOfferedIn step observes h (states ++ v ∷ []) (begin_round p rounds) round at x
  offer_longer states rounds v p process key call is_open round at x o = record {
    key = o.key;
    call = o.call;
    is_open = o.is_open;
    observer = o.observer;
    state = o.state;
    there = get_left states v round o.state o.there;
    next = o.next;
    steps = o.steps;
    late = λ j later after is y there before. elim (get_cases rounds (p ∷ []) j later is) [
      | inl old ↦ o.late j later after old y there before
      | inr new ↦ elim (first_or_rest p [] y (subst (λ z. Contains z y) (sym new.1) there)) [
        | inl same ↦ is_open.no_ok before.0 before.1 (subst (λ (z : Placed). IsOk h z.at before.0 before.1) (sym same) before.2)
        | inr none ↦ nothing_in y none
      ]
    ];
  }

  pub trail_place : PlacingIsLegal start step → (states : List S) (rounds : List (List Placed)) (c d : S × List (ℕ × Reply)) (p : Placed) → IsTrail start step h states rounds c → IsPlacing step h c p d
      → IsTrail start step h (states ++ d.0 ∷ []) (begin_round p rounds) d
  trail_place law states rounds c d p is placing = record {
    begun = let many = length-append rounds ((p ∷ []) ∷ []) in omega arith;
    order_of = subst (IsOrder h) (sym (joined_push rounds (p ∷ []))) ends.order_of;
    runs = runs_by_push step h states rounds (p ∷ []) start c.0 d.0 is.runs (placing.call, d.0, (placing.process, placing.key, placing.is_open.begins), placing.steps, refl);
    placed = subst (λ o. IsPlacedBy h o d.1) (sym (joined_push rounds (p ∷ []))) ends.placed;
  }
    where
      ends : EndsIn start step h (joined rounds ++ p ∷ []) d
      ends = law h (joined rounds) c d p (trail_ends states rounds c is) placing
