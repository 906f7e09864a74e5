-- Rounds with an early update ahead of the last one, which overwrites it.
use Rattle.std.proofs.Common.{◌≡◌, ◌⊎◌, ℕ, suc, ◌<◌, ◌≤◌, Bool, List, [], ◌∷◌, ◌++◌, length, length-append, append_assoc, Contains, inl, inr, refl, sym, ap, subst, ◌∙◌, arith, Some, slice_get}
use Rattle.lin_events.specs.declared.items.Item.{Item}
use Rattle.lin_events.specs.declared.calls.Call.{Call}
use Rattle.lin_events.specs.declared.calls.Name.{Name}
use Rattle.lin_events.specs.declared.calls.Reply.{Reply}
use Rattle.lin_events.specs.declared.events.Event.{Event}
use Rattle.lin_events.specs.Alternation.{IsAlternating}
use Rattle.lin_events.specs.Operations.{IsOk, IsOpen}
use Rattle.lin_events.specs.WellFormedLaws.{WellFormedIsAlternating}
use Rattle.lin_objects.specs.Overwriting.{IsOverwriting}
use Rattle.lin_objects.specs.Total.{Reaches}
use Rattle.lin_lists.specs.lemmas.Lists.{get_cases, get_inside, get_last, get_left}
use Rattle.lin_events.specs.lemmas.OneMore.{one_call}
use Rattle.lin_order.specs.declared.placed.Placed.{Placed}
use Rattle.lin_order.specs.Configurations.{IsAdded, IsPlacedBy}
use Rattle.lin_order.specs.Linearizable.{Runs}
use Rattle.lin_order.specs.Orders.{IsBefore, IsOrder}
use Rattle.lin_order.specs.lemmas.Running.{runs_push, runs_reach}
use Rattle.lin_members.specs.Members.{IsWatching}
use Rattle.lin_members.specs.Overwritten.{AllowsOverwritten, IsEarlyGiven, IsEarlyUpdate, IsOverwrittenBy}
use Rattle.lin_members.specs.OverwrittenLaws.{AheadLaw}
use Rattle.lin_members.specs.Rounds.{ahead, begin_round, joined, IsOfferedIn, IsTrail, IsTrailOf, RunsBy}
use Rattle.lin_members.specs.lemmas.Aheads.{ahead_last, runs_many, runs_over, RunsOver}
use Rattle.lin_members.specs.lemmas.Choosing.{nothing_in}
use Rattle.lin_members.specs.lemmas.Exchanging.{open_call}
use Rattle.lin_frontier.specs.lemmas.Inserting.{first_or_rest}
use Rattle.lin_members.specs.lemmas.Joining.{joined_push, last_state, runs_by_push, runs_joined}
use Rattle.lin_members.specs.lemmas.Putting.{insert_order, insert_placed}

-- an object that ran through rounds, with a step of the call ahead of the last one
pub record StepsAhead {S : Type 0} (start : S) (step : S → Call → S → Reply → Type 0) (h : List Event) (states : List S) (front : List (List Placed)) (last : List Placed) (call : Call) (reply : Reply) (next to : S) : Type 0 where
  pub heads : List S
  pub middle : S
  pub is : states ≡ heads ++ to ∷ []
  pub before : RunsBy step h start heads front middle
  pub steps : step middle call next reply
  pub over : Runs step h next last to

-- the call leads to the same state there, and the last round goes on from that as before
pub steps_ahead : {S : Type 0} (start : S) (step : S → Call → S → Reply → Type 0) (observes : Call → Bool) → IsOverwriting start step observes → (h : List Event) (until : ℕ) (rounds : List (List Placed)) (by : IsOverwrittenBy observes h until rounds)
    → (p : Placed) (process : ℕ) (next : S) (u : IsEarlyUpdate step observes h until (process, p.reply) next) → u.at ≡ p.at → (states : List S) (to : S) → RunsBy step h start states rounds to
    → StepsAhead start step h states by.front (by.first ∷ by.rest) u.call p.reply next to
steps_ahead start step observes overwriting h until rounds by p process next u same_at states to runs = record {
  heads = k.heads;
  middle = k.middle;
  is = k.is;
  before = k.before;
  steps = steps;
  over =
      let same = one_call h by.first.at k.over.2.0 by.begins.0 k.over.2.1 by.begins.1 k.over.0 by.call k.over.2.2 by.begins.2 in
      (k.over.0, k.over.1, k.over.2, (overwriting k.over.0 (ap observes same ∙ by.update) k.middle next k.over.1 by.first.reply k.over.3).0 reached, k.over.4);
}
  where
    k : RunsOver step h states by.front (by.first ∷ by.rest) start to
    k = runs_over step h states by.front (by.first ∷ by.rest) start to (subst (λ r. RunsBy step h start states r to) by.is runs)

    middle_run : Runs step h start (joined by.front) k.middle
    middle_run = runs_joined step h k.heads by.front start k.middle k.before

    steps : step k.middle u.call next p.reply
    steps = (overwriting u.call u.update u.from k.middle next p.reply u.steps).0 (runs_reach step h (joined by.front) start k.middle middle_run)

    is_open : IsOpen h p.at process u.key u.call
    is_open = subst (λ at. IsOpen h at process u.key u.call) same_at u.is_open

    -- the object comes to the state behind the call
    reached : Reaches step start next
    reached = runs_reach step h (joined by.front ++ p ∷ []) start next (runs_push step h start k.middle next (joined by.front) p u.call middle_run (process, u.key, is_open.begins) steps)

module _ {S : Type 0} (start : S) (step : S → Call → S → Reply → Type 0) (observes : Call → Bool) (functions : Item → Name → Bool) (h : List Event) (until : ℕ) (rounds : List (List Placed)) (by : IsOverwrittenBy observes h until rounds)
    (p : Placed) (process : ℕ) (key : Item) (call : Call) (is_open : IsOpen h p.at process key call) (early : p.at < until) where
  abbrev last : List Placed
  last = by.first ∷ by.rest

  -- the rounds as they are, and with the update
  abbrev old : List (List Placed)
  old = by.front ++ last ∷ []

  abbrev new : List (List Placed)
  new = begin_round p by.front ++ last ∷ []

  joined_old : joined old ≡ joined by.front ++ last
  joined_old = joined_push by.front last

  joined_new : joined new ≡ joined by.front ++ (p ∷ last)
  joined_new = joined_push (begin_round p by.front) last ∙ ap (λ l. l ++ last) (joined_push by.front (p ∷ [])) ∙ append_assoc (joined by.front) (p ∷ []) last

  -- the update is before nothing
  never : (y : Placed) → p ≡ y → (at : ℕ) → IsBefore h y.at at → ⊥
  never y same at before = is_open.no_ok before.0 before.1 (subst (λ (z : Placed). IsOk h z.at before.0 before.1) (sym same) before.2)

  -- what stands in a round is in one of those from before, or is the update
  in_new : (j : ℕ) (round : List Placed) → slice_get new j ≡ Some round → (y : Placed) → Contains round y
      → (slice_get by.front j ≡ Some round) ⊎ ((p ≡ y) ⊎ ((j ≡ suc (length by.front)) × Contains last y))
  in_new j round is y there = elim (get_cases (begin_round p by.front) last j round is) [
    | inl before ↦ elim (get_cases by.front (p ∷ []) j round before) [
      | inl older ↦ inl older
      | inr own ↦ elim (first_or_rest p [] y (subst (λ z. Contains z y) (sym own.1) there)) [
        | inl same ↦ inr (inl same)
        | inr none ↦ absurd (nothing_in y none)
      ]
    ]
    | inr end ↦ inr (inr (let many = length-append by.front ((p ∷ []) ∷ []) in omega (arith, end.0), subst (λ z. Contains z y) (sym end.1) there))
  ]

  module _ (heads : List S) (middle next to : S) (before : RunsBy step h start heads by.front middle) (steps : step middle call next p.reply) (over : Runs step h next last to) where
    runs_begun : RunsBy step h start (heads ++ next ∷ []) (begin_round p by.front) next
    runs_begun = runs_by_push step h heads by.front (p ∷ []) start middle next before (call, next, (process, key, is_open.begins), steps, refl)

    pub ahead_trail : (placed wider : List (ℕ × Reply)) → IsAdded process p.reply placed wider → IsOrder h (joined old) → IsPlacedBy h (joined old) placed → IsTrail start step h ((heads ++ next ∷ []) ++ to ∷ []) new (to, wider)
    ahead_trail placed wider added order placed_by = record {
      begun = let many = length-append (begin_round p by.front) (last ∷ []) in omega arith;
      order_of = subst (IsOrder h) (sym joined_new) (insert_order h (joined by.front) last p process key call is_open (subst (IsOrder h) joined_old order)
          (λ other there. added.absent other (is_placed.complete p.at process key call other is_open there))
          (λ y there before. by.late y there p.at early before));
      runs = runs_by_push step h (heads ++ next ∷ []) (begin_round p by.front) last start next to runs_begun over;
      placed = subst (λ o. IsPlacedBy h o wider) (sym joined_new) (insert_placed h (joined by.front) last p process key call is_open placed wider added is_placed);
    }
      where
        is_placed : IsPlacedBy h (joined by.front ++ last) placed
        is_placed = subst (λ o. IsPlacedBy h o placed) joined_old placed_by

    -- an offer that was made below the last round stays one
    pub ahead_offer : (round at : ℕ) (x : ℕ × Reply) → suc round < length old → IsOfferedIn step observes h (heads ++ to ∷ []) old round at x → IsOfferedIn step observes h ((heads ++ next ∷ []) ++ to ∷ []) new round at x
    ahead_offer round at x below o = record {
      key = o.key;
      call = o.call;
      is_open = o.is_open;
      observer = o.observer;
      state = o.state;
      there = elim (get_cases heads to round o.state o.there) [
        | inl older ↦ get_left (heads ++ next ∷ []) to round o.state (get_left heads next round o.state older)
        | inr end ↦ let many = runs_many step h heads by.front start middle before in absurd (omega (arith, inside, end.0))
      ];
      next = o.next;
      steps = o.steps;
      late = λ j later after is y there earlier. elim (in_new j later is y there) [
        | inl older ↦ o.late j later after (get_left by.front last j later older) y there earlier
        | inr rest ↦ elim rest [
          | inl same ↦ never y same at earlier
          | inr end ↦ o.late (length by.front) last inside (get_last by.front last) y end.1 earlier
        ]
      ];
    }
      where
        inside : round < length by.front
        inside = let many = length-append by.front (last ∷ []) in omega arith

    -- what the update leads to is on offer from its round
    pub ahead_given : IsAlternating functions h → (round : ℕ) (x : ℕ × Reply) → suc round ≡ length old → IsWatching observes h x.0 → (given : IsEarlyGiven step h until next x)
        → IsOfferedIn step observes h ((heads ++ next ∷ []) ++ to ∷ []) new round given.0.at x
    ahead_given alternates round x end watching given = record {
      key = given.0.key;
      call = given.0.call;
      is_open = given.0.is_open;
      observer = ap observes (open_call functions h alternates given.0.at watching.at x.0 given.0.key watching.key given.0.call watching.call given.0.is_open watching.is_open) ∙ watching.observer;
      state = next;
      there = get_left (heads ++ next ∷ []) to round next (last_state step h (heads ++ next ∷ []) (begin_round p by.front) start next runs_begun round
          (end ∙ length-append by.front (last ∷ []) ∙ sym (length-append by.front ((p ∷ []) ∷ []))));
      next = given.0.next;
      steps = given.0.steps;
      late = λ j later after is y there earlier. elim (in_new j later is y there) [
        | inl older ↦ let below = get_inside by.front j later older in let many = length-append by.front (last ∷ []) in absurd (omega (arith, end))
        | inr rest ↦ elim rest [
          | inl same ↦ never y same given.0.at earlier
          | inr behind ↦ by.late y behind.1 given.0.at given.1 earlier
        ]
      ];
    }

  -- the last round is the same
  pub ahead_overwritten : IsOverwrittenBy observes h until new
  ahead_overwritten = record {
    front = begin_round p by.front;
    first = by.first;
    rest = by.rest;
    is = refl;
    behind = let many = length-append by.front ((p ∷ []) ∷ []) in omega arith;
    call = by.call;
    begins = by.begins;
    update = by.update;
    late = by.late;
  }

pub ahead_law : {S : Type 0} (start : S) (step : S → Call → S → Reply → Type 0) → WellFormedIsAlternating → AheadLaw start step
ahead_law {S} start step alternating observes overwriting functions h well_formed states rounds m n is allows p process next u same_at same_state added same_until from =
    subst (λ r. ((shown : List S) × IsTrailOf start step observes h shown r n.0) × AllowsOverwritten observes h n r) (sym (ap (ahead p) by.is ∙ ahead_last p by.front (by.first ∷ by.rest)))
    (((k.heads ++ next ∷ []) ++ n.0.state ∷ [], trail), allowed)
  where
    by : IsOverwrittenBy observes h m.1.until rounds
    by = let early = u.early in allows.by (omega arith)

    is_open : IsOpen h p.at process u.key u.call
    is_open = subst (λ at. IsOpen h at process u.key u.call) same_at u.is_open

    early : p.at < m.1.until
    early = subst (λ at. at < m.1.until) same_at u.early

    k : StepsAhead start step h states by.front (by.first ∷ by.rest) u.call p.reply next n.0.state
    k = steps_ahead start step observes overwriting h m.1.until rounds by p process next u same_at states n.0.state (subst (RunsBy step h start states rounds) same_state is.trail.runs)

    many : length rounds ≡ length (by.front ++ (by.first ∷ by.rest) ∷ [])
    many = ap length by.is

    trail : IsTrailOf start step observes h ((k.heads ++ next ∷ []) ++ n.0.state ∷ []) (begin_round p by.front ++ (by.first ∷ by.rest) ∷ []) n.0
    trail = record {
      trail = ahead_trail start step observes functions h m.1.until rounds by p process u.key u.call is_open early k.heads k.middle next n.0.state k.before k.steps k.over m.0.placed n.0.placed added
          (subst (λ r. IsOrder h (joined r)) by.is is.trail.order_of) (subst (λ r. IsPlacedBy h (joined r) m.0.placed) by.is is.trail.placed);
      offered = λ round x there. elim (from round x there) [
        | inl before ↦
            let o = is.offered round x before in (
              o.0,
              ahead_offer start step observes functions h m.1.until rounds by p process u.key u.call is_open early k.heads k.middle next n.0.state k.before k.steps k.over round o.0 x
                  (subst (λ l. suc round < l) many (allows.earlier (omega (arith, u.early)) round x before))
                  (subst (λ (s : List S). IsOfferedIn step observes h s (by.front ++ (by.first ∷ by.rest) ∷ []) round o.0 x) k.is (subst (λ r. IsOfferedIn step observes h states r round o.0 x) by.is o.1)),
            )
        | inr now ↦ (
          now.2.0.at,
          ahead_given start step observes functions h m.1.until rounds by p process u.key u.call is_open early k.heads k.middle next n.0.state k.before k.steps k.over ((alternating functions h).0 well_formed) round x (now.0 ∙ many) now.1 now.2,
        )
      ];
    }

    allowed : AllowsOverwritten observes h n (begin_round p by.front ++ (by.first ∷ by.rest) ∷ [])
    allowed = record {
      within = subst (λ i. i ≤ length h) same_until allows.within;
      by = λ some. subst (λ i. IsOverwrittenBy observes h i (begin_round p by.front ++ (by.first ∷ by.rest) ∷ [])) same_until
          (ahead_overwritten start step observes functions h m.1.until rounds by p process u.key u.call is_open early);
      earlier = λ some round x there.
          let old = length-append by.front ((by.first ∷ by.rest) ∷ []) in
          let new = length-append (begin_round p by.front) ((by.first ∷ by.rest) ∷ []) in
          let begun = length-append by.front ((p ∷ []) ∷ []) in
          elim (from round x there) [
            | inl before ↦ let below = allows.earlier (omega (arith, u.early)) round x before in omega (arith, many)
            | inr now ↦ omega (arith, many, now.0)
          ];
    }
