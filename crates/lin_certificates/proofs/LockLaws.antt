-- Locks have no legal order of operations that a certificate holds of.
use Rattle.std.proofs.Common.{if◌then◌else◌, nat_eq, ◌≡◌, ◌⊎◌, ◌<◌, ◌≤◌, ◌+◌, ℕ, zero, suc, Bool, true, false, List, [], ◌∷◌, AllPairs, Contains, length, inl, inr, refl, sym, ap, subst, ◌∙◌, arith}
use Rattle.std.proofs.lemmas.Bool.Decides.{Decides-eqb}
use Rattle.lin_events.specs.declared.calls.Call.{Call}
use Rattle.lin_events.specs.declared.calls.Call.TheVariants.{Acquire, Release}
use Rattle.lin_events.specs.declared.calls.Reply.{Reply}
use Rattle.lin_events.specs.declared.events.Event.{Event}
use Rattle.lin_objects.specs.declared.kinds.Kind.TheVariants.{Mutex}
use Rattle.lin_objects.specs.declared.states.State.{State}
use Rattle.lin_objects.specs.declared.states.State.TheVariants.{Held}
use Rattle.lin_objects.specs.Steps.{Step, start}
use Rattle.lin_order.specs.declared.placed.Placed.{Placed}
use Rattle.lin_order.specs.Linearizable.{IsLegalOrderAs, Runs}
use Rattle.lin_order.specs.Orders.{IsCall}
use Rattle.lin_order.specs.lemmas.OneEnd.{one_call}
use Rattle.lin_certificates.specs.lemmas.Counting.{Chosen, chosen_empty, chosen_least, chosen_most, chosen_one, chosen_other, pairs_rest}
use Rattle.lin_certificates.specs.Words.{IsOfCalls, Returned}
use Rattle.lin_certificates.specs.declared.words.Calls.{Calls}
use Rattle.lin_certificates.specs.declared.words.Calls.TheVariants.{Acquires, Releases}
use Rattle.lin_certificates.specs.Certificates.{CanCall, CanWithin, DidCall, DidWithin, IsCounted, IsMoreWithin, IsTwice, IsTwiceIn, IsWithin, spare_release}
use Rattle.lin_certificates.specs.lemmas.Standing.{At, not_failed, ok_there, place_of, stands_ahead}
use Rattle.lin_certificates.proofs.Cutting.{Segment, segment}
use Rattle.lin_certificates.proofs.Numbers.{at_least, at_most}

-- the lock is held or free, and a step turns that round
abbrev IsTurn : State → Call → State → Type 0
IsTurn s call next = ((s ≡ Held false) × (call ≡ Acquire) × (next ≡ Held true)) ⊎ ((s ≡ Held true) × (call ≡ Release) × (next ≡ Held false))

turn : (s next : State) (call : Call) (reply : Reply) → Step Mutex s call next reply → IsTurn s call next
turn (Held false) next Acquire reply step = inl (refl, refl, step.0)
turn (Held true) next Release reply step = inr (refl, refl, step.0)
turn (Held false) next call reply step = absurd step
turn (Held true) next call reply step = absurd step
turn s next call reply step = absurd step

-- the other of the two calls
abbrev other_call : Bool → Call
other_call true = Release
other_call false = Acquire

abbrev this_call : Bool → Call
this_call true = Acquire
this_call false = Release

-- and what certificates name them by
abbrev other_sort : Bool → Calls
other_sort true = Releases
other_sort false = Acquires

abbrev this_sort : Bool → Calls
this_sort true = Acquires
this_sort false = Releases

of_this : (held : Bool) (call : Call) → IsOfCalls (this_sort held) call → call ≡ this_call held
of_this true call is = is
of_this false call is = is

is_other : (held : Bool) → IsOfCalls (other_sort held) (other_call held)
is_other true = refl
is_other false = refl

-- of a lock that is held the next call is a release, and of one that is free an acquire
next_call : (held : Bool) (next : State) (call : Call) (reply : Reply) → Step Mutex (Held held) call next reply → call ≡ other_call held
next_call held next call reply step = by held (turn (Held held) next call reply step)
  where
    by : (b : Bool) → IsTurn (Held b) call next → call ≡ other_call b
    by true made = elim made [
      | inl wrong ↦ absurd (let e = wrong.0 in apart e)
      | inr right ↦ right.1
    ]
      where
        apart : Held true ≡ Held false → ⊥
        apart e = cc
    by false made = elim made [
      | inl right ↦ right.1
      | inr wrong ↦ absurd (let e = wrong.0 in apart e)
    ]
      where
        apart : Held false ≡ Held true → ⊥
        apart e = cc

-- behind a call the lock is as the call left it
left_held : (held : Bool) (s next : State) (call : Call) (reply : Reply) → Step Mutex s call next reply → call ≡ this_call held → next ≡ Held held
left_held held s next call reply step is = by held (turn s next call reply step) is
  where
    by : (b : Bool) → IsTurn s call next → call ≡ this_call b → next ≡ Held b
    by true made acquires = elim made [
      | inl right ↦ right.2
      | inr wrong ↦ absurd (let e = sym wrong.1 ∙ acquires in apart e)
    ]
      where
        apart : Release ≡ Acquire → ⊥
        apart e = cc
    by false made releases = elim made [
      | inl wrong ↦ absurd (let e = sym wrong.1 ∙ releases in apart e)
      | inr right ↦ right.2
    ]
      where
        apart : Acquire ≡ Release → ⊥
        apart e = cc

calls_differ : (held : Bool) → this_call held ≡ other_call held → ⊥
calls_differ true e = let same : Acquire ≡ Release = e in cc
calls_differ false e = let same : Release ≡ Acquire = e in cc

module _ (h : List Event) where
  -- the other call stands at the place
  abbrev CallsAt : List Placed → Call → ℕ → Type 0
  CallsAt order call k = (q : Placed) × At order k q × IsCall h q.at call

  -- ahead of a call that the lock can't take as it is the other call stands
  first_other : (held : Bool) (t : State) (order : List Placed) (j : ℕ) (p : Placed) → Runs (Step Mutex) h (Held held) order t → At order j p → IsCall h p.at (this_call held)
      → (k : ℕ) × (k < j) × CallsAt order (other_call held) k
  first_other held t [] j p run there is = absurd there
  first_other held t (x ∷ order) zero p run there is =
      let at_x : IsCall h x.at (this_call held) = subst (λ (y : Placed). IsCall h y.at (this_call held)) (sym there) is in
      absurd (calls_differ held (one_call h x.at (this_call held) run.0 at_x run.2 ∙ next_call held run.1 run.0 x.reply run.3))
  first_other held t (x ∷ order) (suc j) p run there is =
      (0, omega arith, (x, refl, subst (IsCall h x.at) (next_call held run.1 run.0 x.reply run.3) run.2))

  -- between two of the same call the other stands
  between : (held : Bool) (s t : State) (order : List Placed) (i j : ℕ) (p q : Placed) → Runs (Step Mutex) h s order t → At order i p → At order j q → i < j
      → IsCall h p.at (this_call held) → IsCall h q.at (this_call held) → (k : ℕ) × (i < k) × (k < j) × CallsAt order (other_call held) k
  between held s t [] i j p q run at_p at_q less is_p is_q = absurd at_p
  between held s t (x ∷ order) i zero p q run at_p at_q less is_p is_q = absurd (omega (arith, less))
  between held s t (x ∷ order) zero (suc j) p q run at_p at_q less is_p is_q =
      let at_x : IsCall h x.at (this_call held) = subst (λ (y : Placed). IsCall h y.at (this_call held)) (sym at_p) is_p in
      let state = left_held held s run.1 run.0 x.reply run.3 (one_call h x.at run.0 (this_call held) run.2 at_x) in
      let found = first_other held t order j q (subst (λ u. Runs (Step Mutex) h u order t) state run.4) at_q is_q in
      (suc found.0, omega arith, omega (arith, found.1), found.2)
  between held s t (x ∷ order) (suc i) (suc j) p q run at_p at_q less is_p is_q =
      let found = between held run.1 t order i j p q run.4 at_p at_q (omega (arith, less)) is_p is_q in
      (suc found.0, omega (arith, found.1), omega (arith, found.2), found.3)

  -- the operation makes this call
  abbrev Makes : Call → Placed → Type 0
  Makes call p = IsCall h p.at call

  one_if : Bool → ℕ
  one_if true = 1
  one_if false = 0

  abbrev held_as : State → ℕ
  held_as (Held true) = 1
  held_as s = 0

  at_most_one : (u : State) → held_as u ≤ 1
  at_most_one (Held true) = omega arith
  at_most_one (Held false) = omega arith
  at_most_one u = omega arith

  -- the lock was acquired as often as it was released, and once more where it is held
  counted : (s t : State) (order : List Placed) → AllPairs (λ x y. x.at ≡ y.at → ⊥) order → Runs (Step Mutex) h s order t
      → (ups : List ℕ) × (downs : List ℕ) × Chosen (Makes Acquire) order ups × Chosen (Makes Release) order downs × (held_as s + length ups ≡ held_as t + length downs) × (held_as t ≤ 1)
  counted s t [] once run = ([], [], chosen_empty (Makes Acquire), chosen_empty (Makes Release), ap (λ u. held_as u + 0) run, at_most_one t)
  counted s t (q ∷ order) once run =
      let rest = counted run.1 t order (pairs_rest (λ x y. x.at ≡ y.at → ⊥) q order once) run.4 in
      let sum = rest.4 in
      elim (turn s run.1 run.0 q.reply run.3) [
        | inl up ↦
            let was : held_as s ≡ 0 = ap held_as up.0 in
            let now : held_as run.1 ≡ 1 = ap held_as up.2 in (
              q.at ∷ rest.0,
              rest.1,
              chosen_one (Makes Acquire) q order rest.0 rest.2 once (subst (IsCall h q.at) up.1 run.2),
              chosen_other (Makes Release) q order rest.1 rest.3 (λ is. let e = sym up.1 ∙ one_call h q.at run.0 Release run.2 is in apart e),
              omega (arith, was, now, sum),
              rest.5,
            )
        | inr down ↦
            let was : held_as s ≡ 1 = ap held_as down.0 in
            let now : held_as run.1 ≡ 0 = ap held_as down.2 in (
              rest.0,
              q.at ∷ rest.1,
              chosen_other (Makes Acquire) q order rest.0 rest.2 (λ is. let e = one_call h q.at Acquire run.0 is run.2 ∙ down.1 in apart e),
              chosen_one (Makes Release) q order rest.1 rest.3 once (subst (IsCall h q.at) down.1 run.2),
              omega (arith, was, now, sum),
              rest.5,
            )
      ]
    where
      apart : Acquire ≡ Release → ⊥
      apart e = cc

  module _ (order : List Placed) (legal : IsLegalOrderAs Mutex h order) where
    twice_by : (held : Bool) (first second : ℕ) → IsTwiceIn h (this_sort held) (other_sort held) first second → ⊥
    twice_by held first second is =
        let p : Placed = record { at = first; reply = is.one.2 } in
        let q : Placed = record { at = second; reply = is.two.2 } in
        let i = ok_there Mutex h order legal first is.one.1 is.one.2 is.one.4 in
        let j = ok_there Mutex h order legal second is.two.1 is.two.2 is.two.4 in
        let less = stands_ahead Mutex h order legal i.0 j.0 p q i.1 j.1 is.in_time in
        let k = between held (start Mutex) legal.legal.0 order i.0 j.0 p q legal.legal.1 i.1 j.1 less (subst (IsCall h first) (of_this held is.one.0 is.one.5) is.one.3) (subst (IsCall h second) (of_this held is.two.0 is.two.5) is.two.3) in
        let r = k.3.0 in
        let ahead = stands_ahead Mutex h order legal k.0 i.0 r p k.3.1 i.1 (is.none_between r.at (other_call held, k.3.2, not_failed Mutex h order legal k.0 r k.3.1, is_other held)) in
        let behind = k.1 in
        omega (arith, ahead, behind)

    pub twice : (first second : ℕ) → IsTwice h first second → ⊥
    twice first second is = elim is [
      | inl acquired ↦ twice_by true first second acquired
      | inr released ↦ twice_by false first second released
    ]

    can : (sort : Calls) (call : Call) → IsOfCalls sort call → (p : Placed) → Contains order p → Makes call p → CanCall h sort p.at
    can sort call of_it p there makes = let place = place_of order p there in (call, makes, not_failed Mutex h order legal place.0 p place.1, of_it)

    did : (call : Call) (at : ℕ) → Returned h (λ it reply. it ≡ call) at → (p : Placed) × Contains order p × Makes call p × (p.at ≡ at)
    did call at is = (record { at = at; reply = is.2 }, legal.order_of.each_ok at is.1 is.2 tt is.4, subst (IsCall h at) is.5 is.3, refl)

    pub unbalanced : IsCounted h → ⊥
    unbalanced is =
        let all = counted (start Mutex) legal.legal.0 order legal.order_of.once legal.legal.1 in
        let sum : 0 + length all.0 ≡ held_as legal.legal.0 + length all.1 = all.4 in
        let small = all.5 in
        let few_up = chosen_most (Makes Acquire) order all.0 all.2 (CanCall h Acquires) (can Acquires Acquire refl) is.can_acquire (at_most (CanCall h Acquires) is.can_acquire is.all_can_acquire) in
        let few_down = chosen_most (Makes Release) order all.1 all.3 (CanCall h Releases) (can Releases Release refl) is.can_release (at_most (CanCall h Releases) is.can_release is.all_can_release) in
        let many_up = chosen_least (Makes Acquire) order all.0 all.2 (DidCall h Acquires) (did Acquire) is.acquired (at_least (DidCall h Acquires) is.acquired is.all_acquired) in
        let many_down = chosen_least (Makes Release) order all.1 all.3 (DidCall h Releases) (did Release) is.released (at_least (DidCall h Releases) is.released is.all_released) in
        elim is.more [
          | inl less ↦ omega (arith, sum, few_up, many_down, less)
          | inr less ↦ omega (arith, sum, small, few_down, many_up, less)
        ]

    -- between the two places the lock was acquired and released in turn
    module _ (from to : ℕ) where
      can_within : (sort : Calls) (call : Call) → IsOfCalls sort call → (g : Segment h Mutex order legal from to) (p : Placed) → Contains g.part p → Makes call p → CanWithin h sort from to p.at
      can_within sort call of_it g p there makes = (can sort call of_it p (g.in_order p there) makes, (g.can p there).0, (g.can p there).1)

      did_within : (sort : Calls) (call : Call) → ((it : Call) → IsOfCalls sort it → it ≡ call) → (g : Segment h Mutex order legal from to) (at : ℕ) → DidWithin h sort from to at
          → (p : Placed) × Contains g.part p × Makes call p × (p.at ≡ at)
      did_within sort call one g at did =
          (record { at = at; reply = did.0.2 }, g.did at did.0.1 did.0.2 did.0.4 did.1 did.2, subst (IsCall h at) (one did.0.0 did.0.5) did.0.3, refl)

      acquired_oftener : IsMoreWithin h Acquires Releases from to 1 → ⊥
      acquired_oftener is = segment h Mutex order legal from to by
        where
          by : Segment h Mutex order legal from to → ⊥
          by g =
              let all = counted g.before g.after g.part g.once g.run in
              let sum = all.4 in
              let small = all.5 in
              let few = chosen_most (Makes Release) g.part all.1 all.3 (CanWithin h Releases from to) (can_within Releases Release refl g) is.can (at_most (CanWithin h Releases from to) is.can is.all_can) in
              let many = chosen_least (Makes Acquire) g.part all.0 all.2 (DidWithin h Acquires from to) (did_within Acquires Acquire (λ it same. same) g) is.did (at_least (DidWithin h Acquires from to) is.did is.all_did) in
              let more = is.more in
              omega (arith, sum, small, few, many, more)

      -- where the first place is the beginning, the lock is free there
      free_first : (s : State) → (from ≡ 0 → s ≡ Held false) → held_as s ≤ spare_release from
      free_first s free = by (nat_eq from 0) refl
        where
          by : (b : Bool) → nat_eq from 0 ≡ b → held_as s ≤ (if b then 0 else 1)
          by true first = let is : held_as s ≡ 0 = ap held_as (free ((Decides-eqb from 0).0 first)) in omega (arith, is)
          by false later = at_most_one s

      released_oftener : IsMoreWithin h Releases Acquires from to (spare_release from) → ⊥
      released_oftener is = segment h Mutex order legal from to by
        where
          by : Segment h Mutex order legal from to → ⊥
          by g =
              let all = counted g.before g.after g.part g.once g.run in
              let sum = all.4 in
              let small = free_first g.before g.begins in
              let few = chosen_most (Makes Acquire) g.part all.0 all.2 (CanWithin h Acquires from to) (can_within Acquires Acquire refl g) is.can (at_most (CanWithin h Acquires from to) is.can is.all_can) in
              let many = chosen_least (Makes Release) g.part all.1 all.3 (DidWithin h Releases from to) (did_within Releases Release (λ it same. same) g) is.did (at_least (DidWithin h Releases from to) is.did is.all_did) in
              let more = is.more in
              omega (arith, sum, small, few, many, more)

    pub within : (calls : Calls) (from to : ℕ) → IsWithin h calls from to → ⊥
    within Acquires from to is = acquired_oftener from to is
    within Releases from to is = released_oftener from to is
    within calls from to is = absurd is
