-- What goes first of all that is open beside it can be placed first on each way.
use Rattle.std.proofs.Common.{◌≡◌, ◌≢◌, ◌⊎◌, ◌≤◌, ℕ, suc, Bool, true, false, nat_eq, List, [], ◌∷◌, ◌++◌, AllPairs, Contains, IsPermutation, count_by, get_or, inl, inr, refl, sym, ap, subst, ◌∙◌, arith}
use Rattle.std.proofs.lemmas.Bool.Decides.{Decides-eqb as Decides-nat_eq}
use Rattle.std.proofs.lemmas.List.Elements.{Contains-append_left, Contains-get_or, Contains-push, Contains-push_cases}
use Rattle.std.proofs.lemmas.List.Quantifiers.{all_pairs_push}
use Rattle.std.proofs.lemmas.List.Sorted.{Contains-permutation, IsPermutation-sym, sum_by-IsPermutation}
use Rattle.lin_events.specs.declared.items.Item.{Item}
use Rattle.lin_lists.specs.lemmas.Elements.{first_or_rest}
use Rattle.lin_events.specs.declared.calls.Call.{Call}
use Rattle.lin_events.specs.declared.calls.Reply.{Reply}
use Rattle.lin_events.specs.declared.events.Event.{Event}
use Rattle.lin_events.specs.Operations.{IsOpen}
use Rattle.lin_objects.specs.Ahead.{IsFirst, Takes}
use Rattle.lin_objects.specs.GoingFirst.{takes_last}
use Rattle.lin_objects.specs.lemmas.Counted.{count_no, count_yes, nothing_counted, some_counted}
use Rattle.lin_order.specs.Configurations.{IsRising}
use Rattle.lin_members.specs.Covers.{HasCrashed}
use Rattle.lin_members.specs.MemberLaws.{IsAheadOfOpen}
use Rattle.lin_members.specs.Members.{Member, IsOnOffer, LeadsToMember, DominatesAt, Way, here, more}
use Rattle.lin_members.specs.lemmas.Choosing.{can_add, head_pairs, tail_pairs}
use Rattle.lin_members.specs.lemmas.Following.{Follows, follow}
use Rattle.lin_members.specs.lemmas.Ways.{way_kept}

-- no process has two of the calls
abbrev Once : List (ℕ × Call × Reply) → Type 0
Once xs = (q : ℕ) → count_by (λ x. nat_eq x.0 q) xs ≤ 1

other_process : (p q : ℕ) → p ≢ q → nat_eq p q ≡ false
other_process p q differ = by (nat_eq p q) refl
  where
    by : (b : Bool) → nat_eq p q ≡ b → nat_eq p q ≡ false
    by true e = absurd (differ ((Decides-nat_eq p q).0 e))
    by false e = e

same_process : (p : ℕ) → nat_eq p p ≡ true
same_process p = (Decides-nat_eq p p).1 refl

once_pairs : (xs : List (ℕ × Call × Reply)) → AllPairs (λ x y. x.0 ≢ y.0) xs → Once xs
once_pairs [] apart q = omega arith
once_pairs (x ∷ xs) apart q = by (nat_eq x.0 q) refl (once_pairs xs (tail_pairs (λ (a : ℕ × Call × Reply) (b : ℕ × Call × Reply). a.0 ≢ b.0) x xs apart) q)
  where
    by : (b : Bool) → nat_eq x.0 q ≡ b → count_by (λ (y : ℕ × Call × Reply). nat_eq y.0 q) xs ≤ 1 → count_by (λ (y : ℕ × Call × Reply). nat_eq y.0 q) (x ∷ xs) ≤ 1
    by true e rest =
        let is = (Decides-nat_eq x.0 q).0 e in
        let none = nothing_counted (λ (y : ℕ × Call × Reply). nat_eq y.0 q) xs
        (λ y there. other_process y.0 q (λ same. head_pairs (λ (a : ℕ × Call × Reply) (b : ℕ × Call × Reply). a.0 ≢ b.0) x xs y apart there (is ∙ sym same))) in
        let more_by = count_yes (λ (y : ℕ × Call × Reply). nat_eq y.0 q) x xs e in
        omega (arith, none, more_by)
    by false e rest = let same = count_no (λ (y : ℕ × Call × Reply). nat_eq y.0 q) x xs e in omega (arith, rest, same)

once_rest : (x : ℕ × Call × Reply) (xs : List (ℕ × Call × Reply)) → Once (x ∷ xs) → Once xs
once_rest x xs once q = by (nat_eq x.0 q) refl
  where
    by : (b : Bool) → nat_eq x.0 q ≡ b → count_by (λ (y : ℕ × Call × Reply). nat_eq y.0 q) xs ≤ 1
    by true e = let more_by = count_yes (λ (y : ℕ × Call × Reply). nat_eq y.0 q) x xs e in let all = once q in omega (arith, more_by, all)
    by false e = let same = count_no (λ (y : ℕ × Call × Reply). nat_eq y.0 q) x xs e in let all = once q in omega (arith, same, all)

once_first : (x : ℕ × Call × Reply) (xs : List (ℕ × Call × Reply)) → Once (x ∷ xs) → (y : ℕ × Call × Reply) → Contains xs y → x.0 ≢ y.0
once_first x xs once y there same =
    let all = once x.0 in
    let more_by = count_yes (λ (z : ℕ × Call × Reply). nat_eq z.0 x.0) x xs (same_process x.0) in
    let one = some_counted (λ (z : ℕ × Call × Reply). nat_eq z.0 x.0) xs y there ((Decides-nat_eq y.0 x.0).1 (sym same)) in
    absurd (omega (arith, all, more_by, one))

once_again : (xs ys : List (ℕ × Call × Reply)) → IsPermutation xs ys → Once xs → Once ys
once_again xs ys again once q = subst (λ n. n ≤ 1) (sym (sum_by-IsPermutation _ xs ys again)) (once q)

module _ {S : Type 0} (step : S → Call → S → Reply → Type 0) (observes : Call → Bool) where
  -- the call can be placed behind these: its process has none of them, and it is open and no observer
  abbrev CanPlace : List Event → List (ℕ × Reply) → ℕ × Call × Reply → Type 0
  CanPlace h placed x = ((other : Reply) → Contains placed (x.0, other) → ⊥) × (at : ℕ) × (key : Item) × IsOpen h at x.0 key x.1 × (observes x.1 ≡ false)

  module _ (h : List Event) where
    -- the calls of a way, first to last
    calls_of : (b c : S × List (ℕ × Reply)) → Way step observes h b c → List (ℕ × Call × Reply)
    calls_of b c here = []
    calls_of b c (more {c = d} way u) = calls_of b d way ++ (u.1.process, u.1.call, u.0.reply) ∷ []

    way_takes : (b c : S × List (ℕ × Reply)) (way : Way step observes h b c) → Takes step b.0 (calls_of b c way) c.0
    unfolding calls_of
    way_takes b c here = refl
    way_takes b c (more {c = d} way u) = takes_last step (calls_of b d way) b.0 d.0 c.0 (u.1.process, u.1.call, u.0.reply) (way_takes b d way) u.1.steps

    way_calls : (b c : S × List (ℕ × Reply)) (way : Way step observes h b c) (x : ℕ × Call × Reply) → Contains (calls_of b c way) x → Contains c.1 (x.0, x.2) × CanPlace h b.1 x
    unfolding calls_of
    way_calls b c here x there = absurd (let inside = there.1 in omega arith)
    way_calls b c (more {c = d} way u) x there = elim (Contains-push_cases (calls_of b d way) (u.1.process, u.1.call, u.0.reply) x there) [
      | inl earlier ↦ let old = way_calls b d way x earlier in (u.1.added.kept (x.0, x.2) old.0, old.1)
      | inr same ↦ subst (λ (y : ℕ × Call × Reply). Contains c.1 (y.0, y.2) × CanPlace h b.1 y) same (
        u.1.added.has,
        (λ other is. u.1.added.absent other (way_kept step observes h b d way (u.1.process, other) is), u.0.at, u.1.key, u.1.is_open, u.2),
      )
    ]

    way_apart : (b c : S × List (ℕ × Reply)) (way : Way step observes h b c) → AllPairs (λ x y. x.0 ≢ y.0) (calls_of b c way)
    unfolding calls_of
    way_apart b c here = λ i j d below within. absurd (omega arith)
    way_apart b c (more {c = d} way u) =
        all_pairs_push (λ (x : ℕ × Call × Reply) (y : ℕ × Call × Reply). x.0 ≢ y.0) (calls_of b d way) (u.1.process, u.1.call, u.0.reply) (way_apart b d way)
        (λ k e inside same. let x = get_or (calls_of b d way) k e in
        u.1.added.absent x.2 (subst (λ q. Contains d.1 (q, x.2)) same (way_calls b d way x (Contains-get_or (calls_of b d way) k e inside)).0))

    way_rest : (b c : S × List (ℕ × Reply)) (way : Way step observes h b c) (y : ℕ × Reply) → Contains c.1 y → Contains b.1 y ⊎ ((x : ℕ × Call × Reply) × Contains (calls_of b c way) x × ((x.0, x.2) ≡ y))
    unfolding calls_of
    way_rest b c here y there = inl there
    way_rest b c (more {c = d} way u) y there = elim (u.1.added.was y there) [
      | inl old ↦ elim (way_rest b d way y old) [
        | inl first ↦ inl first
        | inr some ↦ inr (some.0, Contains-append_left (calls_of b d way) _ some.0 some.1, some.2)
      ]
      | inr new ↦ inr ((u.1.process, u.1.call, u.0.reply), Contains-push (calls_of b d way) _, new)
    ]

  -- a way that places just these, one after the other
  pub record Placed' (g : List Event) (b c : S × List (ℕ × Reply)) (calls : List (ℕ × Call × Reply)) (last : S) : Type 0 where
    pub placed : List (ℕ × Reply)
    pub way : Way step observes g b (last, placed)
    pub was : (y : ℕ × Reply) → Contains placed y → Contains c.1 y ⊎ ((x : ℕ × Call × Reply) × Contains calls x × ((x.0, x.2) ≡ y))
    pub kept : (y : ℕ × Reply) → Contains c.1 y → Contains placed y
    pub has : (x : ℕ × Call × Reply) → Contains calls x → Contains placed (x.0, x.2)
    pub rising : IsRising placed

  place_all : (g : List Event) (b c : S × List (ℕ × Reply)) (calls : List (ℕ × Call × Reply)) (last : S) → Way step observes g b c → IsRising c.1 → Takes step c.0 calls last → Once calls
      → ((x : ℕ × Call × Reply) → Contains calls x → CanPlace g c.1 x) → Placed' g b c calls last
  place_all g b c [] last way rising takes once can = record {
    placed = c.1;
    way = subst (λ s. Way step observes g b (s, c.1)) takes way;
    was = λ y there. inl there;
    kept = λ y there. there;
    has = λ x there. absurd (let inside = there.1 in omega arith);
    rising = rising;
  }
  place_all g b c (x ∷ calls) last way rising takes once can =
      let own = can x (0, omega arith, refl) in
      let wider = can_add x.0 x.2 c.1 rising own.0 in
      let next = place_all g b (takes.0, wider.0) calls last
      (more way (record { at = own.1; reply = x.2 }, record { process = x.0; key = own.2; call = x.1; is_open = own.3; steps = takes.1; added = wider.1 }, own.4))
      wider.1.rising takes.2 (once_rest x calls once)
      (λ y there. let k = can y (suc there.0, omega (arith, there.1), there.2) in (
        λ other is. elim (wider.1.was (y.0, other) is) [
          | inl old ↦ k.0 other old
          | inr new ↦ once_first x calls once y there (ap (λ (z : ℕ × Reply). z.0) new)
        ],
        k.1,
        k.2,
        k.3,
        k.4,
      )) in
      record {
        placed = next.placed;
        way = next.way;
        was = λ y there. elim (next.was y there) [
          | inl before ↦ elim (wider.1.was y before) [
            | inl old ↦ inl old
            | inr new ↦ inr (x, (0, omega arith, refl), new)
          ]
          | inr some ↦ inr (some.0, (suc some.1.0, omega (arith, some.1.1), some.1.2), some.2)
        ];
        kept = λ y there. next.kept y (wider.1.kept y there);
        has = λ y there. elim (first_or_rest x calls y there) [
          | inl same ↦ subst (λ (z : ℕ × Call × Reply). Contains next.placed (z.0, z.2)) same (next.kept (x.0, x.2) wider.1.has)
          | inr later ↦ next.has y later
        ];
        rising = next.rising;
      }

  -- what comes of a way where the call is taken first: the same operations are placed behind it
  pub record TakenFirst (g : List Event) (b c : S × List (ℕ × Reply)) (call : Call) (reply : Reply) (last : S) : Type 0 where
    pub first : S
    pub steps : step b.0 call first reply
    pub placed : List (ℕ × Reply)
    pub way : Way step observes g (first, b.1) (last, placed)
    pub rising : IsRising placed
    pub part : (x : ℕ × Reply) → Contains placed x → Contains c.1 x
    pub rest : (x : ℕ × Reply) → Contains c.1 x → Contains placed x

  pub taken_first : (h g : List Event) (process : ℕ) (reply : Reply) (call : Call) → ((at q : ℕ) (key : Item) (other : Call) → q ≢ process → IsOpen h at q key other → IsOpen g at q key other)
      → (b c : S × List (ℕ × Reply)) → IsRising b.1 → IsAheadOfOpen step g b.0 call reply → (way : Way step observes h b c) (last : S) → step c.0 call last reply → ((other : Reply) → Contains c.1 (process, other) → ⊥)
      → TakenFirst g b c call reply last
  taken_first h g process reply call stays b c rising ahead way last steps absent = record {
    first = f.0;
    steps = f.1;
    placed = placed.placed;
    way = placed.way;
    rising = placed.rising;
    part = λ y there. elim (placed.was y there) [
      | inl old ↦ way_kept step observes h b c way y old
      | inr some ↦ subst (Contains c.1) some.2 (way_calls h b c way some.0 (back some.0 some.1)).0
    ];
    rest = λ y there. elim (way_rest h b c way y there) [
      | inl old ↦ placed.kept y old
      | inr some ↦ subst (Contains placed.placed) some.2 (placed.has some.0 (Contains-permutation calls f.2 some.0 f.3 some.1))
    ];
  }
    where
      calls : List (ℕ × Call × Reply)
      calls = calls_of h b c way

      still : (x : ℕ × Call × Reply) → Contains calls x → CanPlace g b.1 x
      still x there =
          let k = way_calls h b c way x there in
          (k.1.0, k.1.1, k.1.2, stays k.1.1 x.0 k.1.2 x.1 (λ same. absent x.2 (subst (λ q. Contains c.1 (q, x.2)) same k.0)) k.1.3, k.1.4)

      f : IsFirst step b.0 call reply calls last
      f = ahead calls c.0 last (way_apart h b c way) (λ x there. let k = still x there in (k.1, k.2, k.3)) (way_takes h b c way) steps

      back : (x : ℕ × Call × Reply) → Contains f.2 x → Contains calls x
      back x there = Contains-permutation f.2 calls x (IsPermutation-sym calls f.2 f.3) there

      placed : Placed' g (f.0, b.1) (f.0, b.1) f.2 last
      placed = place_all g (f.0, b.1) (f.0, b.1) f.2 last here rising f.4 (once_again calls f.2 f.3 (once_pairs calls (way_apart h b c way))) (λ x there. still x (back x there))

-- what dominates the beginning of a way leads to its end, with nothing on offer there
pub dominates_leads : {S : Type 0} (step : S → Call → S → Reply → Type 0) (observes : Call → Bool) (g : List Event) (n : Member S) (first : S) (placed : List (ℕ × Reply)) (offers : ℕ × Reply → Type 0)
    → DominatesAt observes g n first placed offers → (c : S × List (ℕ × Reply)) → Way step observes g (first, placed) c → LeadsToMember step observes g n (record { state = c.0; placed = c.1; offers = [] })
dominates_leads {S} step observes g n first placed offers dominates c way = record {
  placed = f.placed;
  way = subst (λ s. Way step observes g (s, n.placed) (c.0, f.placed)) (sym dominates.same) f.way';
  sorted = f.sorted;
  part = f.part;
  rest = f.rest;
  offered = λ x watches absent offer. absurd (let inside = offer.1.1 in omega arith);
}
  where
    f : Follows step observes g g (first, placed) (first, n.placed) (IsOnOffer n) (IsOnOffer n) (λ x. HasCrashed g x.0) (λ x. ⊥) c way
    f = follow step observes g g first placed n.placed (IsOnOffer n) (IsOnOffer n) _ _ dominates.sorted dominates.part dominates.rest
        (λ x keep offered. offered) (λ x keep at key call is_open. is_open) c way (λ at q key call r is_open no' absent there. is_open)
