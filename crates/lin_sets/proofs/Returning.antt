-- One more event by which an operation is ok.
use Rattle.std.proofs.Common.{◌≡◌, ◌<◌, ◌≤◌, ◌-◌, ◌⊎◌, ◌∷◌, ◌++◌, [], ℕ, List, Option, None, Some, AllPairs, Contains, take, drop, length, get_or, inl, inr, refl, sym, ap, subst, ◌∙◌, arith}
use Rattle.std.specs.List.{insert}
use Rattle.std.proofs.lemmas.Bool.{cases_lt, cases_order}
use Rattle.std.proofs.lemmas.List.{get_or_default, take-append-drop}
use Rattle.std.proofs.lemmas.List.Elements.{Contains-append_cases, Contains-append_left, Contains-append_right}
use Rattle.std.proofs.lemmas.List.Edits.{length-insert, get_or-insert_below, get_or-insert_at, get_or-insert_above}
use Rattle.std.proofs.lemmas.Option.{slice_get_read, slice_get_within}
use Rattle.lin_events.specs.declared.items.Item.{Item}
use Rattle.lin_events.specs.declared.calls.Call.{Call}
use Rattle.lin_events.specs.declared.calls.Call.TheVariants.{Read}
use Rattle.lin_events.specs.declared.calls.Reply.{Reply}
use Rattle.lin_events.specs.declared.calls.Reply.TheVariants as Replied
use Rattle.lin_events.specs.declared.events.Event.{Event}
use Rattle.lin_events.specs.lemmas.OneMore.{end_inside}
use Rattle.lin_lists.specs.lemmas.Elements.{first_or_rest}
use Rattle.lin_order.specs.Orders.{IsCall}
use Rattle.lin_certificates.specs.SetConflicts.{Has, HadAt}
use Rattle.lin_sets.specs.Conflicts.{IsAnswer}
use Rattle.lin_sets.specs.Places.{place_in}
use Rattle.lin_sets.specs.Endings.{AreBy, AreLearned, AreListed, known_in}
use Rattle.lin_sets.specs.declared.endings.Endings.{Endings}
use Rattle.lin_sets.specs.declared.changes.Change.{Change}
use Rattle.lin_sets.specs.declared.changes.Change.TheVariants.{Found, FoundAgain}
use Rattle.lin_sets.specs.declared.levels.Rank.TheVariants.{At}
use Rattle.lin_sets.specs.Levels.{AreSameLevels, AreWithout, IsBelow, IsRank, IsRanked}
use Rattle.lin_sets.specs.Parts.{AreAddedBy, AreFree, AreLevels, IsFound, IsKnown}
use Rattle.lin_sets.specs.Steps.{ReturnsNext}
use Rattle.lin_sets.proofs.Finding.{one_there}
use Rattle.lin_sets.proofs.Learning.{cases_of, not_none, one_place}
use Rattle.lin_sets.proofs.Free.{known_of}
use Rattle.lin_sets.proofs.Removing.{not_itself}
use Rattle.lin_sets.proofs.OneEvent.{call_at, had_kept, had_cases, found_kept, found_cases, ok_cases, new_had, new_ok, begun_inside}
use Rattle.lin_order.specs.lemmas.OneEnd.{one_call}

had_inside : (h : List Event) (at : ℕ) (item : Item) (end : ℕ) → HadAt h at item end → end < length h
had_inside h at item end had = end_inside h at end had.3.0 had.3.1

pub known_inside : (h : List Event) (item : Item) (known : ℕ) → IsKnown h item (Some known) → known < length h
known_inside h item known is = had_inside h is.0.0 item known is.0.1

-- all that is known was known ahead of the end
pub known_by : (h : List Event) (endings : Endings) → AreListed endings → ((item : Item) → IsKnown h item (known_in endings item)) → AreBy (length h) endings
known_by h endings listed known k d inside =
    let x = get_or endings.listed.items k d in
    let is = listed.each x (k, inside, get_or_default endings.listed.items k x d inside) in
    let before = known_inside h x.item x.end (subst (IsKnown h x.item) is (known x.item)) in
    omega (arith, before)

module _ (h : List Event) (event : Event) (p : ℕ) (call : Call) (reply : Reply) (returns : ReturnsNext h event p call reply) where
  module _ (old new : Endings) (items : List Item) (learned : AreLearned old new items (length h)) (known : (item : Item) → IsKnown h item (known_in old item)) where
    pub known_more : ((item : Item) → Has call reply item → Contains items item) → ((item : Item) → Contains items item → Has call reply item) → (item : Item) → IsKnown (h ++ event ∷ []) item (known_in new item)
    known_more all each item = elim (cases_of (known_in old item)) [
      | inr before ↦
          let is : IsKnown h item (Some before.0) = subst (IsKnown h item) before.1 (known item) in
          let inside = known_inside h item before.0 is in
          subst (IsKnown (h ++ event ∷ []) item) (sym (learned.stays item before.0 before.1)) (
            (is.0.0, had_kept h event is.0.0 item before.0 is.0.1),
            λ at end had. elim (had_cases h event p call reply returns at item end had) [
              | inl was ↦ is.1 at end was
              | inr now ↦ omega (arith, now.1, inside)
            ],
          )
      | inl none ↦
          let never : IsKnown h item None = subst (IsKnown h item) none (known item) in
          elim (cases_of (known_in new item)) [
            | inl still ↦ subst (IsKnown (h ++ event ∷ []) item) (sym still) (λ at end had. elim (had_cases h event p call reply returns at item end had) [
              | inl was ↦ never at end was
              | inr now ↦ not_none (sym (learned.learned item none (all item now.2)) ∙ still)
            ])
            | inr since ↦
                let found = learned.others item since.0 none since.1 in
                subst (IsKnown (h ++ event ∷ []) item) (sym since.1) (
                  (p, subst (HadAt (h ++ event ∷ []) p item) (sym found.1) (new_had h event p call reply returns item (each item found.0))),
                  λ at end had. elim (had_cases h event p call reply returns at item end had) [
                    | inl was ↦ absurd (never at end was)
                    | inr now ↦ omega (arith, now.1, found.1)
                  ],
                )
          ]
    ]

    pub free_more : (first : List (Item × Option ℕ)) → IsAnswer call reply → ((item : Item) → Contains items item → (at : ℕ) × (place_in first item ≡ Some at) × (at ≤ length h))
        → ((s : List Item) → call ≡ Read → reply ≡ Replied.Members s → AreAddedBy first (length h) s
        × ((item : Item) (end : ℕ) → known_in old item ≡ Some end → (Contains s item → ⊥) → (end < p → ⊥) × AreAddedBy first end s))
        → AreFree first old h → AreFree first new (h ++ event ∷ [])
    free_more first answer adds fit free = record {
      answers = λ at end other answered is ok. elim (ok_cases h event p call reply returns at end answered ok) [
        | inl was ↦ free.answers at end other answered (call_at h event at other (begun_inside h event at end was.0 was.1) is) was
        | inr now ↦
            let same : call ≡ other = one_call (h ++ event ∷ []) p call other returns.0.called (subst (λ n. IsCall (h ++ event ∷ []) n other) now.0 is) in
            subst (λ r. IsAnswer other r) (sym now.2) (subst (λ c. IsAnswer c reply) same answer)
      ];
      added = λ item end since. elim (cases_of (known_in old item)) [
        | inr before ↦
            let same : before.0 ≡ end = one_place (sym (learned.stays item before.0 before.1) ∙ since) in
            subst (λ e. (at : ℕ) × (place_in first item ≡ Some at) × (at ≤ e)) same (free.added item before.0 before.1)
        | inl none ↦
            let found = learned.others item end none since in
            subst (λ e. (at : ℕ) × (place_in first item ≡ Some at) × (at ≤ e)) (sym found.1) (adds item found.0)
      ];
      fits = λ at until s item end found since lacks. elim (cases_of (known_in old item)) [
        | inr before ↦
            let same : before.0 ≡ end = one_place (sym (learned.stays item before.0 before.1) ∙ since) in
            subst (λ e. (e < at → ⊥) × AreAddedBy first e s) same (elim (found_cases h event p call reply returns at until s found) [
              | inl was ↦ free.fits at until s item before.0 was before.1 lacks
              | inr now ↦
                  let fits = (fit s now.2 now.3).1 item before.0 before.1 lacks in
                  subst (λ n. (before.0 < n → ⊥) × AreAddedBy first before.0 s) (sym now.0) fits
            ])
        | inl none ↦
            let late = learned.others item end none since in
            subst (λ e. (e < at → ⊥) × AreAddedBy first e s) (sym late.1) (elim (found_cases h event p call reply returns at until s found) [
              | inl was ↦ (
                λ before. let inside = begun_inside h event at until was.1.0 was.1.1 in let no : ⊥ = omega (arith, inside, before) in no,
                λ other there.
                    let had : HadAt h at other until = (Read, Replied.Members s, was.0, was.1, there) in
                    let is = known_of h other (known_in old other) (known other) at until had in
                    let add = free.added other is.0 is.1 in
                    let inside = had_inside h at other until had in
                    (add.0, add.1, omega (arith, add.2, is.2, inside)),
              )
              | inr now ↦ (
                λ before. let later : p < length h = returns.0.ends.later in let no : ⊥ = omega (arith, later, before, now.0) in no,
                (fit s now.2 now.3).0,
              )
            ])
      ];
    }

  -- what reads found
  pub levels_added : (levels : List (List Item)) → (call ≡ Read → ⊥) → AreLevels levels h → AreLevels levels (h ++ event ∷ [])
  levels_added levels other are = record {
    each = λ s there. let found = are.each s there in (found.0, found.1, found_kept h event found.0 found.1 s found.2);
    all = λ at end s found. elim (found_cases h event p call reply returns at end s found) [
      | inl was ↦ are.all at end s was
      | inr now ↦ absurd (other now.2)
    ];
    rising = are.rising;
  }

-- a set put at its place among sets of which each is inside the next
module _ (levels : List (List Item)) (s : List Item) (place : ℕ) (rank : IsRank levels s (At place)) where
  pub in_insert : (t : List Item) → Contains levels t → Contains (insert levels place s) t
  in_insert t there = elim (Contains-append_cases (take place levels) (drop place levels) t (subst (λ l. Contains l t) (sym (take-append-drop place levels)) there)) [
    | inl before ↦ Contains-append_left (take place levels) (s ∷ drop place levels) t before
    | inr behind ↦ Contains-append_right (take place levels) (s ∷ drop place levels) t (Contains-append_right (s ∷ []) (drop place levels) t behind)
  ]

  pub put_in_insert : Contains (insert levels place s) s
  put_in_insert = Contains-append_right (take place levels) (s ∷ drop place levels) s (0, omega arith, refl)

  pub insert_cases : (t : List Item) → Contains (insert levels place s) t → (s ≡ t) ⊎ Contains levels t
  insert_cases t there = elim (Contains-append_cases (take place levels) (s ∷ drop place levels) t there) [
    | inl before ↦ inr (subst (λ l. Contains l t) (take-append-drop place levels) (Contains-append_left (take place levels) (drop place levels) t before))
    | inr rest ↦ elim (first_or_rest s (drop place levels) t rest) [
      | inl same ↦ inl same
      | inr behind ↦ inr (subst (λ l. Contains l t) (take-append-drop place levels) (Contains-append_right (take place levels) (drop place levels) t behind))
    ]
  ]

  module _ (rising : AllPairs IsBelow levels) where
    -- the set is below each level from its place on
    below : (k : ℕ) (d : List Item) → place ≤ k → k < length levels → IsBelow s (get_or levels k d)
    below k d from inside = rank.1 k (get_or levels k d) from (slice_get_read levels (length levels) k (get_or levels k d) refl inside (get_or_default levels k d (get_or levels k d) inside))

    -- and each level ahead of it is below the set
    above : (k : ℕ) (d : List Item) → k < place → IsBelow (get_or levels k d) s
    above k d ahead =
        let last = rank.2 (omega (arith, ahead)) in
        let inside = slice_get_within levels (place - 1) last.0 last.1 in
        let at_last : get_or levels (place - 1) d ≡ last.0 = one_there levels (place - 1) (get_or levels (place - 1) d) last.0 (slice_get_read levels (length levels) (place - 1) (get_or levels (place - 1) d) refl inside (get_or_default levels (place - 1) d (get_or levels (place - 1) d) inside)) last.1 in
        elim (cases_lt k (place - 1)) [
          | inl sooner ↦
              let step : IsBelow (get_or levels k d) last.0 = subst (IsBelow (get_or levels k d)) at_last (rising k (place - 1) d sooner inside) in
              (λ item there. last.2.0 item (step.0 item there), (last.2.1.0, last.2.1.1, λ there. last.2.1.2 (step.0 last.2.1.0 there)))
          | inr at ↦
              let same : place - 1 ≡ k = omega (arith, at, ahead) in
              subst (λ (l : List Item). IsBelow l s) (sym at_last ∙ ap (λ n. get_or levels n d) same) last.2
        ]

    -- so it is none of them yet
    pub rank_new : Contains levels s → ⊥
    rank_new there = elim (cases_lt there.0 place) [
      | inl before ↦ not_itself s (get_or levels there.0 s) there.2 (subst (λ (l : List Item). IsBelow l (get_or levels there.0 s)) there.2 (subst (IsBelow (get_or levels there.0 s)) (sym there.2) (above there.0 s before)))
      | inr from ↦ not_itself s (get_or levels there.0 s) there.2 (below there.0 s from there.1)
    ]

    at_below : (k : ℕ) (d : List Item) → k < place → get_or (insert levels place s) k d ≡ get_or levels k d
    at_below k d ahead = get_or-insert_below levels place s d k ahead rank.0

    at_above : (k : ℕ) (d : List Item) → place < k → get_or (insert levels place s) k d ≡ get_or levels (k - 1) d
    at_above k d behind = ap (λ n. get_or (insert levels place s) n d) (omega (arith, behind)) ∙ get_or-insert_above levels place s d (k - 1) (omega (arith, behind)) rank.0

    at_place : (k : ℕ) (d : List Item) → k ≡ place → get_or (insert levels place s) k d ≡ s
    at_place k d at = ap (λ n. get_or (insert levels place s) n d) at ∙ get_or-insert_at levels place s d rank.0

    pub insert_rising : AllPairs IsBelow (insert levels place s)
    insert_rising i j d lower within =
        let many = length-insert levels place s rank.0 in
        elim (cases_order i place) [
          | inl at ↦ within_same _ _ _ _ (sym (at_place i d at)) (sym (at_above j d (omega (arith, at, lower)))) (below (j - 1) d (omega (arith, at, lower)) (omega (arith, within, many)))
          | inr apart ↦ elim apart [
            | inl ahead ↦ elim (cases_order j place) [
              | inl at ↦ within_same _ _ _ _ (sym (at_below i d ahead)) (sym (at_place j d at)) (above i d ahead)
              | inr differ ↦ elim differ [
                | inl both ↦ within_same _ _ _ _ (sym (at_below i d ahead)) (sym (at_below j d both)) (rising i j d lower (omega (arith, both, rank.0)))
                | inr over ↦ within_same _ _ _ _ (sym (at_below i d ahead)) (sym (at_above j d over)) (elim (cases_lt i (j - 1)) [
                  | inl less ↦ rising i (j - 1) d less (omega (arith, within, many, over))
                  | inr same ↦ let no : ⊥ = omega (arith, same, over, ahead) in absurd no
                ])
              ]
            ]
            | inr behind ↦ within_same _ _ _ _ (sym (at_above i d behind)) (sym (at_above j d (omega (arith, behind, lower)))) (rising (i - 1) (j - 1) d (omega (arith, behind, lower)) (omega (arith, within, many, behind, lower)))
          ]
        ]
      where
        within_same : (a b x y : List Item) → a ≡ x → b ≡ y → IsBelow a b → IsBelow x y
        within_same a b x y same alike is = subst (λ (l : List Item). IsBelow x l) alike (subst (λ (l : List Item). IsBelow l b) same is)

-- what reads found, with one more of them
pub levels_more : (h : List Event) (event : Event) (p : ℕ) (s : List Item) → ReturnsNext h event p Read (Replied.Members s) → (levels new : List (List Item)) (change : Change) → IsRanked levels new s change → AreLevels levels h → AreLevels new (h ++ event ∷ [])
levels_more h event p s returns levels new change (inl there) are = subst (λ l. AreLevels l (h ++ event ∷ [])) (sym there.0) (record {
  each = λ t is. let found = are.each t is in (found.0, found.1, found_kept h event found.0 found.1 t found.2);
  all = λ at end t found. elim (found_cases h event p Read (Replied.Members s) returns at end t found) [
    | inl was ↦ are.all at end t was
    | inr now ↦ subst (Contains levels) (same now.3) there.1
  ];
  rising = are.rising;
})
  where
    same : {a b : List Item} → Replied.Members a ≡ Replied.Members b → a ≡ b
    same e = cc
levels_more h event p s returns levels new change (inr put) are = subst (λ l. AreLevels l (h ++ event ∷ [])) (sym put.2) (record {
  each = λ t is. elim (insert_cases levels s put.0 put.1 t is) [
    | inl itself ↦ (p, length h, subst (IsFound (h ++ event ∷ []) p (length h)) itself (returns.0.called, new_ok h event p Read (Replied.Members s) returns))
    | inr before ↦ let found = are.each t before in (found.0, found.1, found_kept h event found.0 found.1 t found.2)
  ];
  all = λ at end t found. elim (found_cases h event p Read (Replied.Members s) returns at end t found) [
    | inl was ↦ in_insert levels s put.0 put.1 t (are.all at end t was)
    | inr now ↦ subst (Contains (insert levels put.0 s)) (same now.3) (put_in_insert levels s put.0 put.1)
  ];
  rising = insert_rising levels s put.0 put.1 are.rising;
})
  where
    same : {a b : List Item} → Replied.Members a ≡ Replied.Members b → a ≡ b
    same e = cc

-- the sets are as they were, once one that was put among them is taken out again
pub taken_back : (before levels new : List (List Item)) (s : List Item) (change : Change) → AllPairs IsBelow before → IsRanked before levels s change
    → ((set : List Item) → change ≡ Found set → AllPairs IsBelow levels → AreWithout levels new set) → (((set : List Item) → change ≡ Found set → ⊥) → new ≡ levels) → AreSameLevels before new
taken_back before levels new s change rising (inl there) out other =
    let same : new ≡ before = other (λ set e. not_found (sym there.2 ∙ e)) ∙ there.0 in
    record { left = λ t is. subst (λ l. Contains l t) same is; kept = λ t is. subst (λ l. Contains l t) (sym same) is; rising = subst (AllPairs IsBelow) (sym same) rising }
  where
    not_found : {set : List Item} → FoundAgain ≡ Found set → ⊥
    not_found e = cc
taken_back before levels new s change rising (inr put) out other =
    let up : AllPairs IsBelow levels = subst (AllPairs IsBelow) (sym put.2) (insert_rising before s put.0 put.1 rising) in
    let without = out s put.3 up in
    record {
      left = λ t is.
          let was = without.left t is in
          elim (insert_cases before s put.0 put.1 t (subst (λ l. Contains l t) put.2 was.0)) [
            | inl itself ↦ absurd (was.1 (sym itself))
            | inr there ↦ there
          ];
      kept = λ t is. without.kept t (subst (λ l. Contains l t) (sym put.2) (in_insert before s put.0 put.1 t is))
          (λ same. rank_new before s put.0 put.1 rising (subst (Contains before) same is));
      rising = without.rising;
    }
