-- The last event taken back: what was told of the events with it tells of those before it.
use Rattle.std.proofs.Common.{◌≡◌, ◌≢◌, ◌<◌, ◌≤◌, ◌+◌, ◌⊎◌, ◌∷◌, ◌++◌, [], zero, suc, ℕ, List, Option, None, Some, IsSome, cond, nat_eq, set, slice_get, take, length, length-append, inl, inr, refl, sym, ap, subst, ◌∙◌, arith}
use Rattle.std.proofs.lemmas.Bool.{cases_eq, cases_lt, cases_Bool}
use Rattle.std.proofs.lemmas.Bool.Decides.{Decides-eqb}
use Rattle.std.proofs.lemmas.List.{length-set, length-take-le, take-append-le, take_all}
use Rattle.std.proofs.lemmas.Option.{slice_get_within}
use Rattle.lin_events.specs.declared.items.Item.{Item}
use Rattle.lin_events.specs.declared.calls.Call.{Call}
use Rattle.lin_events.specs.declared.calls.Call.TheVariants.{Read, Add}
use Rattle.lin_events.specs.declared.calls.Name.{Name}
use Rattle.lin_events.specs.declared.calls.Reply.{Reply}
use Rattle.lin_events.specs.declared.calls.Reply.TheVariants as Replied
use Rattle.lin_events.specs.declared.events.Event.{Event}
use Rattle.lin_events.specs.declared.events.Body.{Body}
use Rattle.lin_events.specs.declared.events.Body.TheVariants.{Invoke, Ok}
use Rattle.lin_events.specs.Operations.{IsEnd, IsEvent, IsFailed, IsOperation}
use Rattle.lin_events.specs.lemmas.OneMore.{end_before, end_cases, end_inside, end_kept, failed_kept, invoked, ok_kept, operation_before, operation_kept}
use Rattle.lin_events.specs.lemmas.StatusLemmas.{one_event}
use Rattle.lin_lists.specs.lemmas.Lists.{get_begun, get_cases, get_last, get_left, get_set_cases, get_taken}
use Rattle.lin_order.specs.Orders.{IsCall}
use Rattle.lin_order.specs.lemmas.Assembling.{operation_inside}
use Rattle.lin_order.specs.lemmas.OneEnd.{one_call, one_end}
use Rattle.lin_certificates.specs.SetConflicts.{HadAt}
use Rattle.lin_sets.specs.declared.openings.Opened.{Opened}
use Rattle.lin_sets.specs.declared.changes.Change.{Change}
use Rattle.lin_sets.specs.Openings.{IsRestored, opened_in}
use Rattle.lin_sets.specs.Places.{IsLeft, IsListed, IsLowered, place_in}
use Rattle.lin_sets.specs.Endings.{AreBefore, AreKept, known_in}
use Rattle.lin_sets.specs.declared.endings.Endings.{Endings}
use Rattle.lin_sets.specs.Levels.{AreWithout}
use Rattle.lin_sets.specs.Parts.{AreAdds, AreFree, AreLatest, AreLevels, AreNoted, IsFirst, IsFound, IsKnown, IsLatest, IsLatestOf, Stands}
use Rattle.lin_sets.specs.Changes.{AreChanges, Makes}
use Rattle.lin_sets.specs.Steps.{FailsNext, ReturnsNext}
use Rattle.lin_sets.proofs.Learning.{cases_of, not_none, one_place}
use Rattle.lin_sets.proofs.Putting.{put_cases}
use Rattle.lin_sets.proofs.OneEvent.{call_kept, call_at, had_kept, had_before, found_kept, found_before, not_begun, begun_inside, one_start}
use Rattle.lin_sets.proofs.Pushing.{one_item}
use Rattle.lin_sets.proofs.Failing.{get_set_other}

get_set_same : {A : Type 0} (xs : List A) (i : ℕ) (y : A) → i < length xs → slice_get (set xs i y) i ≡ Some y
get_set_same [] i y inside = let no : ⊥ = omega (arith, inside) in absurd no
get_set_same (z ∷ zs) zero y inside = refl
get_set_same (z ∷ zs) (suc i) y inside = get_set_same zs i y (omega (arith, inside))

one_added : {a b : Item} → Add a ≡ Add b → a ≡ b
one_added e = cc

one_opened : {a b : Opened} → Some a ≡ Some b → a ≡ b
one_opened e = cc

-- adds without the last place
module _ (adds : List (Option Item)) (n : ℕ) where
  taken_before : (at : ℕ) (item : Item) → Stands (take n adds) at item → (at < n) × Stands adds at item
  taken_before at item stands = get_taken n adds at (Some item) stands

  before_taken : (at : ℕ) (item : Item) → at < n → Stands adds at item → Stands (take n adds) at item
  before_taken at item below stands = get_begun n adds at (Some item) below stands

  -- a first add ahead of it stays
  firsts_taken : length adds ≡ n + 1 → (item : Item) (o : Option ℕ) → (o ≡ Some n → ⊥) → IsFirst adds item o → IsFirst (take n adds) item o
  firsts_taken many item None other none = λ at stands. none at (taken_before at item stands).1
  firsts_taken many item (Some first) other is =
      let inside = slice_get_within adds first (Some item) is.0 in
      let apart : first ≢ n = λ same. other (ap Some same) in
      (before_taken first item (omega (arith, inside, many, apart)) is.0, λ at stands. is.1 at (taken_before at item stands).1)

  -- one there was the only one
  firsts_gone : (item : Item) → IsFirst adds item (Some n) → IsFirst (take n adds) item None
  firsts_gone item is at stands = let was = taken_before at item stands in let from = is.1 at was.1 in omega (arith, was.0, from)

module _ (h : List Event) (event : Event) where
  n : ℕ
  n = length h

  -- what was known ahead of the event
  had_early : (at : ℕ) (item : Item) (end : ℕ) → end < length h → HadAt (h ++ event ∷ []) at item end → HadAt h at item end
  had_early at item end early had =
      let ends = end_before h event at end had.3.0 early had.3.1 in
      (had.0, had.1, call_at h event at had.0 (begun_inside h event at end had.3.0 ends) had.2, (had.3.0, ends, had.3.2, had.3.3), had.4)

  pub found_early : (at end : ℕ) (s : List Item) → end < length h → IsFound (h ++ event ∷ []) at end s → IsFound h at end s
  found_early at end s early found =
      let ends = end_before h event at end found.1.0 early found.1.1 in
      (call_at h event at Read (begun_inside h event at end found.1.0 ends) found.0, (found.1.0, ends, found.1.2, found.1.3))

  pub found_upto : (at end : ℕ) (s : List Item) → IsFound (h ++ event ∷ []) at end s → (end < length h) ⊎ (end ≡ length h)
  found_upto at end s found =
      let inside = end_inside (h ++ event ∷ []) at end found.1.0 found.1.1 in
      let many = length-append h (event ∷ []) in
      elim (cases_lt end (length h)) [
        | inl early ↦ inl early
        | inr late ↦ inr (omega (arith, late, inside, many))
      ]

  -- a read that returned with the event
  pub returns_now : (at end : ℕ) (s : List Item) → end ≡ length h → IsFound (h ++ event ∷ []) at end s → ReturnsNext h event at Read (Replied.Members s)
  returns_now at end s same found =
      let is : found.1.0 ≡ event = one_event (h ++ event ∷ []) (length h) found.1.0 event (subst (λ k. IsEvent (h ++ event ∷ []) k found.1.0) same found.1.1.ends) (get_last h event) in (
        record { ends = subst (λ (x : Event). IsEnd (h ++ event ∷ []) at (length h) x) is (subst (λ k. IsEnd (h ++ event ∷ []) at k found.1.0) same found.1.1); called = found.0 },
        (found.1.2, ap (λ (x : Event). x.body) (sym is) ∙ found.1.3),
      )

  -- the changes
  pub changes_undone : (changes : List Change) (change : Change) → AreChanges (changes ++ change ∷ []) (h ++ event ∷ []) → AreChanges changes h
  changes_undone changes change are = record {
    counted = let many = length-append changes (change ∷ []) in let more = length-append h (event ∷ []) in omega (arith, many, more, are.counted);
    each = λ at other stands.
        let was = are.each at other (get_left changes change at other stands) in
        let inside = slice_get_within changes at other stands in
        let many = length-append changes (change ∷ []) in
        let more = length-append h (event ∷ []) in
        let ahead : at < length h = omega (arith, inside, many, more, are.counted) in (
          was.0,
          elim (get_cases h event at was.0 was.1) [
            | inl old ↦ old
            | inr new ↦ let no : ⊥ = omega (arith, new.0, ahead) in absurd no
          ],
          subst (λ l. Makes l was.0 other) (take-append-le at h (event ∷ []) (omega (arith, ahead))) was.2,
        );
  }

  pub last_makes : (changes : List Change) (change : Change) → AreChanges (changes ++ change ∷ []) (h ++ event ∷ []) → Makes h event change
  last_makes changes change are =
      let last = are.each (length changes) change (get_last changes change) in
      let many = length-append changes (change ∷ []) in
      let more = length-append h (event ∷ []) in
      let place : length changes ≡ length h = omega (arith, many, more, are.counted) in
      let all : take (length changes) (h ++ event ∷ []) ≡ h = take-append-le (length changes) h (event ∷ []) (omega (arith, place)) ∙ take_all (length changes) h (omega (arith, place)) in
      let is : last.0 ≡ event = one_event (h ++ event ∷ []) (length h) last.0 event (subst (λ k. IsEvent (h ++ event ∷ []) k last.0) place last.1) (get_last h event) in
      subst (λ (x : Event). Makes h x change) is (subst (λ l. Makes l last.0 change) all last.2)

  module _ (adds : List (Option Item)) (are : AreAdds adds (h ++ event ∷ [])) where
    pub many : length adds ≡ length h + 1
    many = are.counted ∙ length-append h (event ∷ [])

    pub taken_many : length (take (length h) adds) ≡ length h
    taken_many = let all = many in length-take-le (length h) adds (omega (arith, all))

    -- where no add failed with the event
    pub adds_undone : ((at : ℕ) (item : Item) → IsFailed (h ++ event ∷ []) at → IsCall h at (Add item) → IsFailed h at) → AreAdds (take (length h) adds) h
    adds_undone none = record {
      counted = taken_many;
      stand = λ at item stands.
          let was = taken_before adds (length h) at item stands in
          let add = are.stand at item was.1 in
          (call_at h event at (Add item) was.0 add.0, λ failed. add.1 (failed_kept h event at failed));
      listed = λ at item called. elim (are.listed at item (call_kept h event at (Add item) called)) [
        | inl stands ↦ inl (before_taken adds (length h) at item (operation_inside h at (Add item) called) stands)
        | inr failed ↦ inr (none at item failed called)
      ];
    }

    -- a place where an item is added tells its call
    pub called_there : (item : Item) → IsFirst adds item (Some (length h)) → IsCall (h ++ event ∷ []) (length h) (Add item)
    called_there item is = (are.stand (length h) item is.0).0

    module _ (p : ℕ) (item : Item) (fails : FailsNext h event p (Add item)) where
      failed_inside : p < length h
      failed_inside = let later = fails.0.ends.later in omega (arith, later)

      pub was_called : IsCall h p (Add item)
      was_called = call_at h event p (Add item) failed_inside fails.0.called

      -- no add stands where it failed
      none_stands : (other : Item) → Stands adds p other → ⊥
      none_stands other stands = (are.stand p other stands).1 (length h, event, fails.0.ends, fails.1.0, fails.1.1)

      restored_before : (at : ℕ) (other : Item) → Stands (set (take (length h) adds) p (Some item)) at other → ((at ≡ p) × (item ≡ other)) ⊎ ((at ≢ p) × (at < length h) × Stands adds at other)
      restored_before at other stands = elim (get_set_cases (take (length h) adds) p (Some item) at (Some other) stands) [
        | inl here ↦ inl (here.0, one_item (one_slot here.1))
        | inr there ↦ let was = taken_before adds (length h) at other there.1 in inr (there.0, was.0, was.1)
      ]
        where
          one_slot : {a b : Option Item} → a ≡ b → a ≡ b
          one_slot e = e

      restored_here : Stands (set (take (length h) adds) p (Some item)) p item
      restored_here = let all = taken_many in get_set_same (take (length h) adds) p (Some item) (omega (arith, all, failed_inside))

      restored_still : (at : ℕ) (other : Item) → at ≢ p → at < length h → Stands adds at other → Stands (set (take (length h) adds) p (Some item)) at other
      restored_still at other differ below stands = get_set_other (take (length h) adds) p (Some item) at (Some other) differ (before_taken adds (length h) at other below stands)

      pub adds_restored : AreAdds (set (take (length h) adds) p (Some item)) h
      adds_restored = record {
        counted = length-set (take (length h) adds) p (Some item) ∙ taken_many;
        stand = λ at other stands. elim (restored_before at other stands) [
          | inl here ↦
              let called = subst (λ k. IsCall h k (Add item)) (sym here.0) was_called in (
                subst (λ (i : Item). IsCall h at (Add i)) here.1 called,
                λ failed.
                    let ends = subst (λ k. IsEnd h k failed.0 failed.1) here.0 failed.2 in
                    let same = one_end (h ++ event ∷ []) p failed.0 (length h) failed.1 event (end_kept h event p failed.0 failed.1 ends) fails.0.ends in
                    let inside = end_inside h p failed.0 failed.1 ends in
                    let no : ⊥ = omega (arith, same, inside) in
                    no,
              )
          | inr there ↦
              let add = are.stand at other there.2 in
              (call_at h event at (Add other) there.1 add.0, λ failed. add.1 (failed_kept h event at failed))
        ];
        listed = λ at other called. elim (cases_eq at p) [
          | inl same ↦
              let one : item ≡ other = one_added (one_call h p (Add item) (Add other) was_called (subst (λ k. IsCall h k (Add other)) same called)) in
              inl (subst (λ k. Stands (set (take (length h) adds) p (Some item)) k other) (sym same) (subst (λ (i : Item). Stands (set (take (length h) adds) p (Some item)) p i) one restored_here))
          | inr differ ↦ elim (are.listed at other (call_kept h event at (Add other) called)) [
            | inl stands ↦ inl (restored_still at other differ (operation_inside h at (Add other) called) stands)
            | inr failed ↦ elim (end_cases h event at failed.0 failed.1 failed.2) [
              | inl old ↦ inr (failed.0, failed.1, old, failed.3, failed.4)
              | inr new ↦ absurd (differ (one_start (h ++ event ∷ []) at p (length h) failed.1 event (subst (λ k. IsEnd (h ++ event ∷ []) at k failed.1) new.0 failed.2) fails.0.ends))
            ]
          ]
        ];
      }

      -- the first adds, with the one that failed
      pub firsts_restored : (old new : List (Item × Option ℕ)) → IsListed old item → IsLowered old new item p → ((other : Item) → IsFirst adds other (place_in old other)) → ((other : Item) → place_in old other ≡ Some (length h) → ⊥)
          → (other : Item) → IsFirst (set (take (length h) adds) p (Some item)) other (place_in new other)
      firsts_restored old new listed (inl kept) firsts apart other = subst (λ l. IsFirst (set (take (length h) adds) p (Some item)) other (place_in l other)) (sym kept.3) (by (place_in old other) refl)
        where
          by : (o : Option ℕ) → place_in old other ≡ o → IsFirst (set (take (length h) adds) p (Some item)) other o
          by None e = λ at stands.
              let none : IsFirst adds other None = subst (IsFirst adds other) e (firsts other) in
              elim (restored_before at other stands) [
                | inl here ↦ not_none (sym kept.1 ∙ ap (place_in old) here.1 ∙ e)
                | inr there ↦ none at there.2
              ]
          by (Some first) e =
              let is : IsFirst adds other (Some first) = subst (IsFirst adds other) e (firsts other) in
              let inside = slice_get_within adds first (Some other) is.0 in
              let all = many in
              let differ : first ≢ length h = λ same. apart other (e ∙ ap Some same) in
              let no_p : first ≢ p = λ same. none_stands other (subst (λ k. Stands adds k other) same is.0) in (
                restored_still first other no_p (omega (arith, inside, all, differ)) is.0,
                λ at stands. elim (restored_before at other stands) [
                  | inl here ↦
                      let same : kept.0 ≡ first = one_place (sym kept.1 ∙ ap (place_in old) here.1 ∙ e) in
                      omega (arith, same, kept.2, here.0)
                  | inr there ↦ is.1 at there.2
                ],
              )
      firsts_restored old new listed (inr lowered) firsts apart other = elim (put_cases old new item (Some p) (lowered.1 listed) other) [
        | inl here ↦ subst (IsFirst (set (take (length h) adds) p (Some item)) other) (sym here.1) (
          subst (λ (i : Item). Stands (set (take (length h) adds) p (Some item)) p i) here.0 restored_here,
          λ at stands. elim (restored_before at other stands) [
            | inl itself ↦ omega (arith, itself.0)
            | inr there ↦ least (place_in old other) (firsts other) (λ first e. lowered.0 first (ap (place_in old) here.0 ∙ e)) at there.2
          ],
        )
        | inr differ ↦ subst (IsFirst (set (take (length h) adds) p (Some item)) other) (sym differ.1) (by differ.0 (place_in old other) refl)
      ]
        where
          least : (o : Option ℕ) → IsFirst adds other o → ((first : ℕ) → o ≡ Some first → p ≤ first) → (at : ℕ) → Stands adds at other → p ≤ at
          least None none below at stands = absurd (none at stands)
          least (Some first) is below at stands = let from = is.1 at stands in let upto = below first refl in omega (arith, from, upto)

          by : (item ≡ other → ⊥) → (o : Option ℕ) → place_in old other ≡ o → IsFirst (set (take (length h) adds) p (Some item)) other o
          by differ None e = λ at stands.
              let none : IsFirst adds other None = subst (IsFirst adds other) e (firsts other) in
              elim (restored_before at other stands) [
                | inl here ↦ differ here.1
                | inr there ↦ none at there.2
              ]
          by differ (Some first) e =
              let is : IsFirst adds other (Some first) = subst (IsFirst adds other) e (firsts other) in
              let inside = slice_get_within adds first (Some other) is.0 in
              let all = many in
              let no_end : first ≢ length h = λ same. apart other (e ∙ ap Some same) in
              let no_p : first ≢ p = λ same. none_stands other (subst (λ k. Stands adds k other) same is.0) in (
                restored_still first other no_p (omega (arith, inside, all, no_end)) is.0,
                λ at stands. elim (restored_before at other stands) [
                  | inl here ↦ absurd (differ here.1)
                  | inr there ↦ is.1 at there.2
                ],
              )

    -- where no add begins with the event, the first ones stay
    pub firsts_undone : ((item : Item) → IsCall (h ++ event ∷ []) (length h) (Add item) → ⊥) → (item : Item) (o : Option ℕ) → IsFirst adds item o → IsFirst (take (length h) adds) item o
    firsts_undone none item o is = firsts_taken adds (length h) many item o (λ same. none item (called_there item (subst (IsFirst adds item) same is))) is

    -- where one does, it isn't the first one of its item any more
    pub firsts_left : (old new : List (Item × Option ℕ)) (item : Item) → IsCall (h ++ event ∷ []) (length h) (Add item) → IsLeft old new item (length h) → ((other : Item) → IsFirst adds other (place_in old other))
        → (other : Item) → IsFirst (take (length h) adds) other (place_in new other)
    firsts_left old new item called (inl kept) firsts other =
        subst (λ l. IsFirst (take (length h) adds) other (place_in l other)) (sym kept.1) (firsts_taken adds (length h) many other (place_in old other) (λ same.
        let there = called_there other (subst (IsFirst adds other) same (firsts other)) in
        let one : item ≡ other = one_added (one_call (h ++ event ∷ []) (length h) (Add item) (Add other) called there) in
        kept.0 (ap (place_in old) one ∙ same)) (firsts other))
    firsts_left old new item called (inr left) firsts other = elim (put_cases old new item None left.1 other) [
      | inl here ↦ subst (IsFirst (take (length h) adds) other) (sym here.1) (firsts_gone adds (length h) other (subst (IsFirst adds other) (ap (place_in old) (sym here.0) ∙ left.0) (firsts other)))
      | inr apart ↦ subst (IsFirst (take (length h) adds) other) (sym apart.1) (firsts_taken adds (length h) many other (place_in old other) (λ same.
          let there = called_there other (subst (IsFirst adds other) same (firsts other)) in
          apart.0 (one_added (one_call (h ++ event ∷ []) (length h) (Add item) (Add other) called there))) (firsts other))
    ]

  -- the latest operations
  latest_kept : (at process : ℕ) (key : Item) (call : Call) → ((other : Item) (again : Call) → IsOperation (h ++ event ∷ []) (length h) process other again → ⊥) → IsLatest h at process key call → IsLatest (h ++ event ∷ []) at process key call
  latest_kept at process key call none latest = record {
    begins = operation_kept h event at process key call latest.begins;
    latest = λ later other again behind there. elim (cases_eq later (length h)) [
      | inl last ↦ none other again (subst (λ k. IsOperation (h ++ event ∷ []) k process other again) last there)
      | inr before ↦ latest.latest later other again behind (operation_before h event later process other again before there)
    ];
  }

  pub latest_undone : ((call : Call) → event.body ≡ Invoke call → ⊥) → (openings : List (ℕ × Opened)) → AreLatest openings (h ++ event ∷ []) → AreLatest openings h
  latest_undone other openings all process at key call latest =
      all process at key call (latest_kept at process key call (λ third again there. not_begun h event other (length h) again (process, third, there) refl) latest)

  pub latest_restored : (old new : List (ℕ × Opened)) (process : ℕ) (call : Call) (before : Option Opened) → event.process ≡ process → event.body ≡ Invoke call → IsLatestOf h process before → IsRestored old new process before
      → AreLatest old (h ++ event ∷ []) → AreLatest new h
  latest_restored old new process call before same is was restored all other at key third latest = elim (cases_eq process other) [
    | inl one ↦
        let of_it = subst (λ p. IsLatest h at p key third) (sym one) latest in
        by before one (was at key third of_it) restored
    | inr apart ↦
        let kept = latest_kept at other key third (λ key' again there. apart (sym same ∙ ap (λ (e : Event). e.process) (one_event (h ++ event ∷ []) (length h) event _ (get_last h event) there))) latest in
        stays before restored apart (all other at key third kept)
  ]
    where
      begun : IsOperation (h ++ event ∷ []) (length h) process event.key call
      begun = subst (λ p. IsOperation (h ++ event ∷ []) (length h) p event.key call) same (invoked h event call is).begins

      now : IsLatest (h ++ event ∷ []) (length h) process event.key call
      now = record {
        begins = begun;
        latest = λ later key' again behind there.
            let inside = slice_get_within (h ++ event ∷ []) later _ there in
            let many = length-append h (event ∷ []) in
            omega (arith, inside, behind, many);
      }

      listed : IsSome (opened_in old process)
      listed = subst IsSome (sym (all process (length h) event.key call now)) refl

      by : (o : Option Opened) → process ≡ other → o ≡ Some (record { at = at; call = third }) → IsRestored old new process o → opened_in new other ≡ Some (record { at = at; call = third })
      by None one found kept = cc
      by (Some opened) one found put = put listed other ∙ ap (λ b. cond b (Some opened) (opened_in old other)) ((Decides-eqb process other).1 one) ∙ found

      stays : (o : Option Opened) → IsRestored old new process o → (process ≡ other → ⊥) → opened_in old other ≡ Some (record { at = at; call = third }) → opened_in new other ≡ Some (record { at = at; call = third })
      stays None kept apart there = ap (λ l. opened_in l other) kept ∙ there
      stays (Some opened) put apart there = elim (cases_Bool (nat_eq process other)) [
        | inl same ↦ absurd (apart ((Decides-eqb process other).0 same))
        | inr differ ↦ put listed other ∙ ap (λ b. cond b (Some opened) (opened_in old other)) differ ∙ there
      ]

  -- items that were added
  pub noted_undone : (first new : List (Item × Option ℕ)) → ((item : Item) → IsListed first item → IsListed new item) → AreNoted first (h ++ event ∷ []) → AreNoted new h
  noted_undone first new keeps noted at item called = keeps item (noted at item (call_kept h event at (Add item) called))

  -- what is known
  module _ (no_ok : (name : Name) (reply : Reply) → event.body ≡ Ok name reply → ⊥) where
    pub known_before : (item : Item) (o : Option ℕ) → IsKnown (h ++ event ∷ []) item o → IsKnown h item o
    known_before item None none = λ at end had. none at end (had_kept h event at item end had)
    known_before item (Some known) is = ((is.0.0, had_before h event no_ok is.0.0 item known is.0.1), λ at end had. is.1 at end (had_kept h event at item end had))

    pub levels_before : (levels : List (List Item)) → AreLevels levels (h ++ event ∷ []) → AreLevels levels h
    levels_before levels are = record {
      each = λ s there. let found = are.each s there in (found.0, found.1, found_before h event no_ok found.0 found.1 s found.2);
      all = λ at end s found. are.all at end s (found_kept h event at end s found);
      rising = are.rising;
    }

  pub known_undone : (old new : Endings) → AreKept old new (length h) → AreBefore (length h) new → ((item : Item) → IsKnown (h ++ event ∷ []) item (known_in old item)) → (item : Item) → IsKnown h item (known_in new item)
  known_undone old new kept before known item = elim (cases_of (known_in new item)) [
    | inl none ↦ subst (IsKnown h item) (sym none) (λ at end had. never (known_in old item) refl (known item) none at end had)
    | inr some ↦
        let was = kept.left item some.0 some.1 in
        let is : IsKnown (h ++ event ∷ []) item (Some some.0) = subst (IsKnown (h ++ event ∷ []) item) was (known item) in
        subst (IsKnown h item) (sym some.1) ((is.0.0, had_early is.0.0 item some.0 (before item some.0 some.1) is.0.1), λ at end had. is.1 at end (had_kept h event at item end had))
  ]
    where
      never : (o : Option ℕ) → known_in old item ≡ o → IsKnown (h ++ event ∷ []) item o → known_in new item ≡ None → (at end : ℕ) → HadAt h at item end → ⊥
      never None e is none at end had = is at end (had_kept h event at item end had)
      never (Some known) e is none at end had =
          let upto = is.1 at end (had_kept h event at item end had) in
          let inside = end_inside h at end had.3.0 had.3.1 in
          not_none (sym (kept.kept item known e (omega (arith, upto, inside))) ∙ none)

  -- what reads found, where what was found with the event was found before
  pub levels_undone : (levels : List (List Item)) → ((at : ℕ) (s : List Item) → ReturnsNext h event at Read (Replied.Members s) → (other : ℕ) × (end : ℕ) × IsFound h other end s) → AreLevels levels (h ++ event ∷ []) → AreLevels levels h
  levels_undone levels again are = record {
    each = λ s there.
        let found = are.each s there in
        elim (found_upto found.0 found.1 s found.2) [
          | inl early ↦ (found.0, found.1, found_early found.0 found.1 s early found.2)
          | inr now ↦ again found.0 s (returns_now found.0 found.1 s now found.2)
        ];
    all = λ at end s found. are.all at end s (found_kept h event at end s found);
    rising = are.rising;
  }

  -- or wasn't
  pub levels_fewer : (levels new : List (List Item)) (p : ℕ) (s : List Item) → ReturnsNext h event p Read (Replied.Members s) → ((other end : ℕ) → IsFound h other end s → ⊥) → AreWithout levels new s
      → AreLevels levels (h ++ event ∷ []) → AreLevels new h
  levels_fewer levels new p s returns none without are = record {
    each = λ t there.
        let left = without.left t there in
        let found = are.each t left.0 in
        elim (found_upto found.0 found.1 t found.2) [
          | inl early ↦ (found.0, found.1, found_early found.0 found.1 t early found.2)
          | inr now ↦ let again = returns_now found.0 found.1 t now found.2 in absurd (left.1 (same again.1.1 returns.1.1))
        ];
    all = λ at end t found. without.kept t (are.all at end t (found_kept h event at end t found)) (λ one. none at end (subst (IsFound h at end) one found));
    rising = without.rising;
  }
    where
      same : {body : Body} {name other : Name} {a b : List Item} → body ≡ Ok name (Replied.Members a) → body ≡ Ok other (Replied.Members b) → a ≡ b
      same one two = cc

  -- no operations conflict
  pub free_undone : (first new : List (Item × Option ℕ)) (old endings : Endings) → ((item : Item) (at end : ℕ) → place_in first item ≡ Some at → at ≤ end → end < length h → (early : ℕ) × (place_in new item ≡ Some early) × (early ≤ end))
      → ((item : Item) (end : ℕ) → known_in endings item ≡ Some end → (known_in old item ≡ Some end) × (end < length h)) → AreFree first old (h ++ event ∷ []) → AreFree new endings h
  free_undone first new old endings keeps left free = record {
    answers = λ at end call reply is ok. free.answers at end call reply (call_kept h event at call is) (ok_kept h event at end reply ok);
    added = λ item end known.
        let was = left item end known in
        let add = free.added item end was.0 in
        keeps item add.0 end add.1 add.2 was.1;
    fits = λ at until s item end found known lacks.
        let was = left item end known in
        let fit = free.fits at until s item end (found_kept h event at until s found) was.0 lacks in
        (fit.0, λ other there. let add = fit.1 other there in keeps other add.0 end add.1 add.2 was.1);
  }
