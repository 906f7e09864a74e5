-- One more event that leaves operations that conflict.
use Rattle.std.proofs.Common.{◌≡◌, ◌<◌, ◌≤◌, ◌⊎◌, ◌∷◌, ◌++◌, [], ℕ, List, Option, None, Some, Contains, length, inl, inr, refl, sym, subst, arith}
use Rattle.std.proofs.lemmas.Bool.{cases_eq}
use Rattle.lin_events.specs.declared.items.Item.{Item}
use Rattle.lin_events.specs.declared.calls.Call.{Call}
use Rattle.lin_events.specs.declared.calls.Call.TheVariants.{Read, Add}
use Rattle.lin_events.specs.declared.calls.Name.{Name}
use Rattle.lin_events.specs.declared.calls.Reply.{Reply}
use Rattle.lin_events.specs.declared.calls.Reply.TheVariants as Replied
use Rattle.lin_events.specs.declared.events.Event.{Event}
use Rattle.lin_events.specs.declared.events.Body.{Body}
use Rattle.lin_events.specs.declared.events.Body.TheVariants.{Invoke, Ok, Fail}
use Rattle.lin_events.specs.Operations.{IsFailed}
use Rattle.lin_events.specs.lemmas.OneMore.{end_inside, end_kept, failed_kept}
use Rattle.lin_order.specs.lemmas.OneEnd.{one_end}
use Rattle.lin_certificates.specs.SetConflicts.{HadAt, FoundAt}
use Rattle.lin_sets.specs.Conflicts.{HasNoAddBy, IsAnswer, IsInConflict}
use Rattle.lin_sets.specs.Places.{place_in}
use Rattle.lin_sets.specs.Endings.{known_in}
use Rattle.lin_sets.specs.Levels.{IsOutside}
use Rattle.lin_sets.specs.Parts.{IsFirst, IsFound, IsKnown, Stands}
use Rattle.lin_sets.specs.Steps.{EndsNext, FailsNext, IsNextAdd, IsUnfit, MayNotLose, ReturnsNext}
use Rattle.lin_sets.specs.declared.intervals.Intervals.{Intervals}
use Rattle.lin_sets.specs.Intervals.{AreAll}
use Rattle.lin_sets.proofs.Learning.{not_none, one_place}
use Rattle.lin_sets.proofs.OneEvent.{call_before, had_kept, found_kept, new_had, new_ok, not_begun}

pub no_invocation : {body : Body} {name : Name} {reply : Reply} → body ≡ Ok name reply → (call : Call) → body ≡ Invoke call → ⊥
no_invocation is call other = cc

pub no_invocation_failed : {body : Body} {name : Name} → body ≡ Fail name → (call : Call) → body ≡ Invoke call → ⊥
no_invocation_failed is call other = cc

-- reads that found a set of this kind
pub found_at : (h : List Event) (at end : ℕ) (s : List Item) (item other : Item) → IsFound h at end s → Contains s item → (Contains s other → ⊥) → FoundAt h at item other
found_at h at end s item other found has lacks = (Read, Replied.Members s, found.0, (end, found.1), has, lacks)

module _ (all : Intervals) (h : List Event) (event : Event) (told : AreAll all h) (completes : (call : Call) → event.body ≡ Invoke call → ⊥) where
  -- no add of the item up to a place is left, where those that stood fail
  no_add_by : (item : Item) (place : ℕ) → ((at : ℕ) → at ≤ place → Stands all.adds.items at item → IsFailed (h ++ event ∷ []) at) → HasNoAddBy (h ++ event ∷ []) item place
  no_add_by item place fails at upto is =
      let was = call_before h event at (Add item) (not_begun h event completes at (Add item) is) is in
      elim (told.adds.listed at item was) [
        | inl stands ↦ fails at upto stands
        | inr failed ↦ failed_kept h event at failed
      ]

  -- where the first one that stands is later
  none_before : (item : Item) (place first : ℕ) → place_in all.first item ≡ Some first → place < first → HasNoAddBy (h ++ event ∷ []) item place
  none_before item place first is late = no_add_by item place (λ at upto stands.
      let firsts : IsFirst all.adds.items item (Some first) = subst (IsFirst all.adds.items item) is (told.first item) in
      let least = firsts.1 at stands in
      let no : ⊥ = omega (arith, upto, late, least) in
      absurd no)

  none_at_all : (item : Item) (place : ℕ) → place_in all.first item ≡ None → HasNoAddBy (h ++ event ∷ []) item place
  none_at_all item place is = no_add_by item place (λ at upto stands.
      let none : IsFirst all.adds.items item None = subst (IsFirst all.adds.items item) is (told.first item) in
      absurd (none at stands))

  -- what is known of an item was had by an operation
  known_had : (item : Item) (end : ℕ) → known_in all.endings item ≡ Some end → (at : ℕ) × HadAt (h ++ event ∷ []) at item end
  known_had item end is =
      let known : IsKnown h item (Some end) = subst (IsKnown h item) is (told.known item) in
      (known.0.0, had_kept h event known.0.0 item end known.0.1)

  module _ (p : ℕ) (call : Call) (reply : Reply) (returns : ReturnsNext h event p call reply) where
    pub odd : (IsAnswer call reply → ⊥) → IsInConflict (h ++ event ∷ [])
    odd no_answer = inl (p, length h, call, reply, returns.0.called, new_ok h event p call reply returns, no_answer)

  module _ (p : ℕ) (s : List Item) (returns : ReturnsNext h event p Read (Replied.Members s)) where
    new_found : IsFound (h ++ event ∷ []) p (length h) s
    new_found = (returns.0.called, new_ok h event p Read (Replied.Members s) returns)

    pub unfit : IsUnfit all.first all.endings p s → IsInConflict (h ++ event ∷ [])
    unfit (inl none) = inr (inl (p, length h, none.0, new_had h event p Read (Replied.Members s) returns none.0 none.1, none_at_all none.0 (length h) none.2))
    unfit (inr missing) =
        let had = known_had missing.0 missing.1 missing.2 in
        elim missing.4 [
          | inl late ↦ inr (inr (inl (had.0, missing.1, p, length h, missing.0, had.1, (Read, Replied.Members s, new_found.0, new_found.1, missing.3), late)))
          | inr newer ↦ inr (inr (inr (inl (
            had.0,
            missing.1,
            p,
            missing.0,
            newer.0,
            had.1,
            found_at (h ++ event ∷ []) p (length h) s newer.0 missing.0 new_found newer.2 missing.3,
            none_before newer.0 missing.1 newer.1 newer.3 newer.4,
          ))))
        ]

    pub apart : (t : List Item) → Contains all.levels.items t → IsOutside s t → IsOutside t s → IsInConflict (h ++ event ∷ [])
    apart t there out other =
        let read = told.levels.each t there in
        inr (inr (inr (inr (
          p,
          read.0,
          out.0,
          other.0,
          found_at (h ++ event ∷ []) p (length h) s out.0 other.0 new_found out.1 other.2,
          found_at (h ++ event ∷ []) read.0 read.1 t other.0 out.0 (found_kept h event read.0 read.1 t read.2) other.1 out.2,
        ))))

  -- an add that ends now stood until now
  pub stood : (p : ℕ) (item : Item) → EndsNext h event p (Add item) → Stands all.adds.items p item
  stood p item ends =
      let was = call_before h event p (Add item) (not_begun h event completes p (Add item) ends.called) ends.called in
      elim (told.adds.listed p item was) [
        | inl stands ↦ stands
        | inr failed ↦
            let same = one_end (h ++ event ∷ []) p failed.0 (length h) failed.1 event (end_kept h event p failed.0 failed.1 failed.2) ends.ends in
            let inside = end_inside h p failed.0 failed.1 failed.2 in
            let no : ⊥ = omega (arith, same, inside) in
            absurd no
      ]

  module _ (p : ℕ) (item : Item) (fails : FailsNext h event p (Add item)) where
    now_fails : IsFailed (h ++ event ∷ []) p
    now_fails = (length h, event, fails.0.ends, fails.1.0, fails.1.1)

    -- no other one stands up to a place, where the next one is later
    none_but : (next : Option ℕ) (place : ℕ) → place_in all.first item ≡ Some p → IsNextAdd all.adds.items item p next → ((next ≡ None) ⊎ ((at : ℕ) × (next ≡ Some at) × (place < at)))
        → HasNoAddBy (h ++ event ∷ []) item place
    none_but next place first is late = no_add_by item place (λ at upto stands. elim (cases_eq at p) [
      | inl same ↦ subst (IsFailed (h ++ event ∷ [])) (sym same) now_fails
      | inr differ ↦
          let firsts : IsFirst all.adds.items item (Some p) = subst (IsFirst all.adds.items item) first (told.first item) in
          let from = firsts.1 at stands in
          let behind : p < at = omega (arith, from, differ) in
          absurd (by next is late at upto behind stands)
    ])
      where
        by : (next : Option ℕ) → IsNextAdd all.adds.items item p next → ((next ≡ None) ⊎ ((at : ℕ) × (next ≡ Some at) × (place < at)))
            → (at : ℕ) → at ≤ place → p < at → Stands all.adds.items at item → ⊥
        by None none late at upto behind stands = none at behind stands
        by (Some other) some (inl none) at upto behind stands = not_none none
        by (Some other) some (inr late) at upto behind stands =
            let same = one_place late.1 in
            let least = some.2 at behind stands in
            omega (arith, upto, same, least, late.2)

    pub may_not : (next : Option ℕ) → place_in all.first item ≡ Some p → IsNextAdd all.adds.items item p next → MayNotLose all.endings all.levels.items item next → IsInConflict (h ++ event ∷ [])
    may_not next first is lost =
        let had = known_had item lost.0 lost.1 in
        elim lost.2 [
          | inl none ↦ inr (inl (had.0, lost.0, item, had.1, none_but next lost.0 first is (inl none)))
          | inr some ↦ elim some.2 [
            | inl late ↦ inr (inl (had.0, lost.0, item, had.1, none_but next lost.0 first is (inr (some.0, some.1, late))))
            | inr read ↦
                let found = told.levels.each read.0 read.3 in
                let other = known_had read.1 read.2 read.5 in
                inr (inr (inr (inl (
                  other.0,
                  read.2,
                  found.0,
                  read.1,
                  item,
                  other.1,
                  found_at (h ++ event ∷ []) found.0 found.1 read.0 item read.1 (found_kept h event found.0 found.1 read.0 found.2) read.4 read.6,
                  none_but next read.2 first is (inr (some.0, some.1, read.7)),
                ))))
          ]
        ]

-- a read that returned something else than members
pub no_members : (reply : Reply) → ((s : List Item) → reply ≡ Replied.Members s → ⊥) → IsAnswer Read reply → ⊥
no_members (Replied.Members s) other answer = other s refl
no_members reply other answer = absurd answer
