-- One more event by which an operation failed.
use Rattle.std.proofs.Common.{◌≡◌, ◌≢◌, ◌+◌, ◌⊎◌, ◌∷◌, ◌++◌, [], zero, suc, ℕ, List, Option, None, Some, Contains, set, slice_get, length, length-append, inl, inr, refl, sym, ap, subst, ◌∙◌, arith}
use Rattle.std.proofs.lemmas.Bool.{cases_eq}
use Rattle.std.proofs.lemmas.List.{length-set}
use Rattle.lin_events.specs.declared.items.Item.{Item}
use Rattle.lin_events.specs.declared.calls.Call.{Call}
use Rattle.lin_events.specs.declared.calls.Call.TheVariants.{Read, Add}
use Rattle.lin_events.specs.declared.calls.Name.{Name}
use Rattle.lin_events.specs.declared.calls.Reply.{Reply}
use Rattle.lin_events.specs.declared.calls.Reply.TheVariants as Replied
use Rattle.lin_events.specs.declared.events.Event.{Event}
use Rattle.lin_events.specs.declared.events.Body.TheVariants.{Invoke, Ok, Fail}
use Rattle.lin_events.specs.Operations.{IsEnd, IsFailed}
use Rattle.lin_events.specs.lemmas.OneMore.{end_cases, failed_kept, ok_before}
use Rattle.lin_lists.specs.lemmas.Lists.{get_set_cases}
use Rattle.lin_order.specs.Orders.{IsCall}
use Rattle.lin_certificates.specs.SetConflicts.{HadAt}
use Rattle.lin_order.specs.lemmas.OneEnd.{one_call}
use Rattle.lin_sets.specs.Places.{IsPut, place_in}
use Rattle.lin_sets.specs.Endings.{known_in}
use Rattle.lin_sets.specs.declared.endings.Endings.{Endings}
use Rattle.lin_sets.specs.Parts.{AreAdds, AreFree, AreLevels, IsFirst, IsKnown, Stands, without}
use Rattle.lin_sets.specs.Steps.{EndsNext, IsNextAdd, MayLose}
use Rattle.lin_sets.proofs.Free.{known_of}
use Rattle.lin_sets.proofs.Putting.{put_cases}
use Rattle.lin_sets.proofs.OneEvent.{call_kept, call_before, call_at, found_before, not_begun, begun_inside, one_start}
use Rattle.lin_sets.proofs.Pushing.{stands_kept, stands_cases, no_item, one_item}

pub get_set_other : {A : Type 0} (xs : List A) (i : ℕ) (y : A) (k : ℕ) (x : A) → k ≢ i → slice_get xs k ≡ Some x → slice_get (set xs i y) k ≡ Some x
get_set_other [] i y k x differ is = is
get_set_other (z ∷ zs) zero y zero x differ is = absurd (differ refl)
get_set_other (z ∷ zs) zero y (suc k) x differ is = is
get_set_other (z ∷ zs) (suc i) y zero x differ is = is
get_set_other (z ∷ zs) (suc i) y (suc k) x differ is = get_set_other zs i y k x (λ same. differ (ap suc same)) is

module _ (adds : List (Option Item)) (p : ℕ) where
  pub stands_after : (at : ℕ) (item : Item) → Stands (without adds p) at item → (at ≢ p) × Stands adds at item
  stands_after at item stands = elim (get_set_cases (adds ++ None ∷ []) p None at (Some item) stands) [
    | inl here ↦ absurd (no_item here.1)
    | inr other ↦ (
      other.0,
      elim (stands_cases adds None at item other.1) [
        | inl old ↦ old
        | inr new ↦ absurd (no_item new.1)
      ],
    )
  ]

  pub stands_still : (at : ℕ) (item : Item) → at ≢ p → Stands adds at item → Stands (without adds p) at item
  stands_still at item differ stands = get_set_other (adds ++ None ∷ []) p None at (Some item) differ (stands_kept adds None at item stands)

  -- where the first add of an item isn't the one that fails, it stays
  pub firsts_kept : (item : Item) (o : Option ℕ) → (o ≡ Some p → ⊥) → IsFirst adds item o → IsFirst (without adds p) item o
  firsts_kept item None other none = λ at stands. none at (stands_after at item stands).1
  firsts_kept item (Some first) other is = (stands_still first item (λ same. other (ap Some same)) is.0, λ at stands. is.1 at (stands_after at item stands).1)

  -- where it is, the next one is the first
  pub firsts_next : (item : Item) (next : Option ℕ) → IsFirst adds item (Some p) → IsNextAdd adds item p next → IsFirst (without adds p) item next
  firsts_next item None is none = λ at stands.
      let was = stands_after at item stands in
      let from = is.1 at was.1 in
      none at (omega (arith, from, was.0)) was.1
  firsts_next item (Some next) is some = (
    stands_still next item (λ same. let no : ⊥ = omega (arith, some.0, same) in no) some.1,
    λ at stands.
        let was = stands_after at item stands in
        let from = is.1 at was.1 in
        some.2 at (omega (arith, from, was.0)) was.1,
  )

  -- an add at a place adds one item
  pub one_added : (item other : Item) → Stands adds p item → Stands adds p other → item ≡ other
  one_added item other one two = one_item (one_slot (sym one ∙ two))
    where
      one_slot : {a b : Option Item} → Some a ≡ Some b → a ≡ b
      one_slot e = cc

  pub firsts_failed : (old new : List (Item × Option ℕ)) (item : Item) (next : Option ℕ) → place_in old item ≡ Some p → IsNextAdd adds item p next → IsPut old new item next
      → ((other : Item) → IsFirst adds other (place_in old other)) → (other : Item) → IsFirst (without adds p) other (place_in new other)
  firsts_failed old new item next first is put firsts other = elim (put_cases old new item next put other) [
    | inl here ↦
        let firsts_is : IsFirst adds item (Some p) = subst (IsFirst adds item) first (firsts item) in
        subst (IsFirst (without adds p) other) (sym here.1) (subst (λ (i : Item). IsFirst (without adds p) i next) here.0 (firsts_next item next firsts_is is))
    | inr apart ↦ subst (IsFirst (without adds p) other) (sym apart.1) (firsts_kept other (place_in old other) (λ same.
        let its : IsFirst adds item (Some p) = subst (IsFirst adds item) first (firsts item) in
        let others : IsFirst adds other (Some p) = subst (IsFirst adds other) same (firsts other) in
        apart.0 (one_added item other its.0 others.0)) (firsts other))
  ]

module _ (h : List Event) (event : Event) (p : ℕ) (call : Call) (ends : EndsNext h event p call) (completes : (call : Call) → event.body ≡ Invoke call → ⊥) where
  -- an operation that failed now is this one
  failed_cases : (at : ℕ) → IsFailed (h ++ event ∷ []) at → IsFailed h at ⊎ (at ≡ p)
  failed_cases at failed = elim (end_cases h event at failed.0 failed.1 failed.2) [
    | inl old ↦ inl (failed.0, failed.1, old, failed.3, failed.4)
    | inr new ↦ inr (one_start (h ++ event ∷ []) at p (length h) failed.1 event (subst (λ n. IsEnd (h ++ event ∷ []) at n failed.1) new.0 failed.2) ends.ends)
  ]

  pub adds_failed : (adds : List (Option Item)) (name : Name) → event.body ≡ Fail name → AreAdds adds h → AreAdds (without adds p) (h ++ event ∷ [])
  adds_failed adds name is are = record {
    counted = length-set (adds ++ None ∷ []) p None ∙ length-append adds (None ∷ []) ∙ ap (λ n. n + 1) are.counted ∙ sym (length-append h (event ∷ []));
    stand = λ at item stands.
        let was = stands_after adds p at item stands in
        let add = are.stand at item was.1 in (
          call_kept h event at (Add item) add.0,
          λ failed. elim (failed_cases at failed) [
            | inl old ↦ add.1 old
            | inr now ↦ was.0 now
          ],
        );
    listed = λ at item called.
        let was = call_before h event at (Add item) (not_begun h event completes at (Add item) called) called in
        elim (are.listed at item was) [
          | inl stands ↦ elim (cases_eq at p) [
            | inl same ↦ inr (length h, event, subst (λ n. IsEnd (h ++ event ∷ []) n (length h) event) (sym same) ends.ends, name, is)
            | inr differ ↦ inl (stands_still adds p at item differ stands)
          ]
          | inr failed ↦ inr (failed_kept h event at failed)
        ];
  }

  -- where it is no add, those that stand do still
  pub adds_left : (adds : List (Option Item)) → ((item : Item) → call ≡ Add item → ⊥) → AreAdds adds h → AreAdds (adds ++ None ∷ []) (h ++ event ∷ [])
  adds_left adds no_add are = record {
    counted = length-append adds (None ∷ []) ∙ ap (λ n. n + 1) are.counted ∙ sym (length-append h (event ∷ []));
    stand = λ at item stands. elim (stands_cases adds None at item stands) [
      | inr new ↦ absurd (no_item new.1)
      | inl old ↦
          let add = are.stand at item old in (
            call_kept h event at (Add item) add.0,
            λ failed. elim (failed_cases at failed) [
              | inl was ↦ add.1 was
              | inr now ↦
                  let its = subst (λ n. IsCall (h ++ event ∷ []) n (Add item)) now (call_kept h event at (Add item) add.0) in
                  no_add item (one_call (h ++ event ∷ []) p call (Add item) ends.called its)
            ],
          )
    ];
    listed = λ at item called. elim (are.listed at item (call_before h event at (Add item) (not_begun h event completes at (Add item) called) called)) [
      | inl stands ↦ inl (stands_kept adds None at item stands)
      | inr failed ↦ inr (failed_kept h event at failed)
    ];
  }

module _ (h : List Event) (event : Event) (no_ok : (name : Name) (reply : Reply) → event.body ≡ Ok name reply → ⊥) where
  -- no operations conflict once an item has another first add
  pub free_failed : (old new : List (Item × Option ℕ)) (endings : Endings) (levels : List (List Item)) (item : Item) (next : Option ℕ) → IsPut old new item next → MayLose endings levels item next
      → AreLevels levels h → ((other : Item) → IsKnown h other (known_in endings other)) → AreFree old endings h → AreFree new endings (h ++ event ∷ [])
  free_failed old new endings levels item next put may are known free = record {
    answers = λ at end call reply is ok.
        let was = ok_before h event no_ok at end reply ok in
        free.answers at end call reply (call_at h event at call (begun_inside h event at end was.0 was.1) is) was;
    added = λ other end since. elim (put_cases old new item next put other) [
      | inl here ↦
          let lost = may end (ap (known_in endings) here.0 ∙ since) in
          (lost.0, here.1 ∙ lost.1, lost.2)
      | inr apart ↦ let add = free.added other end since in (add.0, apart.1 ∙ add.1, add.2)
    ];
    fits = λ at until s other end found since lacks.
        let was = found_before h event no_ok at until s found in
        let fit = free.fits at until s other end was since lacks in (
          fit.0,
          λ inside there. elim (put_cases old new item next put inside) [
            | inl here ↦
                let has : Contains s item = subst (Contains s) (sym here.0) there in
                let had : HadAt h at item until = (Read, Replied.Members s, was.0, was.1, has) in
                let is = known_of h item (known_in endings item) (known item) at until had in
                let lost = may is.0 is.1 in
                (lost.0, here.1 ∙ lost.1, lost.3 s other end (are.all at until s was) has since lacks)
            | inr apart ↦ let add = fit.1 inside there in (add.0, apart.1 ∙ add.1, add.2)
          ],
        );
  }
