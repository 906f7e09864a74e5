-- Where nothing that is told conflicts, no operations do.
use Rattle.std.proofs.Common.{◌≡◌, ◌<◌, ◌≤◌, ◌⊎◌, ℕ, List, Option, None, Some, AllPairs, Contains, get_or, inl, inr, refl, sym, ap, subst, ◌∙◌, arith}
use Rattle.std.proofs.lemmas.Bool.{cases_order}
use Rattle.std.proofs.lemmas.List.{get_or_default}
use Rattle.lin_events.specs.declared.items.Item.{Item}
use Rattle.lin_events.specs.declared.calls.Call.{Call}
use Rattle.lin_events.specs.declared.calls.Call.TheVariants.{Read}
use Rattle.lin_events.specs.declared.calls.Reply.{Reply}
use Rattle.lin_events.specs.declared.calls.Reply.TheVariants as Replied
use Rattle.lin_events.specs.declared.events.Event.{Event}
use Rattle.lin_events.specs.Operations.{IsOk}
use Rattle.lin_order.specs.Orders.{IsCall}
use Rattle.lin_certificates.specs.SetConflicts.{Has, HadAt, Lacks, FoundAt}
use Rattle.lin_sets.specs.Conflicts.{HasNoAddBy, IsInConflict}
use Rattle.lin_sets.specs.Places.{place_in}
use Rattle.lin_sets.specs.Endings.{known_in}
use Rattle.lin_sets.specs.Levels.{IsBelow}
use Rattle.lin_sets.specs.Parts.{IsFirst, IsFound, IsKnown}
use Rattle.lin_sets.specs.declared.intervals.Intervals.{Intervals}
use Rattle.lin_sets.specs.Intervals.{AreAll}

-- of two elements one comes first
pub pair_in : {A : Type 0} (R : A → A → Type 0) (xs : List A) (x y : A) → AllPairs R xs → Contains xs x → Contains xs y → (x ≡ y) ⊎ (R x y ⊎ R y x)
pair_in R xs x y pairs at_x at_y = elim (cases_order at_x.0 at_y.0) [
  | inl same ↦ inl (sym at_x.2 ∙ ap (λ n. get_or xs n x) same ∙ get_or_default xs at_y.0 x y at_y.1 ∙ at_y.2)
  | inr differ ↦ inr (elim differ [
    | inl below ↦
        let pair = pairs at_x.0 at_y.0 x below at_y.1 in
        inl (subst (λ a. R a y) at_x.2 (subst (R (get_or xs at_x.0 x)) (get_or_default xs at_y.0 x y at_y.1 ∙ at_y.2) pair))
    | inr above ↦
        let pair = pairs at_y.0 at_x.0 x above at_x.1 in
        inr (subst (λ a. R a x) (get_or_default xs at_y.0 x y at_y.1 ∙ at_y.2) (subst (R (get_or xs at_y.0 x)) at_x.2 pair))
  ])
]

-- what is known of an item that the set had
pub known_of : (h : List Event) (item : Item) (o : Option ℕ) → IsKnown h item o → (at end : ℕ) → HadAt h at item end → (known : ℕ) × (o ≡ Some known) × (known ≤ end)
known_of h item None is at end had = absurd (is at end had)
known_of h item (Some known) is at end had = (known, refl, is.1 at end had)

-- an operation that found a set without an item is a read
pub lacking : (h : List Event) (at end : ℕ) (item : Item) (call : Call) (reply : Reply) → IsCall h at call → IsOk h at end reply → Lacks call reply item
    → (s : List Item) × IsFound h at end s × (Contains s item → ⊥) × (reply ≡ Replied.Members s) × (call ≡ Read)
lacking h at end item Read (Replied.Members s) is ok lacks = (s, (is, ok), lacks, refl, refl)
lacking h at end item Read reply is ok lacks = absurd lacks
lacking h at end item call reply is ok lacks = absurd lacks

-- one that found it with another is so too
pub finding : (h : List Event) (at : ℕ) (item other : Item) → FoundAt h at item other → (s : List Item) × ((end : ℕ) × IsFound h at end s) × Contains s item × (Contains s other → ⊥)
finding h at item other found =
    let read = lacking h at found.3.0 other found.0 found.1 found.2 found.3.1 found.5 in
    (read.0, (found.3.0, read.1), holds found.0 found.1 read.0 read.4 read.3 found.4, read.2)
  where
    holds : (call : Call) (reply : Reply) (s : List Item) → call ≡ Read → reply ≡ Replied.Members s → Has call reply item → Contains s item
    holds call reply s is same has = subst (λ r. Has Read r item) same (subst (λ c. Has c reply item) is has)

module _ (all : Intervals) (h : List Event) (told : AreAll all h) where
  known : (item : Item) (at end : ℕ) → HadAt h at item end → (since : ℕ) × (known_in all.endings item ≡ Some since) × (since ≤ end)
  known item at end had = known_of h item (known_in all.endings item) (told.known item) at end had

  -- an item was added by the place, so not all its adds up to there failed
  added : (item : Item) (at place : ℕ) → place_in all.first item ≡ Some at → at ≤ place → HasNoAddBy h item place → ⊥
  added item at place first upto none =
      let is : IsFirst all.adds.items item (Some at) = subst (IsFirst all.adds.items item) first (told.first item) in
      let add = told.adds.stand at item is.0 in
      add.1 (none at upto add.0)

  -- a read that lacks an item that was known was invoked early, and what it found was added early
  fits : (at until : ℕ) (s : List Item) (item : Item) (other end : ℕ) → IsFound h at until s → (Contains s item → ⊥) → HadAt h other item end
      → (end < at → ⊥) × ((found : Item) → Contains s found → HasNoAddBy h found end → ⊥)
  fits at until s item other end found lacks had =
      let since = known item other end had in
      let fit = told.free.fits at until s item since.0 found since.1 lacks in (
        λ before. fit.0 (omega (arith, since.2, before)),
        λ inside there none. let add = fit.1 inside there in added inside add.0 end add.1 (omega (arith, add.2, since.2)) none,
      )

  pub no_conflict : IsInConflict h → ⊥
  no_conflict (inl odd) = odd.6 (told.free.answers odd.0 odd.1 odd.2 odd.3 odd.4 odd.5)
  no_conflict (inr (inl unadded)) =
      let since = known unadded.2 unadded.0 unadded.1 unadded.3 in
      let add = told.free.added unadded.2 since.0 since.1 in
      added unadded.2 add.0 unadded.1 add.1 (omega (arith, add.2, since.2)) unadded.4
  no_conflict (inr (inr (inl lost))) =
      let lacked = lost.6 in
      let read = lacking h lost.2 lost.3 lost.4 lacked.0 lacked.1 lacked.2 lacked.3 lacked.4 in
      (fits lost.2 lost.3 read.0 lost.4 lost.0 lost.1 read.1 read.2 lost.5).0 lost.7
  no_conflict (inr (inr (inr (inl passed)))) =
      let read = finding h passed.2 passed.4 passed.3 passed.6 in
      (fits passed.2 read.1.0 read.0 passed.3 passed.0 passed.1 read.1.1 read.3 passed.5).1 passed.4 read.2 passed.7
  no_conflict (inr (inr (inr (inr apart)))) =
      let one = finding h apart.0 apart.2 apart.3 apart.4 in
      let other = finding h apart.1 apart.3 apart.2 apart.5 in
      let s_there = told.levels.all apart.0 one.1.0 one.0 one.1.1 in
      let t_there = told.levels.all apart.1 other.1.0 other.0 other.1.1 in
      elim (pair_in IsBelow all.levels.items one.0 other.0 told.levels.rising s_there t_there) [
        | inl same ↦ other.3 (subst (λ (l : List Item). Contains l apart.2) same one.2)
        | inr inside ↦ elim inside [
          | inl below ↦ other.3 (below.0 apart.2 one.2)
          | inr above ↦ one.3 (above.0 apart.3 other.2)
        ]
      ]
