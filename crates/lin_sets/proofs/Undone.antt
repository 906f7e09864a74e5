-- All that is told, with the last event taken back.
use Rattle.std.proofs.Common.{◌≡◌, ◌<◌, ◌≤◌, ◌-◌, ◌⊎◌, ◌∷◌, ◌++◌, [], ℕ, List, Option, None, Some, set, take, length, inl, inr, refl, sym, ap, subst, ◌∙◌, arith}
use Rattle.std.specs.Global.{Vec}
use Rattle.lin_events.specs.declared.items.Item.{Item}
use Rattle.lin_events.specs.declared.calls.Call.{Call}
use Rattle.lin_events.specs.declared.calls.Call.TheVariants.{Add}
use Rattle.lin_events.specs.declared.events.Event.{Event}
use Rattle.lin_events.specs.declared.events.Body.TheVariants.{Invoke, Ok}
use Rattle.lin_events.specs.declared.events.Body.{Body}
use Rattle.lin_events.specs.declared.calls.Name.{Name}
use Rattle.lin_events.specs.declared.calls.Reply.TheVariants as Replied
use Rattle.lin_events.specs.Operations.{IsEnd}
use Rattle.lin_events.specs.lemmas.OneMore.{end_cases, end_inside, failed_before, invoked}
use Rattle.lin_order.specs.Orders.{IsCall}
use Rattle.lin_order.specs.lemmas.OneEnd.{one_call}
use Rattle.lin_sets.specs.declared.openings.Opened.{Opened}
use Rattle.lin_sets.specs.declared.changes.Change.{Change}
use Rattle.lin_sets.specs.declared.changes.Change.TheVariants.{Invoked, Found, FoundAgain, Failed, Ended}
use Rattle.lin_sets.specs.Openings.{IsRestored}
use Rattle.lin_sets.specs.Places.{IsLeft, IsListed, IsLowered, place_in}
use Rattle.lin_sets.specs.Endings.{AreBefore, AreKept, AreListed, known_in}
use Rattle.lin_sets.specs.declared.endings.Endings.{Endings}
use Rattle.lin_sets.specs.Levels.{AreWithout}
use Rattle.lin_sets.specs.Parts.{AreAdds, AreLevels, AreReads, IsFirst, IsFound, IsKnown}
use Rattle.lin_sets.specs.Changes.{AreChanges, Makes}
use Rattle.lin_sets.specs.Steps.{FailsNext}
use Rattle.lin_sets.specs.declared.intervals.Intervals.{Intervals}
use Rattle.lin_sets.specs.Intervals.{AreAll}
use Rattle.lin_sets.proofs.Learning.{one_place}
use Rattle.lin_sets.proofs.Putting.{put_cases, put_listed}
use Rattle.lin_sets.proofs.OneEvent.{call_kept, not_begun}
use Rattle.lin_sets.proofs.Refusing.{no_invocation, no_invocation_failed}
use Rattle.lin_sets.proofs.Whole.{no_ok_invoked, no_fail_invoked, no_ok_failed, no_fail_ok}
use Rattle.lin_sets.proofs.Acting.{no_read_now, reads_fewer, reads_undone}
use Rattle.lin_sets.proofs.Undoing.{adds_restored, adds_undone, called_there, changes_undone, firsts_left, firsts_restored, firsts_undone, free_undone, known_before, known_undone, last_makes, latest_restored, latest_undone, levels_before, levels_fewer, levels_undone, noted_undone, taken_many}

pub add_cases : (call : Call) → ((item : Item) × (call ≡ Add item)) ⊎ ((item : Item) → call ≡ Add item → ⊥)
add_cases (Add item) = inl (item, refl)
add_cases call = inr (λ item same. cc)

-- what had an entry has one
left_listed : (old new : List (Item × Option ℕ)) (item : Item) (place : ℕ) → IsLeft old new item place → (other : Item) → IsListed old other → IsListed new other
left_listed old new item place (inl kept) other listed = subst (λ l. IsListed l other) (sym kept.1) listed
left_listed old new item place (inr left) other listed = put_listed old new item None left.1 other listed

lowered_listed : (old new : List (Item × Option ℕ)) (item : Item) (place : ℕ) → IsListed old item → IsLowered old new item place → (other : Item) → IsListed old other → IsListed new other
lowered_listed old new item place its (inl kept) other listed = subst (λ l. IsListed l other) (sym kept.3) listed
lowered_listed old new item place its (inr lowered) other listed = put_listed old new item (Some place) (lowered.1 its) other listed

module _ (old : Intervals) (h : List Event) (event : Event) (all : AreAll old (h ++ event ∷ [])) (adds : Vec (Option Item)) (taken : adds.items ≡ take (length h) old.adds.items)
    (changes : Vec Change) (change : Change) (split : old.changes.items ≡ changes.items ++ change ∷ []) where
  were : AreChanges (changes.items ++ change ∷ []) (h ++ event ∷ [])
  were = subst (λ l. AreChanges l (h ++ event ∷ [])) split all.changes

  pub makes : Makes h event change
  makes = last_makes h event changes.items change were

  left_changes : AreChanges changes.items h
  left_changes = changes_undone h event changes.items change were

  known_early : (endings : Endings) → ((item : Item) → IsKnown h item (known_in endings item)) → (item : Item) (end : ℕ) → known_in endings item ≡ Some end → end < length h
  known_early endings known item end is =
      let now : IsKnown h item (Some end) = subst (IsKnown h item) is (known item) in
      end_inside h now.0.0 end now.0.1.3.0 now.0.1.3.1

  module _ (completes : (call : Call) → event.body ≡ Invoke call → ⊥) where
    no_add : (item : Item) → IsCall (h ++ event ∷ []) (length h) (Add item) → ⊥
    no_add item there = not_begun h event completes (length h) (Add item) there refl

    ended_firsts : (item : Item) → IsFirst adds.items item (place_in old.first item)
    ended_firsts item = subst (λ l. IsFirst l item (place_in old.first item)) (sym taken) (firsts_undone h event old.adds.items all.adds no_add item (place_in old.first item) (all.first item))

    ended : (endings : Endings) (levels : Vec (List Item)) (reads : Vec (ℕ × List Item)) → AreAdds adds.items h → AreLevels levels.items h → AreReads reads.items h → AreListed endings → AreKept old.endings endings (length h) → AreBefore (length h) endings
        → AreAll (record { openings = old.openings; adds = adds; first = old.first; endings = endings; levels = levels; changes = changes; reads = reads }) h
    ended endings levels reads adds_are levels_are reads_are listed kept before = record {
      opened = latest_undone h event completes old.openings all.opened;
      changes = left_changes;
      adds = adds_are;
      first = ended_firsts;
      noted = noted_undone h event old.first old.first (λ item is. is) all.noted;
      known = known_undone h event old.endings endings kept before all.known;
      listed = listed;
      levels = levels_are;
      reads = reads_are;
      free = free_undone h event old.first old.first old.endings endings (λ item at end is upto early. (at, is, upto)) (λ item end is. (kept.left item end is, before item end is)) all.free;
    }

  pub undone_ended : change ≡ Ended → (endings : Endings) → AreListed endings → AreKept old.endings endings (length h) → AreBefore (length h) endings
      → AreAll (record { openings = old.openings; adds = adds; first = old.first; endings = endings; levels = old.levels; changes = changes; reads = old.reads }) h
  undone_ended is endings listed kept before =
      let made = subst (Makes h event) is makes in
      ended made.0 endings old.levels old.reads
      (subst (λ l. AreAdds l h) (sym taken) (adds_undone h event old.adds.items all.adds (λ at item failed called. elim (end_cases h event at failed.0 failed.1 failed.2) [
        | inl was ↦ (failed.0, failed.1, was, failed.3, failed.4)
        | inr now ↦
            let same : failed.1 ≡ event = sym now.1 in
            let ends = subst (λ (x : Event). IsEnd (h ++ event ∷ []) at (length h) x) same (subst (λ k. IsEnd (h ++ event ∷ []) at k failed.1) now.0 failed.2) in
            absurd (made.2 at item (record { ends = ends; called = call_kept h event at (Add item) called }, (failed.3, ap (λ (x : Event). x.body) (sym same) ∙ failed.4)))
      ])))
      (levels_undone h event old.levels.items (λ at s returns. absurd (made.1 at s returns)) all.levels) (reads_undone h event made.1 old.reads.items all.reads) listed kept before

  pub undone_found : (s : List Item) → change ≡ Found s → (endings : Endings) (levels : Vec (List Item)) (reads : Vec (ℕ × List Item)) → AreWithout old.levels.items levels.items s → reads.items ≡ take (length old.reads.items - 1) old.reads.items
      → AreListed endings → AreKept old.endings endings (length h) → AreBefore (length h) endings
      → AreAll (record { openings = old.openings; adds = adds; first = old.first; endings = endings; levels = levels; changes = changes; reads = reads }) h
  undone_found s is endings levels reads without fewer listed kept before =
      let made = subst (Makes h event) is makes in
      ended (no_invocation made.1.1.1) endings levels reads
      (subst (λ l. AreAdds l h) (sym taken) (adds_undone h event old.adds.items all.adds (λ at item failed called. failed_before h event (no_fail_ok made.1.1.1) at failed)))
      (levels_fewer h event old.levels.items levels.items made.0 s made.1 made.2 without all.levels) (reads_fewer h event made.0 s made.1 old.reads.items reads.items fewer all.reads) listed kept before

  pub undone_again : change ≡ FoundAgain → (endings : Endings) (reads : Vec (ℕ × List Item)) → reads.items ≡ take (length old.reads.items - 1) old.reads.items
      → AreListed endings → AreKept old.endings endings (length h) → AreBefore (length h) endings
      → AreAll (record { openings = old.openings; adds = adds; first = old.first; endings = endings; levels = old.levels; changes = changes; reads = reads }) h
  undone_again is endings reads fewer listed kept before =
      let made = subst (Makes h event) is makes in
      ended (no_invocation made.2.1.1) endings old.levels reads
      (subst (λ l. AreAdds l h) (sym taken) (adds_undone h event old.adds.items all.adds (λ at item failed called. failed_before h event (no_fail_ok made.2.1.1) at failed)))
      (levels_undone h event old.levels.items (λ at t returns. (made.3.0, made.3.1, subst (IsFound h made.3.0 made.3.1) (same_members made.2.1.1 returns.1.1) made.3.2)) all.levels)
      (reads_fewer h event made.0 made.1 made.2 old.reads.items reads.items fewer all.reads) listed kept before
    where
      same_members : {body : Body} {name other : Name} {a b : List Item} → body ≡ Ok name (Replied.Members a) → body ≡ Ok other (Replied.Members b) → a ≡ b
      same_members one two = cc

  pub undone_failed : (p : ℕ) (item : Item) → change ≡ Failed p item → (restored : Vec (Option Item)) (first : List (Item × Option ℕ)) → (p < length adds.items → restored.items ≡ set adds.items p (Some item)) → IsLowered old.first first item p
      → AreAll (record { openings = old.openings; adds = restored; first = first; endings = old.endings; levels = old.levels; changes = changes; reads = old.reads }) h
  undone_failed p item is restored first put lowered =
      let fails : FailsNext h event p (Add item) = subst (Makes h event) is makes in
      let completes = no_invocation_failed fails.1.1 in
      let no_ok = no_ok_failed fails.1.1 in
      let its = all.noted p item fails.0.called in
      let later : p < length h = fails.0.ends.later in
      let same : restored.items ≡ set (take (length h) old.adds.items) p (Some item) = put (subst (λ l. p < length l) (sym taken) (subst (λ k. p < k) (sym (taken_many h event old.adds.items all.adds)) later)) ∙ ap (λ l. set l p (Some item)) taken in
      let known : (other : Item) → IsKnown h other (known_in old.endings other) = λ other. known_before h event no_ok other (known_in old.endings other) (all.known other) in
      record {
        opened = latest_undone h event completes old.openings all.opened;
        changes = left_changes;
        adds = subst (λ l. AreAdds l h) (sym same) (adds_restored h event old.adds.items all.adds p item fails);
        first = λ other. subst (λ l. IsFirst l other (place_in first other)) (sym same) (firsts_restored h event old.adds.items all.adds p item fails old.first first its lowered all.first
            (λ third there. no_add completes third (called_there h event old.adds.items all.adds third (subst (IsFirst old.adds.items third) there (all.first third)))) other);
        noted = noted_undone h event old.first first (lowered_listed old.first first item p its lowered) all.noted;
        known = known;
        listed = all.listed;
        levels = levels_before h event no_ok old.levels.items all.levels;
        reads = reads_undone h event (no_read_now h event no_ok) old.reads.items all.reads;
        free = free_undone h event old.first first old.endings old.endings (keeps lowered its) (λ other end since. (since, known_early old.endings known other end since)) all.free;
      }
    where
      keeps : IsLowered old.first first item p → IsListed old.first item → (other : Item) (at end : ℕ) → place_in old.first other ≡ Some at → at ≤ end → end < length h → (early : ℕ) × (place_in first other ≡ Some early) × (early ≤ end)
      keeps (inl kept) its other at end since upto early = (at, ap (λ l. place_in l other) kept.3 ∙ since, upto)
      keeps (inr lower) its other at end since upto early = elim (put_cases old.first first item (Some p) (lower.1 its) other) [
        | inl here ↦ let below = lower.0 at (ap (place_in old.first) here.0 ∙ since) in (p, here.1, omega (arith, below, upto))
        | inr apart ↦ (at, apart.1 ∙ since, upto)
      ]

  pub undone_invoked : (process : ℕ) (call : Call) (before : Option Opened) → change ≡ Invoked process call before → (openings : List (ℕ × Opened)) (first : List (Item × Option ℕ)) (at : ℕ) → at ≡ length h → IsRestored old.openings openings process before
      → ((item : Item) → call ≡ Add item → IsLeft old.first first item at) → (((item : Item) → call ≡ Add item → ⊥) → first ≡ old.first)
      → AreAll (record { openings = openings; adds = adds; first = first; endings = old.endings; levels = old.levels; changes = changes; reads = old.reads }) h
  undone_invoked process call before is openings first at place restored add other =
      let made = subst (Makes h event) is makes in
      let no_ok = no_ok_invoked made.1 in
      let known : (item : Item) → IsKnown h item (known_in old.endings item) = λ item. known_before h event no_ok item (known_in old.endings item) (all.known item) in
      record {
        opened = latest_restored h event old.openings openings process call before made.0 made.1 made.2 restored all.opened;
        changes = left_changes;
        adds = subst (λ l. AreAdds l h) (sym taken) (adds_undone h event old.adds.items all.adds (λ k item failed called. failed_before h event (no_fail_invoked made.1) k failed));
        first = λ item. subst (λ l. IsFirst l item (place_in first item)) (sym taken) (firsts made.1 item);
        noted = noted_undone h event old.first first listed all.noted;
        known = known;
        listed = all.listed;
        levels = levels_before h event no_ok old.levels.items all.levels;
        reads = reads_undone h event (no_read_now h event no_ok) old.reads.items all.reads;
        free = free_undone h event old.first first old.endings old.endings keeps (λ item end since. (since, known_early old.endings known item end since)) all.free;
      }
    where
      begun : event.body ≡ Invoke call → IsCall (h ++ event ∷ []) (length h) call
      begun same = (event.process, event.key, (invoked h event call same).begins)

      firsts : event.body ≡ Invoke call → (item : Item) → IsFirst (take (length h) old.adds.items) item (place_in first item)
      firsts same item = elim (add_cases call) [
        | inl adds_it ↦ firsts_left h event old.adds.items all.adds old.first first adds_it.0 (subst (IsCall (h ++ event ∷ []) (length h)) adds_it.1 (begun same))
            (subst (IsLeft old.first first adds_it.0) place (add adds_it.0 adds_it.1)) all.first item
        | inr none ↦ subst (λ l. IsFirst (take (length h) old.adds.items) item (place_in l item)) (sym (other none))
            (firsts_undone h event old.adds.items all.adds (λ third there. none third (one_call (h ++ event ∷ []) (length h) call (Add third) (begun same) there)) item (place_in old.first item) (all.first item))
      ]

      listed : (item : Item) → IsListed old.first item → IsListed first item
      listed item was = elim (add_cases call) [
        | inl adds_it ↦ left_listed old.first first adds_it.0 at (add adds_it.0 adds_it.1) item was
        | inr none ↦ subst (λ l. IsListed l item) (sym (other none)) was
      ]

      keeps_left : (item : Item) → IsLeft old.first first item at → (third : Item) (k end : ℕ) → place_in old.first third ≡ Some k → k ≤ end → end < length h → (early : ℕ) × (place_in first third ≡ Some early) × (early ≤ end)
      keeps_left item (inl kept) third k end since upto early = (k, ap (λ l. place_in l third) kept.1 ∙ since, upto)
      keeps_left item (inr left) third k end since upto early = elim (put_cases old.first first item None left.1 third) [
        | inl here ↦
            let same : at ≡ k = one_place (sym left.0 ∙ ap (place_in old.first) here.0 ∙ since) in
            let no : ⊥ = omega (arith, same, upto, early, place) in
            absurd no
        | inr apart ↦ (k, apart.1 ∙ since, upto)
      ]

      keeps : (item : Item) (k end : ℕ) → place_in old.first item ≡ Some k → k ≤ end → end < length h → (early : ℕ) × (place_in first item ≡ Some early) × (early ≤ end)
      keeps item k end since upto early = elim (add_cases call) [
        | inl adds_it ↦ keeps_left adds_it.0 (add adds_it.0 adds_it.1) item k end since upto early
        | inr none ↦ (k, ap (λ l. place_in l item) (other none) ∙ since, upto)
      ]
