-- All that is told stays, where no more was changed than room was made.
use Rattle.std.proofs.Common.{◌≡◌, ◌<◌, Result, Ok, Err, OnErr, ℕ, List, Option, AllPairs, take, length, refl, sym, ap, subst, ◌∙◌}
use Rattle.std.specs.Global.{Vec}
use Rattle.lin_events.specs.declared.items.Item.{Item}
use Rattle.lin_events.specs.declared.events.Event.{Event}
use Rattle.lin_sets.specs.declared.changes.Change.{Change}
use Rattle.lin_sets.specs.declared.endings.Endings.{Endings}
use Rattle.lin_sets.specs.declared.intervals.Intervals.{Intervals}
use Rattle.lin_sets.specs.Changes.{AreChanges}
use Rattle.lin_sets.specs.Endings.{AreBefore, AreBy, AreListed, AreSame}
use Rattle.lin_sets.specs.Intervals.{AreAll, IsAsBefore, IsStill}
use Rattle.lin_sets.specs.Levels.{AreSameLevels, IsBelow}
use Rattle.lin_sets.specs.Parts.{AreAdds, AreReads, IsFirst, IsKnown}
use Rattle.lin_sets.specs.Places.{IsListed, place_in}
use Rattle.lin_sets.proofs.Forgetting.{before_by}
use Rattle.lin_sets.proofs.Returning.{known_inside as known_before_end}

pub same_all : (old : Intervals) (adds : Vec (Option Item)) (first : List (Item × Option ℕ)) (endings : Endings) (levels : Vec (List Item)) (changes : Vec Change) (reads : Vec (ℕ × List Item)) → adds.items ≡ old.adds.items → changes.items ≡ old.changes.items → reads.items ≡ old.reads.items
    → ((item : Item) → place_in first item ≡ place_in old.first item) → ((item : Item) → IsListed old.first item → IsListed first item)
    → ((h : List Event) → AreAll old h → AreListed endings × AreSame old.endings endings) → ((h : List Event) → AreAll old h → AreSameLevels old.levels.items levels.items)
    → IsAsBefore old (record { openings = old.openings; adds = adds; first = first; endings = endings; levels = levels; changes = changes; reads = reads })
same_all old adds first endings levels changes reads adds_same changes_same reads_same places listed ends sets = (
  ap (λ l. length l) adds_same,
  λ h all.
      let known = ends h all in
      let sets_are = sets h all in
      record {
        opened = all.opened;
        changes = subst (λ l. AreChanges l h) (sym changes_same) all.changes;
        adds = subst (λ l. AreAdds l h) (sym adds_same) all.adds;
        first = λ item. subst (λ l. IsFirst l item (place_in first item)) (sym adds_same) (subst (IsFirst old.adds.items item) (sym (places item)) (all.first item));
        noted = λ at item called. listed item (all.noted at item called);
        known = λ item. subst (IsKnown h item) (sym (known.1 item)) (all.known item);
        listed = known.0;
        levels = record {
          each = λ s there. all.levels.each s (sets_are.left s there);
          all = λ at end s found. sets_are.kept s (all.levels.all at end s found);
          rising = sets_are.rising;
        };
        reads = subst (λ l. AreReads l h) (sym reads_same) all.reads;
        free = record {
          answers = all.free.answers;
          added = λ item end is. let add = all.free.added item end (sym (known.1 item) ∙ is) in (add.0, places item ∙ add.1, add.2);
          fits = λ at until s item end found is lacks.
              let fit = all.free.fits at until s item end found (sym (known.1 item) ∙ is) lacks in
              (fit.0, λ other there. let add = fit.1 other there in (add.0, places other ∙ add.1, add.2));
        };
      },
)

-- twice as before
pub still_as_before : (old then new : Intervals) → IsAsBefore old then → IsAsBefore then new → IsAsBefore old new
still_as_before old then new first second = (second.0 ∙ first.0, λ h all. second.1 h (first.1 h all))

-- sets that weren't touched
pub levels_alike : (old : Intervals) (h : List Event) → AreAll old h → AreSameLevels old.levels.items old.levels.items
levels_alike old h all = record { left = λ t there. there; kept = λ t there. there; rising = all.levels.rising }

pub ends_alike : (old : Intervals) (h : List Event) → AreAll old h → AreListed old.endings × AreSame old.endings old.endings
ends_alike old h all = (all.listed, λ item. refl)

-- where room was made alone
pub room_made_for_reads : (old : Intervals) (adds : Vec (Option Item)) (changes : Vec Change) (reads : Vec (ℕ × List Item)) → adds.items ≡ old.adds.items → changes.items ≡ old.changes.items → reads.items ≡ old.reads.items
    → IsAsBefore old (record { openings = old.openings; adds = adds; first = old.first; endings = old.endings; levels = old.levels; changes = changes; reads = reads })
room_made_for_reads old adds changes reads adds_same changes_same reads_same =
    same_all old adds old.first old.endings old.levels changes reads adds_same changes_same reads_same (λ item. refl) (λ item is. is) (ends_alike old) (levels_alike old)

pub room_made : (old : Intervals) (adds : Vec (Option Item)) (changes : Vec Change) → adds.items ≡ old.adds.items → changes.items ≡ old.changes.items
    → IsAsBefore old (record { openings = old.openings; adds = adds; first = old.first; endings = old.endings; levels = old.levels; changes = changes; reads = old.reads })
room_made old adds changes adds_same changes_same = room_made_for_reads old adds changes old.reads adds_same changes_same refl

-- intervals as before are still those of the events
pub still : (old new : Intervals) → IsAsBefore old new → IsStill old new
still old new same = (same.0, λ h told. subst (λ n. AreAll new (take n h)) (sym same.0) (same.1 _ told))

pub on_err_weaker : {A E : Type 0} (r : Result A E) (P Q : Type 0) → (P → Q) → OnErr r P → OnErr r Q
on_err_weaker (Ok x) P Q weaker said = tt
on_err_weaker (Err e) P Q weaker said = weaker said

-- where a call added nothing that is known, or what was put among the levels was taken out again
module _ (old : Intervals) (adds : Vec (Option Item)) (changes : Vec Change) (adds_same : adds.items ≡ old.adds.items) (changes_same : changes.items ≡ old.changes.items) where
  pub first_refused : (first : List (Item × Option ℕ)) → ((item : Item) → place_in first item ≡ place_in old.first item) → ((item : Item) → IsListed old.first item → IsListed first item)
      → IsAsBefore old (record { openings = old.openings; adds = adds; first = first; endings = old.endings; levels = old.levels; changes = changes; reads = old.reads })
  first_refused first places listed = same_all old adds first old.endings old.levels changes old.reads adds_same changes_same refl places listed (ends_alike old) (levels_alike old)

  pub level_refused : (levels : Vec (List Item)) (reads : Vec (ℕ × List Item)) → levels.items ≡ old.levels.items → reads.items ≡ old.reads.items
      → IsAsBefore old (record { openings = old.openings; adds = adds; first = old.first; endings = old.endings; levels = levels; changes = changes; reads = reads })
  level_refused levels reads same kept = same_all old adds old.first old.endings levels changes reads adds_same changes_same kept (λ item. refl) (λ item is. is) (ends_alike old)
      (λ h all. subst (AreSameLevels old.levels.items) (sym same) (levels_alike old h all))

  pub learning_refused : (end : ℕ) → end ≡ length old.adds.items → (endings : Endings) (levels : Vec (List Item)) (reads : Vec (ℕ × List Item)) → (AreListed old.endings → AreBy end old.endings → AreListed endings) → (AreListed old.endings → AreBefore end old.endings → AreSame old.endings endings)
      → (AllPairs IsBelow old.levels.items → AreSameLevels old.levels.items levels.items) → reads.items ≡ old.reads.items
      → IsAsBefore old (record { openings = old.openings; adds = adds; first = old.first; endings = endings; levels = levels; changes = changes; reads = reads })
  learning_refused end place endings levels reads listed same sets kept = same_all old adds old.first endings levels changes reads adds_same changes_same kept (λ item. refl) (λ item is. is)
      (λ h all.
      let early : AreBefore end old.endings = λ item since is. subst (λ n. since < n) (sym (place ∙ all.adds.counted)) (known_before_end h item since (subst (IsKnown h item) is (all.known item))) in
      (listed all.listed (before_by old.endings end all.listed early), same all.listed early))
      (λ h all. sets all.levels.rising)

pub same_levels : (levels : List (List Item)) → AllPairs IsBelow levels → AreSameLevels levels levels
same_levels levels rising = record { left = λ t there. there; kept = λ t there. there; rising = rising }
