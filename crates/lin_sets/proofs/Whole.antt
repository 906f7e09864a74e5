-- All that is told, with one more event.
use Rattle.std.proofs.Common.{◌≡◌, ◌<◌, ◌≤◌, ◌∷◌, ◌++◌, [], ℕ, List, Option, None, Some, Contains, cond, nat_eq, length, inl, inr, refl, sym, ap, subst, ◌∙◌, arith}
use Rattle.std.specs.Global.{Vec}
use Rattle.std.proofs.lemmas.Option.{slice_get_within}
use Rattle.lin_events.specs.declared.items.Item.{Item}
use Rattle.lin_events.specs.declared.calls.Call.{Call}
use Rattle.lin_events.specs.declared.calls.Call.TheVariants.{Read, Add}
use Rattle.lin_events.specs.declared.calls.Name.{Name}
use Rattle.lin_events.specs.declared.calls.Reply.{Reply}
use Rattle.lin_events.specs.declared.calls.Reply.TheVariants as Replied
use Rattle.lin_events.specs.declared.events.Event.{Event}
use Rattle.lin_events.specs.declared.events.Body.{Body}
use Rattle.lin_events.specs.declared.events.Body.TheVariants.{Invoke, Ok, Fail, Info}
use Rattle.lin_events.specs.Items.{item_cmp}
use Rattle.lin_events.specs.lemmas.OneMore.{completes, invoked}
use Rattle.lin_events.specs.WellFormed.{Completes}
use Rattle.lin_sets.specs.Conflicts.{IsAnswer}
use Rattle.lin_lists.specs.Sets.{IsRising}
use Rattle.lin_lists.specs.lemmas.Elements.{first_or_rest, nothing_in}
use Rattle.lin_order.specs.Orders.{IsCall}
use Rattle.lin_order.specs.lemmas.OneEnd.{one_call}
use Rattle.lin_sets.specs.declared.openings.Opened.{Opened}
use Rattle.lin_sets.specs.declared.changes.Change.{Change}
use Rattle.lin_sets.specs.declared.changes.Change.TheVariants.{Invoked, Failed, Ended}
use Rattle.lin_sets.specs.Changes.{AreChanges, Makes}
use Rattle.lin_sets.specs.Openings.{opened_in}
use Rattle.lin_sets.specs.Places.{IsListed, IsNoted, IsPut, place_in}
use Rattle.lin_sets.specs.Endings.{AreBy, AreLearned, AreListed, known_in}
use Rattle.lin_sets.specs.declared.endings.Endings.{Endings}
use Rattle.lin_sets.specs.Levels.{IsRanked}
use Rattle.lin_sets.specs.Parts.{AreAdds, AreAddedBy, AreNoted, AreReads, IsFirst, IsLatestOf, Stands, without}
use Rattle.lin_sets.specs.Steps.{EndsNext, FailsNext, IsFitting, IsNextAdd, MayFollow, MayLose, ReturnsNext}
use Rattle.lin_sets.specs.declared.intervals.Intervals.{Intervals}
use Rattle.lin_sets.specs.Intervals.{AreAll, IsMoved, reached_in}
use Rattle.lin_sets.proofs.Putting.{put_listed}
use Rattle.lin_sets.proofs.OneEvent.{call_before, call_kept, not_begun, one_start}
use Rattle.lin_sets.proofs.Pushing.{adds_pushed, firsts_same, firsts_noted, noted_kept, changes_pushed, latest_invoked, latest_completed, latest_open, noted_same, noted_listed, noted_here, known_same, levels_same, free_same, no_item}
use Rattle.lin_sets.proofs.Returning.{rank_new, free_more, known_by, known_more, levels_added, levels_more}
use Rattle.lin_sets.proofs.Refusing.{no_invocation, no_invocation_failed, stood}
use Rattle.lin_sets.proofs.Acting.{no_read_now, reads_more, reads_same}
use Rattle.lin_sets.proofs.Failing.{one_added as one_add, adds_failed, adds_left, firsts_failed, firsts_kept, free_failed}

pub no_ok_invoked : {body : Body} {call : Call} → body ≡ Invoke call → (name : Name) (reply : Reply) → body ≡ Ok name reply → ⊥
no_ok_invoked is name reply other = cc

pub no_fail_invoked : {body : Body} {call : Call} → body ≡ Invoke call → (name : Name) → body ≡ Fail name → ⊥
no_fail_invoked is name other = cc

pub no_ok_failed : {body : Body} {named : Name} → body ≡ Fail named → (name : Name) (reply : Reply) → body ≡ Ok name reply → ⊥
no_ok_failed is name reply other = cc

pub no_fail_ok : {body : Body} {named : Name} {reply : Reply} → body ≡ Ok named reply → (name : Name) → body ≡ Fail name → ⊥
no_fail_ok is name other = cc

no_ok_info : {body : Body} {named : Name} → body ≡ Info named → (name : Name) (reply : Reply) → body ≡ Ok name reply → ⊥
no_ok_info is name reply other = cc

no_fail_info : {body : Body} {named : Name} → body ≡ Info named → (name : Name) → body ≡ Fail name → ⊥
no_fail_info is name other = cc

no_invocation_info : {body : Body} {named : Name} → body ≡ Info named → (call : Call) → body ≡ Invoke call → ⊥
no_invocation_info is call other = cc

one_added : {a b : Item} → Add a ≡ Add b → a ≡ b
one_added e = cc

one_slot : {a b : Item} → Some a ≡ Some b → a ≡ b
one_slot e = cc

-- what the process of an invocation invoked last
abbrev pub IsOpened : List (ℕ × Opened) → List (ℕ × Opened) → ℕ → ℕ → Call → Type 0
IsOpened old new process at call = (other : ℕ) → opened_in new other ≡ cond (nat_eq process other) (Some (record { at = at; call = call })) (opened_in old other)

module _ (old : Intervals) (h : List Event) (event : Event) (may : MayFollow h event) (all : AreAll old h) where
  -- a place without an add
  pushed_none : (adds : Vec (Option Item)) → adds.items ≡ old.adds.items ++ None ∷ [] → ((name : Name) → event.body ≡ Fail name → ⊥) → ((item : Item) → IsCall (h ++ event ∷ []) (length h) (Add item) → ⊥)
      → AreAdds adds.items (h ++ event ∷ []) × ((item : Item) → IsFirst adds.items item (place_in old.first item))
  pushed_none adds push no_fail no_add = (
    subst (λ l. AreAdds l (h ++ event ∷ [])) (sym push) (adds_pushed h event old.adds.items None no_fail (λ item is. absurd (no_item is)) (λ item is. absurd (no_add item is)) all.adds),
    λ item. subst (λ l. IsFirst l item (place_in old.first item)) (sym push) (firsts_same old.adds.items item (place_in old.first item) (all.first item)),
  )

  changed : (changes : Vec Change) (change : Change) → changes.items ≡ old.changes.items ++ change ∷ [] → Makes h event change → AreChanges changes.items (h ++ event ∷ [])
  changed changes change push makes = subst (λ l. AreChanges l (h ++ event ∷ [])) (sym push) (changes_pushed h event old.changes.items change makes all.changes)

  noted_on : ((call : Call) → event.body ≡ Invoke call → ⊥) → AreNoted old.first (h ++ event ∷ [])
  noted_on completes = noted_same h event old.first (λ item there. absurd (not_begun h event completes (length h) (Add item) there refl)) all.noted

  module _ (call : Call) (is : event.body ≡ Invoke call) where
    called : IsCall (h ++ event ∷ []) (length h) call
    called = (event.process, event.key, (invoked h event call is).begins)

    opened_next : (openings : List (ℕ × Opened)) (process at : ℕ) → event.process ≡ process → at ≡ length old.adds.items → IsOpened old.openings openings process at call
        → IsOpened old.openings openings event.process (length h) call
    opened_next openings process at same place put = subst (λ n. IsOpened old.openings openings event.process n call) (place ∙ all.adds.counted) (subst (λ p. IsOpened old.openings openings p at call) (sym same) put)

  pub invoked_add : (item : Item) → event.body ≡ Invoke (Add item) → (openings : List (ℕ × Opened)) (adds : Vec (Option Item)) (first : List (Item × Option ℕ)) (process at : ℕ) → event.process ≡ process → at ≡ length old.adds.items
      → IsOpened old.openings openings process at (Add item) → adds.items ≡ old.adds.items ++ Some item ∷ [] → IsNoted old.first first item at
      → (changes : Vec Change) (before : Option Opened) → before ≡ opened_in old.openings process → changes.items ≡ old.changes.items ++ Invoked process (Add item) before ∷ []
      → AreAll (record { openings = openings; adds = adds; first = first; endings = old.endings; levels = old.levels; changes = changes; reads = old.reads }) (h ++ event ∷ [])
  invoked_add item is openings adds first process at same place put push note changes before was change = record {
    opened = latest_invoked h event old.openings openings (Add item) is (opened_next (Add item) is openings process at same place put) all.opened;
    changes = changed changes (Invoked process (Add item) before) change (same, is, subst (IsLatestOf h process) (sym was) (all.opened process));
    noted = noted_same h event first (λ other there. subst (λ (i : Item). IsListed first i) (one_added (one_call (h ++ event ∷ []) (length h) (Add item) (Add other) (called (Add item) is) there)) (noted_here old.first first item at note))
        (λ place other there. noted_listed old.first first item at note other (all.noted place other there));
    adds = subst (λ l. AreAdds l (h ++ event ∷ [])) (sym push) (adds_pushed h event old.adds.items (Some item) (no_fail_invoked is)
        (λ other slot. subst (λ (i : Item). IsCall (h ++ event ∷ []) (length h) (Add i)) (one_slot slot) (called (Add item) is))
        (λ other there. ap Some (one_added (one_call (h ++ event ∷ []) (length h) (Add item) (Add other) (called (Add item) is) there))) all.adds);
    first = λ other. subst (λ l. IsFirst l other (place_in first other)) (sym push) (firsts_noted old.adds.items old.first first item (subst (IsNoted old.first first item) place note) all.first other);
    known = λ other. known_same h event (no_ok_invoked is) other (known_in old.endings other) (all.known other);
    listed = all.listed;
    levels = levels_same h event (no_ok_invoked is) old.levels.items all.levels;
    reads = reads_same h event (no_read_now h event (no_ok_invoked is)) old.reads.items all.reads;
    free = free_same h event (no_ok_invoked is) old.first first old.endings (λ other since. noted_kept old.first first item at note other since) all.free;
  }

  pub invoked_other : (call : Call) → event.body ≡ Invoke call → ((item : Item) → call ≡ Add item → ⊥) → (openings : List (ℕ × Opened)) (adds : Vec (Option Item)) (process at : ℕ) → event.process ≡ process
      → at ≡ length old.adds.items → IsOpened old.openings openings process at call → adds.items ≡ old.adds.items ++ None ∷ []
      → (changes : Vec Change) (before : Option Opened) → before ≡ opened_in old.openings process → changes.items ≡ old.changes.items ++ Invoked process call before ∷ []
      → AreAll (record { openings = openings; adds = adds; first = old.first; endings = old.endings; levels = old.levels; changes = changes; reads = old.reads }) (h ++ event ∷ [])
  invoked_other call is no_add openings adds process at same place put push changes before was change =
      let pushed = pushed_none adds push (no_fail_invoked is) (λ item there. no_add item (one_call (h ++ event ∷ []) (length h) call (Add item) (called call is) there)) in
      record {
        opened = latest_invoked h event old.openings openings call is (opened_next call is openings process at same place put) all.opened;
        changes = changed changes (Invoked process call before) change (same, is, subst (IsLatestOf h process) (sym was) (all.opened process));
        noted = noted_same h event old.first (λ item there. absurd (no_add item (one_call (h ++ event ∷ []) (length h) call (Add item) (called call is) there))) all.noted;
        adds = pushed.0;
        first = pushed.1;
        known = λ other. known_same h event (no_ok_invoked is) other (known_in old.endings other) (all.known other);
        listed = all.listed;
        levels = levels_same h event (no_ok_invoked is) old.levels.items all.levels;
        reads = reads_same h event (no_read_now h event (no_ok_invoked is)) old.reads.items all.reads;
        free = free_same h event (no_ok_invoked is) old.first old.first old.endings (λ other since e. e) all.free;
      }

  pub crashed : (name : Name) → event.body ≡ Info name → (adds : Vec (Option Item)) (changes : Vec Change) → adds.items ≡ old.adds.items ++ None ∷ [] → changes.items ≡ old.changes.items ++ Ended ∷ []
      → AreAll (record { openings = old.openings; adds = adds; first = old.first; endings = old.endings; levels = old.levels; changes = changes; reads = old.reads }) (h ++ event ∷ [])
  crashed name is adds changes push change =
      let pushed = pushed_none adds push (no_fail_info is) (λ item there. not_begun h event (no_invocation_info is) (length h) (Add item) there refl) in
      record {
        opened = latest_completed h event (no_invocation_info is) old.openings all.opened;
        changes = changed changes Ended change (no_invocation_info is, no_read_now h event (no_ok_info is), λ at item fails. no_fail_info is fails.1.0 fails.1.1);
        noted = noted_on (no_invocation_info is);
        adds = pushed.0;
        first = pushed.1;
        known = λ other. known_same h event (no_ok_info is) other (known_in old.endings other) (all.known other);
        listed = all.listed;
        levels = levels_same h event (no_ok_info is) old.levels.items all.levels;
        reads = reads_same h event (no_read_now h event (no_ok_info is)) old.reads.items all.reads;
        free = free_same h event (no_ok_info is) old.first old.first old.endings (λ other since e. e) all.free;
      }

  -- the first add of an item that an operation ending now added
  first_upto : (item : Item) (at : ℕ) → Stands old.adds.items at item → (first : ℕ) × (place_in old.first item ≡ Some first) × (first ≤ at)
  first_upto item at stands = by (place_in old.first item) (all.first item)
    where
      by : (o : Option ℕ) → IsFirst old.adds.items item o → (first : ℕ) × (o ≡ Some first) × (first ≤ at)
      by None none = absurd (none at stands)
      by (Some first) is = (first, refl, is.1 at stands)

  -- a first add was invoked ahead of the end
  first_inside : (item : Item) (first : ℕ) → place_in old.first item ≡ Some first → first ≤ length h
  first_inside item first is =
      let firsts : IsFirst old.adds.items item (Some first) = subst (IsFirst old.adds.items item) is (all.first item) in
      let inside = slice_get_within old.adds.items first (Some item) firsts.0 in
      omega (arith, inside, all.adds.counted)

  pub returned_add : (p : ℕ) (item : Item) → ReturnsNext h event p (Add item) Replied.Done → (adds : Vec (Option Item)) (changes : Vec Change) (endings : Endings) (end : ℕ) → changes.items ≡ old.changes.items ++ Ended ∷ [] → end ≡ length old.adds.items → adds.items ≡ old.adds.items ++ None ∷ []
      → AreLearned old.endings endings (item ∷ []) end → (AreListed old.endings → AreBy end old.endings → AreListed endings)
      → AreAll (record { openings = old.openings; adds = adds; first = old.first; endings = endings; levels = old.levels; changes = changes; reads = old.reads }) (h ++ event ∷ [])
  returned_add p item returns adds changes endings end change place push learned listed =
      let is = returns.1.1 in
      let stands = stood old h event all (no_invocation is) p item returns.0 in
      let at = place ∙ all.adds.counted in
      let known = subst (AreLearned old.endings endings (item ∷ [])) at learned in
      let pushed = pushed_none adds push (no_fail_ok is) (λ other there. not_begun h event (no_invocation is) (length h) (Add other) there refl) in
      record {
        opened = latest_completed h event (no_invocation is) old.openings all.opened;
        changes = changed changes Ended change (no_invocation is, (λ at s read. no_members is read.1.1), λ at other fails. no_fail_ok is fails.1.0 fails.1.1);
        noted = noted_on (no_invocation is);
        adds = pushed.0;
        first = pushed.1;
        known = known_more h event p (Add item) Replied.Done returns old.endings endings (item ∷ []) known all.known (λ other has. (0, omega arith, has)) only;
        listed = listed all.listed (subst (λ n. AreBy n old.endings) (sym at) (known_by h old.endings all.listed all.known));
        levels = levels_added h event p (Add item) Replied.Done returns old.levels.items (λ e. no_read e) all.levels;
        reads = reads_same h event (λ at s read. no_members is read.1.1) old.reads.items all.reads;
        free = free_more h event p (Add item) Replied.Done returns old.endings endings (item ∷ []) known all.known old.first refl
            (λ other there.
            let first = first_upto item p stands in
            let later : p < length h = returns.0.ends.later in
            subst (λ (i : Item). (at : ℕ) × (place_in old.first i ≡ Some at) × (at ≤ length h)) (only other there) (first.0, first.1, omega (arith, first.2, later)))
            (λ s e. absurd (no_read e)) all.free;
      }
    where
      only : (other : Item) → Contains (item ∷ []) other → item ≡ other
      only other there = elim (first_or_rest item [] other there) [
        | inl same ↦ same
        | inr nowhere ↦ absurd (nothing_in other nowhere)
      ]

      no_members : {body : Body} {name other : Name} {s : List Item} → body ≡ Ok name Replied.Done → body ≡ Ok other (Replied.Members s) → ⊥
      no_members one two = cc

      no_read : {x : Item} → Add x ≡ Read → ⊥
      no_read e = cc

  pub returned_read : (p : ℕ) (s : List Item) → ReturnsNext h event p Read (Replied.Members s) → IsRising item_cmp s → IsFitting old.first old.endings p s → (adds : Vec (Option Item)) (changes : Vec Change) (endings : Endings) (levels : Vec (List Item)) (change : Change) (end : ℕ) → changes.items ≡ old.changes.items ++ change ∷ []
      → end ≡ length old.adds.items → adds.items ≡ old.adds.items ++ None ∷ [] → AreLearned old.endings endings s end → (AreListed old.endings → AreBy end old.endings → AreListed endings)
      → IsRanked old.levels.items levels.items s change → (reads : Vec (ℕ × List Item)) → reads.items ≡ old.reads.items ++ (p, s) ∷ []
      → AreAll (record { openings = old.openings; adds = adds; first = old.first; endings = endings; levels = levels; changes = changes; reads = reads }) (h ++ event ∷ [])
  returned_read p s returns rising fitting adds changes endings levels change end change_is place push learned listed ranked reads kept =
      let is = returns.1.1 in
      let at = place ∙ all.adds.counted in
      let known = subst (AreLearned old.endings endings s) at learned in
      let pushed = pushed_none adds push (no_fail_ok is) (λ other there. not_begun h event (no_invocation is) (length h) (Add other) there refl) in
      let early : AreAddedBy old.first (length h) s = λ other there. let add = fitting.0 other there in (add.0, add.1, first_inside other add.0 add.1) in
      record {
        opened = latest_completed h event (no_invocation is) old.openings all.opened;
        changes = changed changes change change_is (makes ranked);
        noted = noted_on (no_invocation is);
        adds = pushed.0;
        first = pushed.1;
        known = known_more h event p Read (Replied.Members s) returns old.endings endings s known all.known (λ other has. has) (λ other has. has);
        listed = listed all.listed (subst (λ n. AreBy n old.endings) (sym at) (known_by h old.endings all.listed all.known));
        levels = levels_more h event p s returns old.levels.items levels.items change ranked all.levels;
        reads = subst (λ l. AreReads l (h ++ event ∷ [])) (sym kept) (reads_more h event p s returns old.reads.items all.reads);
        free = free_more h event p Read (Replied.Members s) returns old.endings endings s known all.known old.first rising
            early
            (λ t e same. subst (λ (l : List Item). AreAddedBy old.first (length h) l
            × ((item : Item) (end : ℕ) → known_in old.endings item ≡ Some end → (Contains l item → ⊥) → (end < p → ⊥) × AreAddedBy old.first end l)) (one_set same) (early, fitting.1)) all.free;
      }
    where
      one_set : {a b : List Item} → Replied.Members a ≡ Replied.Members b → a ≡ b
      one_set e = cc

      makes : IsRanked old.levels.items levels.items s change → Makes h event change
      makes (inl there) = subst (Makes h event) (sym there.2) (p, s, returns, all.levels.each s there.1)
      makes (inr put) = subst (Makes h event) (sym put.3) (p, returns, λ other end found. rank_new old.levels.items s put.0 put.1 all.levels.rising (all.levels.all other end s found))

  module _ (p : ℕ) (item : Item) (fails : FailsNext h event p (Add item)) where
    pub failed_first : (next : Option ℕ) (adds : Vec (Option Item)) (changes : Vec Change) (first : List (Item × Option ℕ)) → changes.items ≡ old.changes.items ++ Failed p item ∷ [] → place_in old.first item ≡ Some p → IsNextAdd old.adds.items item p next
        → MayLose old.endings old.levels.items item next → IsPut old.first first item next → adds.items ≡ without old.adds.items p
        → AreAll (record { openings = old.openings; adds = adds; first = first; endings = old.endings; levels = old.levels; changes = changes; reads = old.reads }) (h ++ event ∷ [])
    failed_first next adds changes first change is some may_lose put push =
        let no_ok = no_ok_failed fails.1.1 in
        let completes = no_invocation_failed fails.1.1 in
        record {
          opened = latest_completed h event completes old.openings all.opened;
          changes = changed changes (Failed p item) change fails;
          noted = noted_same h event first (λ other there. absurd (not_begun h event completes (length h) (Add other) there refl)) (λ at other there. put_listed old.first first item next put other (all.noted at other there));
          adds = subst (λ l. AreAdds l (h ++ event ∷ [])) (sym push) (adds_failed h event p (Add item) fails.0 completes old.adds.items fails.1.0 fails.1.1 all.adds);
          first = λ other. subst (λ l. IsFirst l other (place_in first other)) (sym push) (firsts_failed old.adds.items p old.first first item next is some put all.first other);
          known = λ other. known_same h event no_ok other (known_in old.endings other) (all.known other);
          listed = all.listed;
          levels = levels_same h event no_ok old.levels.items all.levels;
          reads = reads_same h event (no_read_now h event no_ok) old.reads.items all.reads;
          free = free_failed h event no_ok old.first first old.endings old.levels.items item next put may_lose all.levels all.known all.free;
        }

    pub failed_later : (adds : Vec (Option Item)) (changes : Vec Change) → changes.items ≡ old.changes.items ++ Failed p item ∷ [] → (place_in old.first item ≡ Some p → ⊥) → adds.items ≡ without old.adds.items p
        → AreAll (record { openings = old.openings; adds = adds; first = old.first; endings = old.endings; levels = old.levels; changes = changes; reads = old.reads }) (h ++ event ∷ [])
    failed_later adds changes change later push =
        let no_ok = no_ok_failed fails.1.1 in
        let completes = no_invocation_failed fails.1.1 in
        record {
          opened = latest_completed h event completes old.openings all.opened;
          changes = changed changes (Failed p item) change fails;
          noted = noted_on completes;
          adds = subst (λ l. AreAdds l (h ++ event ∷ [])) (sym push) (adds_failed h event p (Add item) fails.0 completes old.adds.items fails.1.0 fails.1.1 all.adds);
          first = λ other. subst (λ l. IsFirst l other (place_in old.first other)) (sym push) (firsts_kept old.adds.items p other (place_in old.first other) (others other) (all.first other));
          known = λ other. known_same h event no_ok other (known_in old.endings other) (all.known other);
          listed = all.listed;
          levels = levels_same h event no_ok old.levels.items all.levels;
          reads = reads_same h event (no_read_now h event no_ok) old.reads.items all.reads;
          free = free_same h event no_ok old.first old.first old.endings (λ other since e. e) all.free;
        }
      where
        others : (other : Item) → place_in old.first other ≡ Some p → ⊥
        others other is =
            let firsts : IsFirst old.adds.items other (Some p) = subst (IsFirst old.adds.items other) is (all.first other) in
            let same : item ≡ other = one_add old.adds.items p item other (stood old h event all (no_invocation_failed fails.1.1) p item fails.0) firsts.0 in
            later (ap (place_in old.first) same ∙ is)

  pub failed_other : (p : ℕ) (call : Call) → FailsNext h event p call → ((item : Item) → call ≡ Add item → ⊥) → (adds : Vec (Option Item)) (changes : Vec Change) → adds.items ≡ old.adds.items ++ None ∷ [] → changes.items ≡ old.changes.items ++ Ended ∷ []
      → AreAll (record { openings = old.openings; adds = adds; first = old.first; endings = old.endings; levels = old.levels; changes = changes; reads = old.reads }) (h ++ event ∷ [])
  failed_other p call fails no_add adds changes push change =
      let no_ok = no_ok_failed fails.1.1 in
      let completes = no_invocation_failed fails.1.1 in
      record {
        opened = latest_completed h event completes old.openings all.opened;
        changes = changed changes Ended change (
          completes,
          no_read_now h event no_ok,
          λ at item other.
              let same = one_start (h ++ event ∷ []) at p (length h) event event other.0.ends fails.0.ends in
              no_add item (one_call (h ++ event ∷ []) p call (Add item) fails.0.called (subst (λ n. IsCall (h ++ event ∷ []) n (Add item)) same other.0.called)),
        );
        noted = noted_on completes;
        adds = subst (λ l. AreAdds l (h ++ event ∷ [])) (sym push) (adds_left h event p call fails.0 completes old.adds.items no_add all.adds);
        first = λ item. subst (λ l. IsFirst l item (place_in old.first item)) (sym push) (firsts_same old.adds.items item (place_in old.first item) (all.first item));
        known = λ other. known_same h event no_ok other (known_in old.endings other) (all.known other);
        listed = all.listed;
        levels = levels_same h event no_ok old.levels.items all.levels;
        reads = reads_same h event (no_read_now h event no_ok) old.reads.items all.reads;
        free = free_same h event no_ok old.first old.first old.endings (λ other since e. e) all.free;
      }

  -- an add that failed is taken out, and the next one put in its place where it was the first
  pub retracted : (p : ℕ) (item : Item) → FailsNext h event p (Add item) → (moved new : Intervals) (changes : Vec Change) → moved ≡ record old { first = moved.first } → new ≡ record moved { adds = new.adds }
      → IsMoved old moved item p → (p < reached_in moved → new.adds.items ≡ without moved.adds.items p) → changes.items ≡ new.changes.items ++ Failed p item ∷ []
      → AreAll (record new { changes = changes }) (h ++ event ∷ [])
  retracted p item fails moved new changes same other move out push_change =
      subst (λ (s : Intervals). AreAll (record s { changes = changes }) (h ++ event ∷ [])) (sym (other ∙ ap (λ (s : Intervals). record s { adds = new.adds }) same)) (by move)
    where
      change : changes.items ≡ old.changes.items ++ Failed p item ∷ []
      change = push_change ∙ ap (λ (s : Intervals). s.changes.items ++ Failed p item ∷ []) (other ∙ ap (λ (s : Intervals). record s { adds = new.adds }) same)

      adds_same : moved.adds.items ≡ old.adds.items
      adds_same = ap (λ (s : Intervals). s.adds.items) same

      inside : p < length moved.adds.items
      inside = subst (λ l. p < length l) (sym adds_same) (slice_get_within old.adds.items p (Some item) (stood old h event all (no_invocation_failed fails.1.1) p item fails.0))

      push : new.adds.items ≡ without old.adds.items p
      push = out inside ∙ ap (λ l. without l p) adds_same

      by : IsMoved old moved item p → AreAll (record { openings = old.openings; adds = new.adds; first = moved.first; endings = old.endings; levels = old.levels; changes = changes; reads = old.reads }) (h ++ event ∷ [])
      by (inl stays) = subst (λ f. AreAll (record { openings = old.openings; adds = new.adds; first = f; endings = old.endings; levels = old.levels; changes = changes; reads = old.reads }) (h ++ event ∷ []))
          (sym (ap (λ (s : Intervals). s.first) stays.1)) (failed_later p item fails new.adds changes change stays.0 push)
      by (inr moves) = failed_first p item fails moves.1.0 new.adds changes moved.first change moves.0 moves.1.1 (moves.1.3 all.listed all.levels.rising) moves.1.2 push

  -- a completion ends the operation that its process invoked last
  pub ends_last : (process : ℕ) (name : Name) → event.process ≡ process → Completes event.body name → (opened : Opened) × (opened_in old.openings process ≡ Some opened) × EndsNext h event opened.at opened.call
  ends_last process name same is =
      let ended = completes h event may.0 may.1 name is in (
        record { at = ended.0; call = ended.2 },
        subst (λ p. opened_in old.openings p ≡ Some (record { at = ended.0; call = ended.2 })) same (all.opened event.process ended.0 ended.1 ended.2 (latest_open h event may ended.0 event.process ended.1 ended.2 ended.3)),
        record { ends = ended.4; called = call_kept h event ended.0 ended.2 (event.process, ended.1, ended.3.begins) },
      )

  pub ends_opened : (process : ℕ) (name : Name) → event.process ≡ process → Completes event.body name → (opened : Opened) → opened_in old.openings process ≡ Some opened → EndsNext h event opened.at opened.call
  ends_opened process name same is opened there =
      let last = ends_last process name same is in
      subst (λ (o : Opened). EndsNext h event o.at o.call) (one_opened (sym last.1 ∙ there)) last.2
    where
      one_opened : {a b : Opened} → Some a ≡ Some b → a ≡ b
      one_opened e = cc

  pub opened_there : (process : ℕ) (name : Name) → event.process ≡ process → Completes event.body name → (o : Option Opened) → o ≡ opened_in old.openings process → ((opened : Opened) → o ≡ Some opened → ⊥) → ⊥
  opened_there process name same is o told none = let last = ends_last process name same is in none last.0 (told ∙ last.1)

-- a call that sets don't have isn't answered
pub no_answer : (call : Call) (reply : Reply) → ((item : Item) → call ≡ Add item → ⊥) → (call ≡ Read → ⊥) → IsAnswer call reply → ⊥
no_answer (Add x) reply no_add no_read answer = no_add x refl
no_answer Read reply no_add no_read answer = no_read refl
no_answer call reply no_add no_read answer = answer

-- an add that fails now was invoked before
pub stood_call : (h : List Event) (event : Event) (p : ℕ) (item : Item) → FailsNext h event p (Add item) → IsCall h p (Add item)
stood_call h event p item fails = call_before h event p (Add item) (not_begun h event (no_invocation_failed fails.1.1) p (Add item) fails.0.called) fails.0.called
