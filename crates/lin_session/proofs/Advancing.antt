-- The object that is listed at a place, while its chain takes events in.
use Rattle.std.proofs.Common.{◌≡◌, ◌<◌, ◌≤◌, ◌+◌, ◌-◌, ℕ, pos, Bool, List, Some, length, slice_get, get_or, set, inl, inr, refl, sym, ap, subst, ◌∙◌, arith, if◌then◌else◌}
use Rattle.std.proofs.lemmas.Bool.{cases_lt}
use Rattle.std.proofs.lemmas.Option.{slice_get-get_or}
use Rattle.lin_events.specs.declared.items.Item.{Item}
use Rattle.lin_events.specs.declared.items.Item.TheVariants.{Int}
use Rattle.lin_events.specs.Items.{item_eq}
use Rattle.lin_events.specs.declared.calls.Name.{Name}
use Rattle.lin_events.specs.declared.events.Event.{Event}
use Rattle.lin_events.specs.WellFormed.{IsWellFormed}
use Rattle.lin_objects.specs.declared.kinds.Kind.{Kind}
use Rattle.lin_objects.specs.Kinds.{functions_of}
use Rattle.lin_order.specs.Parts.{events_at, part}
use Rattle.lin_order.specs.PartLaws.{PartsAreWellFormed, PositionsSpellParts}
use Rattle.lin_engines.specs.declared.ends.End.{End}
use Rattle.lin_engines.specs.declared.ends.End.TheVariants.{Alive}
use Rattle.lin_engines.specs.Exacts.{HasExact}
use Rattle.lin_chain.specs.Chains.{IsFor, IsKept, IsRight, kind_in, mark_in, told_in}
use Rattle.lin_chain.specs.Work.{IsSpent, IsSpentAtMost, Mark}
use Rattle.lin_answers.specs.declared.answers.Scope.TheVariants as scope
use Rattle.lin_session.specs.declared.kept.Object.{Object}
use Rattle.lin_session.specs.declared.kept.Objects.{Objects}
use Rattle.lin_session.specs.Marks.{AreCarriedOn, AreExact, IsKnown, IsToldOf}
use Rattle.lin_session.specs.Objects.{AreKept, AreRight, IsObject, listed_known, split_in}
use Rattle.lin_session.specs.inner.Objects.{marks_in}
use Rattle.lin_session.specs.Known.{mark_of}
use Rattle.lin_session.specs.Work.{IsSpentAtMostIn, IsSpentIn, due_in}
use Rattle.lin_session.proofs.Asking.{IsObject-settled, length_spelled, picks_inside, right_spelled, spelled, well_formed_spelled}
use Rattle.lin_session.proofs.Carrying.{AreCarriedOn-one, IsSpentAtMostIn-one, IsSpentIn-one, now_is}
use Rattle.lin_session.proofs.Changes.{AreKept-one}
use Rattle.lin_session.proofs.Found.{object_within}
use Rattle.lin_session.proofs.Listed.{mark_listed, mark_set}
use Rattle.lin_session.proofs.Telling.{told_none}
use Rattle.lin_lists.specs.lemmas.Taken.{one_place}

module _ (s : Objects) (i : ℕ) (listed : i < length s.keys.keys) (old : Object) (read : old ≡ get_or s.objects.items i old) where
  -- it stands there
  pub old_at : slice_get s.objects.items i ≡ Some old
  old_at = object_within s.keys.keys s.objects.items i old s.aligned listed read

  -- its key
  key_there : Item
  key_there = get_or s.keys.keys i (Int (pos 0))

  key_is : slice_get s.keys.keys i ≡ Some key_there
  unfolding key_there
  key_is = slice_get-get_or s.keys.keys i (Int (pos 0)) listed

  module _ (spell : PositionsSpellParts) (budget : ℕ) (h : List Event) (all : split_in s ≡ length h) (kinds : Item → Kind) (kept : AreRight s kinds budget h) where
    pub object_there : (key : Item) → slice_get s.keys.keys i ≡ Some key → IsObject kinds budget h s.split key old
    object_there key key_at = kept.each i key old key_at old_at

    is_there : IsObject kinds budget h s.split key_there old
    is_there = object_there key_there key_is

    pub inside : (k : ℕ) (d : ℕ) → k < length old.picks.items → get_or old.picks.items k d < length h
    inside = picks_inside spell kinds budget h s.split key_there old all is_there

    pub spelled_length : length (events_at h old.picks.items) ≡ length old.picks.items
    spelled_length = length_spelled spell kinds budget h s.split key_there old all is_there

    pub right_there : IsRight old.chain (events_at h old.picks.items)
    right_there = right_spelled spell kinds budget h s.split key_there old all is_there

    pub fine_there : PartsAreWellFormed → IsWellFormed (functions_of kinds) h → (functions : Item → Name → Bool) × IsWellFormed functions (events_at h old.picks.items)
    fine_there law fine = (functions_of kinds, well_formed_spelled spell kinds budget h s.split key_there old all is_there law fine)

    -- what is kept once the chain took some in
    pub after : (object : Object) → object.picks ≡ old.picks → object.count ≡ length old.picks.items → IsKept budget (events_at h old.picks.items) old.chain object.chain
        → AreKept kinds budget h s.split s.keys.keys (set s.objects.items i object)
    after object picks count settled =
        AreKept-one kinds kinds budget budget h h s.split s.split s.keys.keys s.objects.items kept kept.within i key_there object key_is kept.known old old_at
        (λ is. IsObject-settled spell kinds budget h s.split key_there old all is object picks count settled) (λ x o other is. is)

    -- its mark, and those of all once it changes
    pub mark_there : (key : Item) → slice_get s.keys.keys i ≡ Some key → marks_in s key ≡ mark_in old.chain
    mark_there key key_at = mark_listed s.keys.keys s.objects.items (one_place s.keys.keys kept.distinct) i key old key_at old_at

    pub mark_change : (new : Object) (key : Item) → slice_get s.keys.keys i ≡ Some key → (x : Item)
        → mark_of (listed_known s.keys.keys (set s.objects.items i new)) x ≡ (if item_eq key x then mark_in new.chain else marks_in s x)
    mark_change new key key_at = mark_set s.keys.keys s.objects.items (one_place s.keys.keys kept.distinct) i key old new key_at old_at

    pub part_length : (key : Item) → slice_get s.keys.keys i ≡ Some key → length (part key h) ≡ length old.picks.items
    part_length key key_at = let is = object_there key key_at in ap length (sym (spelled spell kinds budget h s.split key old all is)) ∙ length_spelled spell kinds budget h s.split key old all is

    pub retried_there : IsFor budget old.chain
    retried_there = is_there.retried

    -- what is known of it
    pub known_there : (key : Item) → slice_get s.keys.keys i ≡ Some key → IsKnown h (marks_in s) key → (end : End) × (told_in old.chain (length old.picks.items) ≡ Some end)
    known_there key key_at known = (known.0, ap (told_in old.chain) (sym (part_length key key_at)) ∙ ap (λ (m : Mark). m.told (length (part key h))) (sym (mark_there key key_at)) ∙ known.1)

    pub told_at : (end : End) → ((key : Item) → slice_get s.keys.keys i ≡ Some key → IsToldOf h (marks_in s) key end) → told_in old.chain (length old.picks.items) ≡ Some end
    told_at end told =
        ap (told_in old.chain) (sym (part_length key_there key_is)) ∙ ap (λ (m : Mark). m.told (length (part key_there h))) (sym (mark_there key_there key_is)) ∙ told key_there key_is

    -- one that has an engine of its own takes no more steps than are due to that, or none where it has no events
    pub exact_there : (key : Item) → slice_get s.keys.keys i ≡ Some key → (before after : ℕ) → AreExact kinds h (scope.Object key)
        → (HasExact (kind_in old.chain) → after ≤ before + (length old.picks.items - (mark_in old.chain).beside)) → (told_in old.chain (length old.picks.items) ≡ Some Alive → after ≡ before)
        → after ≤ before + due_in h (scope.Object key) (marks_in s)
    exact_there key key_at before after exact most idle = elim (cases_lt 0 (length (part key h))) [
      | inl some ↦
          let bound = most (subst HasExact (sym (object_there key key_at).kind) (exact key (refl, some))) in
          omega (arith, bound, part_length key key_at, ap (λ (m : Mark). m.beside) (mark_there key key_at))
      | inr less ↦
          let none : length (part key h) ≡ 0 = omega (arith, less) in
          let same = idle (ap (told_in old.chain) (sym (part_length key key_at) ∙ none) ∙ told_none (part key h) none old.chain (object_there key key_at).right) in
          omega (arith, same)
    ]

    -- once its chain told how all its events end, or broke off
    module _ (new : Object) (settled : IsKept budget (events_at h old.picks.items) old.chain new.chain) (again : (end : End) → told_in old.chain (length old.picks.items) ≡ Some end → new.chain ≡ old.chain)
        (key : Item) (key_at : slice_get s.keys.keys i ≡ Some key) where
      abbrev later : Item → Mark
      later = mark_of (listed_known s.keys.keys (set s.objects.items i new))

      pub told_there : (end : End) → told_in new.chain (length old.picks.items) ≡ Some end → IsToldOf h later key end
      told_there end told =
          ap (λ (m : Mark). m.told (length (part key h))) (now_is h key (marks_in s) later (mark_in old.chain) (mark_in new.chain) (mark_there key key_at) (mark_change new key key_at))
          ∙ ap (told_in new.chain) (part_length key key_at) ∙ told

      stays_told : (end : End) → told_in old.chain (length (part key h)) ≡ Some end → mark_in new.chain ≡ mark_in old.chain
      stays_told end told = ap mark_in (again end (ap (told_in old.chain) (sym (part_length key key_at)) ∙ told))

      pub carried_there : AreCarriedOn h (scope.Object key) (marks_in s) later
      carried_there =
          AreCarriedOn-one h key (marks_in s) later (mark_in old.chain) (mark_in new.chain) (mark_there key key_at) (mark_change new key key_at) stays_told
          (λ none. stays_told Alive (ap (told_in old.chain) none ∙ told_none (part key h) none old.chain (object_there key key_at).right)) settled.frontier settled.beside settled.stopped

      pub spent_there : (before after : ℕ) → IsSpent (mark_in old.chain) (mark_in new.chain) (length old.picks.items) before after → IsSpentIn h (scope.Object key) (marks_in s) later before after
      spent_there before after spent =
          IsSpentIn-one h key (marks_in s) later (mark_in old.chain) (mark_in new.chain) (mark_there key key_at) (mark_change new key key_at) before after
          (subst (λ n. IsSpent (mark_in old.chain) (mark_in new.chain) n before after) (sym (part_length key key_at)) spent)

      pub most_there : (before after : ℕ) → IsSpentAtMost (mark_in old.chain) (mark_in new.chain) (length old.picks.items) before after → IsSpentAtMostIn h (scope.Object key) (marks_in s) later before after
      most_there before after spent =
          IsSpentAtMostIn-one h key (marks_in s) later (mark_in old.chain) (mark_in new.chain) (mark_there key key_at) (mark_change new key key_at) before after
          (subst (λ n. IsSpentAtMost (mark_in old.chain) (mark_in new.chain) n before after) (sym (part_length key key_at)) spent)
