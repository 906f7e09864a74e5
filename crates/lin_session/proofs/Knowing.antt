-- Of which objects it is known how they end.
use Rattle.std.proofs.Common.{◌≡◌, ◌<◌, ◌+◌, ℕ, suc, List, length, Option, None, Some, Contains, IsTrue, inl, inr, refl, sym, ap, subst, ◌∙◌, arith, slice_get, nat_eq, Bool, true, false, if◌then◌else◌}
use Rattle.std.proofs.lemmas.Bool.{cases_lt}
use Rattle.std.proofs.lemmas.Option.{none-some, same_Some, slice_get_within}
use Rattle.lin_events.specs.declared.items.Item.{Item}
use Rattle.lin_events.specs.declared.events.Event.{Event}
use Rattle.lin_objects.specs.declared.kinds.Kind.{Kind}
use Rattle.lin_order.specs.Orders.{is_of_key}
use Rattle.lin_order.specs.Parts.{part}
use Rattle.lin_engines.specs.declared.ends.End.TheVariants.{Alive, Over}
use Rattle.lin_engines.specs.Ends.{IsEndOf}
use Rattle.lin_chain.specs.Chains.{mark_in, told_in}
use Rattle.lin_chain.specs.Work.{Mark, unasked}
use Rattle.lin_answers.specs.declared.answers.Scope.{Scope}
use Rattle.lin_answers.specs.declared.answers.Scope.TheVariants as scope
use Rattle.lin_answers.specs.declared.answers.Verdict.{Verdict}
use Rattle.lin_answers.specs.declared.answers.Verdict.TheVariants.{Yes, No, Undecided}
use Rattle.lin_session.specs.declared.kept.Object.{Object}
use Rattle.lin_session.specs.declared.kept.Objects.{Objects}
use Rattle.lin_session.specs.Marks.{IsAsked, IsKnown, IsMarkedAs, IsNothingDue, IsOf, IsToldOf}
use Rattle.lin_session.specs.Objects.{AreRight, IsObject, split_in}
use Rattle.lin_session.specs.inner.Judgements.{IsMarkedBy, IsTold}
use Rattle.lin_session.specs.inner.Objects.{marks_in}
use Rattle.lin_session.specs.Known.{count_before}
use Rattle.lin_order.specs.PartLaws.{PositionsSpellParts}
use Rattle.lin_engines.specs.declared.ends.End.{End}
use Rattle.lin_session.proofs.Asking.{spelled_length_of}
use Rattle.lin_session.proofs.Listed.{is_listed, mark_listed, mark_unlisted}
use Rattle.lin_session.proofs.Occurring.{event_there}
use Rattle.lin_session.proofs.Picks.{event_of_key}
use Rattle.lin_session.proofs.Telling.{over_right, told_none}
use Rattle.lin_session.proofs.Touching.{before_all, one_more}
use Rattle.lin_lists.specs.lemmas.Taken.{element_at, one_place}

-- a key of an event has an event
pub some_event : (h : List Event) (key : Item) (at : ℕ) → IsTrue (is_of_key h key at) → 0 < length (part key h)
some_event h key at of_it =
    let e = event_of_key h key at of_it in
    let more = one_more h key at e.0 e.1 ∙ ap (λ b. if b then count_before h key at + 1 else count_before h key at) of_it in
    omega (arith, more, before_all h key (suc at))

-- of an object of which nothing is known it isn't told that it is over
never_unasked : (count at : ℕ) → unasked.told count ≡ Some (Over at) → ⊥
never_unasked count at told = by (nat_eq 0 count) told
  where
    by : (b : Bool) → (if b then Some Alive else None) ≡ Some (Over at) → ⊥
    by true e = cc e
    by false e = cc e

module _ (kinds : Item → Kind) (budget : ℕ) (h : List Event) (s : Objects) (kept : AreRight s kinds budget h) where
  -- the object that is listed for a key, and its mark
  pub listed_at : (i : ℕ) (key : Item) → slice_get s.keys.keys i ≡ Some key → (o : Object) × (slice_get s.objects.items i ≡ Some o) × IsObject kinds budget h s.split key o × (marks_in s key ≡ mark_in o.chain)
  listed_at i key key_at =
      let within = slice_get_within s.keys.keys i key key_at in
      let o = element_at s.objects.items i (omega (arith, within, s.aligned)) in
      (o.0, o.1, kept.each i key o.0 key_at o.1, mark_listed s.keys.keys s.objects.items (one_place s.keys.keys kept.distinct) i key o.0 key_at o.1)

  -- one without events is alive
  pub empty_alive : (i : ℕ) (key : Item) → slice_get s.keys.keys i ≡ Some key → length (part key h) ≡ 0 → IsToldOf h (marks_in s) key Alive
  empty_alive i key key_at none =
      let o = listed_at i key key_at in
      ap (λ (m : Mark). m.told (length (part key h))) o.3 ∙ ap (told_in o.0.chain) none ∙ told_none (part key h) none o.0.chain o.2.right

  -- what is told of the key is told by its chain
  pub told_listed : PositionsSpellParts → split_in s ≡ length h → (i : ℕ) (key : Item) → slice_get s.keys.keys i ≡ Some key → (o : Object) → slice_get s.objects.items i ≡ Some o → (end : End)
      → IsToldOf h (marks_in s) key end → told_in o.chain (length o.picks.items) ≡ Some end
  told_listed spell all i key key_at o o_at end told =
      ap (told_in o.chain) (spelled_length_of spell kinds budget h s.split key o all (kept.each i key o key_at o_at))
      ∙ ap (λ (m : Mark). m.told (length (part key h))) (sym (mark_listed s.keys.keys s.objects.items (one_place s.keys.keys kept.distinct) i key o key_at o_at)) ∙ told

  -- where nothing has to be found, it is known of each that is listed
  pub listed_is_known : (asked : Scope) → IsNothingDue h asked (marks_in s) → (i : ℕ) (key : Item) → IsOf asked key → slice_get s.keys.keys i ≡ Some key → IsKnown h (marks_in s) key
  listed_is_known asked nothing i key of_scope key_at = elim (cases_lt 0 (length (part key h))) [
    | inl some ↦ nothing key (of_scope, some)
    | inr less ↦ (Alive, empty_alive i key key_at (omega (arith, less)))
  ]

  -- where it is told that one is over, it is
  pub over_listed : (key : Item) (at : ℕ) → IsToldOf h (marks_in s) key (Over at) → IsEndOf (kinds key) budget (part key h) (Over at)
  over_listed key at over = elim (is_listed s.keys.keys key) [
    | inl place ↦
        let o = listed_at place.0 key place.1 in
        let told = ap (λ (m : Mark). m.told (length (part key h))) (sym o.3) ∙ over in
        subst (λ k. IsEndOf k budget (part key h) (Over at)) o.2.kind (over_right o.0.chain (part key h) budget (length (part key h)) at o.2.right o.2.retried told)
    | inr absent ↦ absurd (never_unasked (length (part key h)) at (ap (λ (m : Mark). m.told (length (part key h))) (sym (mark_unlisted s.keys.keys s.objects.items key absent)) ∙ over))
  ]

  module _ (all : split_in s ≡ length h) where
    -- a key that isn't listed has no event, so its object is alive
    pub unlisted_empty : (key : Item) → (Contains s.keys.keys key → ⊥) → length (part key h) ≡ 0
    unlisted_empty key absent = elim (cases_lt 0 (length (part key h))) [
      | inl some ↦
          let e = event_there h key some in
          let below = slice_get_within h e.0 e.1 e.2 in
          absurd (absent (subst (Contains s.keys.keys) e.3 (kept.known e.0 e.1 (omega (arith, below, all)) e.2)))
      | inr less ↦ omega (arith, less)
    ]

    pub unlisted_alive : (key : Item) → (Contains s.keys.keys key → ⊥) → IsToldOf h (marks_in s) key Alive
    unlisted_alive key absent = ap (λ (m : Mark). m.told (length (part key h))) (mark_unlisted s.keys.keys s.objects.items key absent) ∙ ap unasked.told (unlisted_empty key absent)

    -- one that was asked about is listed
    pub asked_listed : (asked : Scope) (key : Item) → IsAsked h asked key → (i : ℕ) × (slice_get s.keys.keys i ≡ Some key)
    asked_listed asked key is = elim (is_listed s.keys.keys key) [
      | inl there ↦ there
      | inr absent ↦ let none = unlisted_empty key absent in absurd (omega (arith, is.1, none))
    ]

-- what was found of one object is known of it
pub known_by : (h : List Event) (marks : Item → Mark) (key : Item) (failing over : Option ℕ) → IsMarkedBy h marks key failing over → IsKnown h marks key
known_by h marks key (Some n) over by = (_, by.2)
known_by h marks key None (Some at) by = (_, by.1)
known_by h marks key None None by = (Alive, by)

-- and what is told where that is the verdict
pub marked_as : (h : List Event) (marks : Item → Mark) (key : Item) (failing over : Option ℕ) (told : Verdict) → IsMarkedBy h marks key failing over → IsTold failing over told → IsMarkedAs h (scope.Object key) marks told
marked_as h marks key None None told by is = subst (IsMarkedAs h (scope.Object key) marks) (sym is) (λ x same. subst (λ k. IsToldOf h marks k Alive) (sym same) by)
marked_as h marks key None (Some at) told by is = subst (IsMarkedAs h (scope.Object key) marks) (sym is) (key, refl, by.0, by.1)
marked_as h marks key (Some n) None told by is = subst (IsMarkedAs h (scope.Object key) marks) (sym is) (key, refl, by.1, by.2)
marked_as h marks key (Some n) (Some at) told by is = absurd (none-some at (sym by.0))

-- one that is over has an event
pub over_asked : (h : List Event) (marks : Item → Mark) (key : Item) (failing over : Option ℕ) (at : ℕ) → over ≡ Some at → IsMarkedBy h marks key failing over → 0 < length (part key h)
over_asked h marks key (Some n) over at is by = absurd (none-some at (sym by.0 ∙ is))
over_asked h marks key None None at is by = absurd (none-some at is)
over_asked h marks key None (Some i) at is by = some_event h key i by.0

-- what is told of one object, told of the whole
pub by_alive : (h : List Event) (marks : Item → Mark) (key : Item) (failing over : Option ℕ) → IsMarkedBy h marks key failing over → failing ≡ None → over ≡ None → IsToldOf h marks key Alive
by_alive h marks key None None by none_failing none_over = by
by_alive h marks key None (Some at) by none_failing none_over = absurd (none-some at (sym none_over))
by_alive h marks key (Some n) over by none_failing none_over = absurd (none-some n (sym none_failing))

pub by_dead : (h : List Event) (marks : Item → Mark) (key : Item) (failing over : Option ℕ) → IsMarkedBy h marks key failing over → (n : ℕ) → failing ≡ Some n → IsMarkedAs h scope.Whole marks (No n)
by_dead h marks key None None by n is = absurd (none-some n is)
by_dead h marks key None (Some at) by n is = absurd (none-some n is)
by_dead h marks key (Some m) over by n is = subst (λ l. IsMarkedAs h scope.Whole marks (No l)) (same_Some m n is) (key, tt, by.1, by.2)

pub by_over : (h : List Event) (marks : Item → Mark) (key : Item) (failing over : Option ℕ) → IsMarkedBy h marks key failing over → (at : ℕ) → over ≡ Some at → IsMarkedAs h scope.Whole marks (Undecided at)
by_over h marks key None None by at is = absurd (none-some at is)
by_over h marks key None (Some i) by at is = subst (λ l. IsMarkedAs h scope.Whole marks (Undecided l)) (same_Some i at is) (key, tt, by.0, by.1)
by_over h marks key (Some n) over by at is = absurd (none-some at (sym by.0 ∙ is))

-- where one that has an event isn't over, none is
pub never_over : (h : List Event) (marks : Item → Mark) (key : Item) (failing over : Option ℕ) → IsMarkedBy h marks key failing over → (0 < length (part key h) → over ≡ None) → over ≡ None
never_over h marks key (Some n) over by decided = by.0
never_over h marks key None None by decided = refl
never_over h marks key None (Some i) by decided = decided (some_event h key i by.0)

-- the verdict for the whole that the findings give is told
pub told_whole : (h : List Event) (marks : Item → Mark) (failing over : Option ℕ) (told : Verdict) → (failing ≡ None → over ≡ None → IsMarkedAs h scope.Whole marks Yes)
    → ((n : ℕ) → failing ≡ Some n → IsMarkedAs h scope.Whole marks (No n)) → ((at : ℕ) → over ≡ Some at → IsMarkedAs h scope.Whole marks (Undecided at)) → IsTold failing over told
    → IsMarkedAs h scope.Whole marks told
told_whole h marks None None told alive dead stands is = subst (IsMarkedAs h scope.Whole marks) (sym is) (alive refl refl)
told_whole h marks None (Some at) told alive dead stands is = subst (IsMarkedAs h scope.Whole marks) (sym is) (stands at refl)
told_whole h marks (Some n) None told alive dead stands is = subst (IsMarkedAs h scope.Whole marks) (sym is) (dead n refl)
told_whole h marks (Some n) (Some at) told alive dead stands (inl is) = subst (IsMarkedAs h scope.Whole marks) (sym is.1) (dead n refl)
told_whole h marks (Some n) (Some at) told alive dead stands (inr is) = subst (IsMarkedAs h scope.Whole marks) (sym is.1) (stands at refl)
