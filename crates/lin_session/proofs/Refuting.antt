-- From sets that refute the events of an object to sets that refute it in a prefix of the history.
use Rattle.std.proofs.Common.{◌≡◌, ◌<◌, ◌+◌, ◌-◌, ◌++◌, ℕ, zero, suc, List, Result, Ok, Err, Some, IsTrue, ◌≢◌, length, slice_index, take, drop, take-append-drop, if◌then◌else◌, inl, inr, refl, sym, ap, subst, ◌∙◌, add-one, arith}
use Rattle.std.specs.Prelude.{IfErr}
use Rattle.std.proofs.lemmas.Bool.{cases_lt}
use Rattle.std.proofs.lemmas.List.{take-append-le, take_all}
use Rattle.std.proofs.lemmas.List.Elements.{filter-append}
use Rattle.std.proofs.lemmas.Option.{same_Some, slice_get-get_or}
use Rattle.lin_events.specs.declared.items.Item.{Item}
use Rattle.lin_events.specs.Items.{item_eq}
use Rattle.lin_events.specs.declared.events.Event.{Event}
use Rattle.lin_objects.specs.declared.kinds.Kind.{Kind}
use Rattle.lin_objects.specs.Steps.{Step, start}
use Rattle.lin_order.specs.Orders.{is_of_key}
use Rattle.lin_order.specs.Parts.{ArePositionsOf, events_at, part}
use Rattle.lin_order.specs.PartLaws.{PositionsSpellParts, PartsUpToPositions}
use Rattle.lin_order.specs.Refutations.{Config, IsRefutation}
use Rattle.lin_order.specs.Configurations.{IsOver}
use Rattle.lin_engines.specs.declared.ends.End.TheVariants.{Dead}
use Rattle.lin_chain.specs.declared.chain.RefuteFault.{RefuteFault}
use Rattle.lin_chain.specs.declared.chain.RefuteFault.TheVariants.{NotDead, TooLarge, OutOfMemory}
use Rattle.lin_chain.specs.Chains.{kind_in, told_in}
use Rattle.lin_session.specs.declared.kept.Object.{Object}
use Rattle.lin_session.specs.Known.{count_before}
use Rattle.lin_session.specs.Objects.{IsObject}
use Rattle.lin_answers.specs.Answers.{IsAnswer, IsOverSomewhere, IsShortestWithout, kinds_in}
use Rattle.lin_answers.specs.Edits.{Present}
use Rattle.lin_answers.specs.declared.answers.Answer.TheVariants.{No}
use Rattle.lin_answers.specs.declared.answers.Scope.TheVariants.{Object as ObjectOf}
use Rattle.lin_session.specs.Refuting.{IsUnrefuted}
use Rattle.lin_session.proofs.Asking.{length_spelled, spelled, whole_picked}
use Rattle.lin_session.proofs.Picks.{event_of_key}
use Rattle.lin_session.proofs.Touching.{one_more}

-- a refusal that isn't for want of a dead event
pub refused_for : {T : Type 0} (r : Result T RefuteFault) (P : Type 0) → (r ≡ Err NotDead → ⊥) → (r ≡ Err TooLarge → P) → IfErr r (λ fault. (fault ≢ NotDead) × (fault ≡ TooLarge → P))
refused_for (Ok x) P other large = tt
refused_for (Err fault) P other large = ((λ is. other (ap Err is)), λ is. large (ap Err is))

-- why a no is not refuted
pub IsUnrefuted-fault : (now : Present) (key : Item) (n : ℕ) → IsAnswer now (ObjectOf key) (No n) → (fault : RefuteFault) → fault ≢ NotDead
    → (fault ≡ TooLarge → IsOverSomewhere (kinds_in now) now.budget now.history key) → IsUnrefuted now key fault
IsUnrefuted-fault now key n answer NotDead other large = absurd (other refl)
IsUnrefuted-fault now key n answer TooLarge other large = ((n, answer), large refl)
IsUnrefuted-fault now key n answer OutOfMemory other large = tt

-- a chain is dead at one place
one_dead : (at i : ℕ) → Dead at ≡ Dead i → at ≡ i
one_dead at i e = cc e

-- no prefix without events fails
pub some_prefix : (holds : List Event → Type 0) (h : List Event) (n : ℕ) → IsShortestWithout holds h n → 0 < n
some_prefix holds h n is = elim (cases_lt 0 n) [
  | inl some ↦ some
  | inr none ↦ let same : n - 1 ≡ n = omega (arith, none) in absurd (is.fails (subst (λ m. holds (take m h)) same is.before))
]

-- the events of a key in a prefix are its first ones
prefix_part : (h : List Event) (key : Item) (n : ℕ) → part key (take n h) ≡ take (count_before h key n) (part key h)
prefix_part h key n =
    let whole : part key h ≡ part key (take n h) ++ part key (drop n h) = ap (part key) (sym (take-append-drop n h)) ∙ filter-append (λ (e : Event). item_eq e.key key) (take n h) (drop n h) in
    sym (ap (take (count_before h key n)) whole ∙ take-append-le (count_before h key n) (part key (take n h)) (part key (drop n h)) (omega arith) ∙ take_all (count_before h key n) (part key (take n h)) (omega arith))

module _ (spell : PositionsSpellParts) (up_to : PartsUpToPositions) (kinds : Item → Kind) (budget : ℕ) (h : List Event) (split : ℕ) (key : Item) (o : Object) (all : split ≡ length h) (is : IsObject kinds budget h split key o) where
  picked : ArePositionsOf key h o.picks.items
  picked = whole_picked kinds budget h split key o all is

  spells : events_at h o.picks.items ≡ part key h
  spells = spelled spell kinds budget h split key o all is

  part_length : length (part key h) ≡ length o.picks.items
  part_length = ap length (sym spells) ∙ length_spelled spell kinds budget h split key o all is

  -- up to and with one of its positions
  up_to_nth : (i : ℕ) → i < length o.picks.items → part key (take (slice_index o.picks.items i + 1) h) ≡ take (i + 1) (part key h)
  up_to_nth i within = up_to key h o.picks.items i (slice_index o.picks.items i) picked (slice_get-get_or o.picks.items i 0 within)

  -- the sets speak of the events in a prefix whose last one is the one at which it is told to be dead
  pub refuted_in : (n : ℕ) (sets : List (List Config)) → 0 < n → IsTrue (is_of_key h key (n - 1)) → told_in o.chain (length o.picks.items) ≡ Some (Dead (count_before h key (n - 1)))
      → (at : ℕ) × (told_in o.chain (length o.picks.items) ≡ Some (Dead at)) × IsRefutation (take (at + 1) (events_at h o.picks.items)) (kind_in o.chain) sets → IsRefutation (part key (take n h)) (kinds key) sets
  refuted_in n sets some of_it dead (at, end, refutes) =
      let same : count_before h key (n - 1) ≡ at = one_dead (count_before h key (n - 1)) at (same_Some _ _ (sym dead ∙ end)) in
      let e = event_of_key h key (n - 1) of_it in
      let more = one_more h key (n - 1) e.0 e.1 ∙ ap (λ b. if b then count_before h key (n - 1) + 1 else count_before h key (n - 1)) of_it in
      let last : n ≡ suc (n - 1) = omega (arith, some) in
      let count : at + 1 ≡ count_before h key n = omega (arith, same, more, ap (count_before h key) last) in
      let events : take (at + 1) (events_at h o.picks.items) ≡ part key (take n h) = ap (take (at + 1)) spells ∙ ap (λ m. take m (part key h)) count ∙ sym (prefix_part h key n) in
      subst (λ l. IsRefutation l (kinds key) sets) events (subst (λ k. IsRefutation (take (at + 1) (events_at h o.picks.items)) k sets) is.kind refutes)

  -- each beginning of the object's events is its part of a prefix
  prefix_of : (n : ℕ) → (m : ℕ) × (part key (take m h) ≡ take n (part key h))
  prefix_of zero = (0, refl)
  prefix_of (suc i) = elim (cases_lt i (length o.picks.items)) [
    | inl within ↦ (slice_index o.picks.items i + 1, up_to_nth i within ∙ ap (λ k. take k (part key h)) (add-one i))
    | inr past ↦ (length h, ap (part key) (take_all (length h) h (omega arith)) ∙ sym (take_all (suc i) (part key h) (omega (arith, part_length))))
  ]

  pub over_in : (n : ℕ) × IsOver (start (kind_in o.chain)) (Step (kind_in o.chain)) (take n (events_at h o.picks.items)) budget → IsOverSomewhere kinds budget h key
  over_in (n, over) =
      let m = prefix_of n in
      let events : take n (events_at h o.picks.items) ≡ part key (take m.0 h) = ap (take n) spells ∙ sym m.1 in
      (m.0, subst (λ l. IsOver (start (kinds key)) (Step (kinds key)) l budget) events (subst (λ k. IsOver (start k) (Step k) (take n (events_at h o.picks.items)) budget) is.kind over))
