-- Parts of longer histories, and of prefixes.
use Rattle.std.proofs.Common.{◌≡◌, ◌≢◌, ◌<◌, ◌≤◌, ◌+◌, ◌↔◌, ℕ, zero, suc, true, cond, List, [], ◌∷◌, ◌++◌, length, length-take, get_or, slice_get, take, All, AllPairs, Contains, Some, append-nil, inl, inr, sym, ap, subst, ◌∙◌, arith}
use Rattle.std.proofs.lemmas.Bool.{cases_lt, false_from_ne_true}
use Rattle.std.proofs.lemmas.Option.{same_Some, slice_get_within, slice_get-get_or, get_or_from_slice_get}
use Rattle.std.proofs.lemmas.List.Elements.{All-push, All-weaker, Contains-append_left, Contains-push, filter-append}
use Rattle.std.proofs.lemmas.List.Quantifiers.{all_pairs_push}
use Rattle.lin_events.specs.declared.items.Item.{Item}
use Rattle.lin_events.specs.Sameness.{Decides-item_eq}
use Rattle.lin_events.specs.Items.{item_eq}
use Rattle.lin_events.specs.declared.events.Event.{Event}
use Rattle.lin_order.specs.Orders.{is_of_key}
use Rattle.lin_order.specs.Parts.{part, ArePositionsOf, IsNth, IsCut}
use Rattle.lin_order.specs.PartLaws.{NoPositionsAtStart, PartsGrow, PartsOfPrefixes, PrefixesCutPositions, PartsUpToPositions}
use Rattle.lin_lists.specs.lemmas.Lists.{get_left, get_cases, get_last}
use Rattle.lin_order.specs.lemmas.Prefixes.{get_from_take, get_of_take}
use Rattle.lin_order.proofs.Positions.{event_of_key, of_key_event, mapped, positions_spell_parts_lem, nth_of_key, nth_found, nth_up, nth_down, nth_one}

pub no_positions_lem : NoPositionsAtStart
no_positions_lem key = record {
  rising = λ i j d before within. absurd (omega arith);
  sound = λ n d inside. absurd (omega arith);
  complete = λ at of_it. cc;
}

-- a list of elements that a list has at places of its own
pub read_take : {X : Type 0} (c : ℕ) (xs : List X) (k : ℕ) (d : X) → k < length (take c xs) → (k < c) × (slice_get xs k ≡ Some (get_or (take c xs) k d))
read_take c xs k d inside = get_from_take c xs k (get_or (take c xs) k d) (slice_get-get_or (take c xs) k d inside)

module _ (key : Item) (h : List Event) (event : Event) where
  kept : (at : ℕ) → is_of_key h key at ≡ true → is_of_key (h ++ event ∷ []) key at ≡ true
  kept at of_it = let found = event_of_key h key at of_it in of_key_event (h ++ event ∷ []) key at found.0 (get_left h event at found.0 found.1) found.2

  below : (at : ℕ) → is_of_key h key at ≡ true → at < length h
  below at of_it = let found = event_of_key h key at of_it in slice_get_within h at found.0 found.1

  module _ (positions : List ℕ) (are : ArePositionsOf key h positions) where
    kept_all : All (λ at. is_of_key (h ++ event ∷ []) key at ≡ true) positions
    kept_all = All-weaker (λ at. is_of_key h key at ≡ true) (λ at. is_of_key (h ++ event ∷ []) key at ≡ true) kept positions are.sound

    one_more : event.key ≡ key → ArePositionsOf key (h ++ event ∷ []) (positions ++ length h ∷ [])
    one_more is = record {
      rising = all_pairs_push (λ i j. i < j) positions (length h) are.rising (λ k d inside. below (get_or positions k d) (are.sound k d inside));
      sound = All-push (λ at. is_of_key (h ++ event ∷ []) key at ≡ true) positions (length h) kept_all (of_key_event (h ++ event ∷ []) key (length h) event (get_last h event) is);
      complete = λ at of_it.
          let found = event_of_key (h ++ event ∷ []) key at of_it in
          elim (get_cases h event at found.0 found.1) [
            | inl old ↦ Contains-append_left positions (length h ∷ []) at (are.complete at (of_key_event h key at found.0 old found.2))
            | inr new ↦ subst (Contains (positions ++ length h ∷ [])) (sym new.0) (Contains-push positions (length h))
          ];
    }

    none_more : event.key ≢ key → ArePositionsOf key (h ++ event ∷ []) positions
    none_more other = record {
      rising = are.rising;
      sound = kept_all;
      complete = λ at of_it.
          let found = event_of_key (h ++ event ∷ []) key at of_it in
          elim (get_cases h event at found.0 found.1) [
            | inl old ↦ are.complete at (of_key_event h key at found.0 old found.2)
            | inr new ↦ absurd (other (ap (λ (e : Event). e.key) new.1 ∙ found.2))
          ];
    }

pub parts_grow_lem : PartsGrow
parts_grow_lem key h event = record {
  more = λ is. filter-append (λ e. item_eq e.key key) h (event ∷ []) ∙ ap (λ b. part key h ++ cond b (event ∷ []) []) ((Decides-item_eq event.key key).1 is);
  same = λ other. filter-append (λ e. item_eq e.key key) h (event ∷ [])
      ∙ ap (λ b. part key h ++ cond b (event ∷ []) []) (false_from_ne_true (item_eq event.key key) (λ yes'. other ((Decides-item_eq event.key key).0 yes')))
      ∙ append-nil (part key h);
  position = λ positions is are. one_more key h event positions are is;
  no_position = λ positions other are. none_more key h event positions are other;
}

module _ (key : Item) (h : List Event) (positions : List ℕ) (count n : ℕ) (are : ArePositionsOf key h positions) (cut : IsCut positions count n) where
  few_positions : ArePositionsOf key (take n h) (take count positions)
  few_positions = record {
    rising = λ i j d before within.
        let at_i = (read_take count positions i d (omega arith)).1 in
        let at_j = (read_take count positions j d within).1 in
        nth_up key h positions are i j (get_or (take count positions) i d) (get_or (take count positions) j d) at_i at_j before;
    sound = λ k d inside.
        let read = read_take count positions k d inside in
        let at = get_or (take count positions) k d in
        let found = event_of_key h key at (nth_of_key key h positions are k at read.1) in
        of_key_event (take n h) key at found.0 (get_of_take n h at ((cut k at read.1).0 read.0) ∙ found.1) found.2;
    complete = λ at of_it.
        let found = event_of_key (take n h) key at of_it in
        let whole = get_from_take n h at found.0 found.1 in
        let nth = nth_found key h positions are at (of_key_event h key at found.0 whole.1 found.2) in
        let here : slice_get (take count positions) nth.0 ≡ Some at = get_of_take count positions nth.0 ((cut nth.0 at nth.1).1 whole.0) ∙ nth.1 in
        (nth.0, slice_get_within (take count positions) nth.0 at here, get_or_from_slice_get (take count positions) nth.0 at at here);
  }

  few_events : part key (take n h) ≡ take count (part key h)
  few_events =
      let whole = positions_spell_parts_lem key h positions are in
      let few = positions_spell_parts_lem key (take n h) (take count positions) few_positions in
      sym few.events_of ∙ mapped (λ at. slice_get (take n h) at) (take count positions) (take count (part key h))
      (length-take count positions ∙ omega (arith, length-take count (part key h), whole.length_of))
      (λ k at there.
      let read = get_from_take count positions k at there in
      get_of_take n h at ((cut k at read.1).0 read.0) ∙ sym (whole.same k at read.1) ∙ sym (get_of_take count (part key h) k read.0))

pub parts_of_prefixes_lem : PartsOfPrefixes
parts_of_prefixes_lem key h positions count n are cut = record { part_of = few_events key h positions count n are cut; positions_of = few_positions key h positions count n are cut }

cut_rising : (n : ℕ) (positions : List ℕ) → AllPairs (λ i j. i < j) positions → (count : ℕ) × (count ≤ length positions) × IsCut positions count n
cut_rising n [] rising = (0, omega arith, (λ k at there. cc))
cut_rising n (p ∷ ps) rising = elim (cases_lt p n) [
  | inl below ↦
      let rest = cut_rising n ps (λ i j d before within. rising (suc i) (suc j) d (omega arith) (omega arith)) in
      (suc rest.0, omega (arith, rest.1), (λ k at there. longer rest.0 below rest.2 k at there))
  | inr past ↦ (0, omega arith, (λ k at there. ((λ none. absurd (omega arith)), (λ low. let high = not_below k at there in absurd (omega arith)))))
]
  where
    longer : (count : ℕ) → p < n → IsCut ps count n → (k at : ℕ) → IsNth (p ∷ ps) k at → (k < suc count) ↔ (at < n)
    longer count below cut zero at there = ((λ l. let same = same_Some p at there in omega arith), (λ l. omega arith))
    longer count below cut (suc k) at there = ((λ l. (cut k at there).0 (omega arith)), (λ l. let less = (cut k at there).1 l in omega arith))

    not_below : (k at : ℕ) → IsNth (p ∷ ps) k at → p ≤ at
    not_below zero at there = let same = same_Some p at there in omega arith
    not_below (suc k) at there =
        let above = rising 0 (suc k) at (omega arith) (slice_get_within (p ∷ ps) (suc k) at there) in
        let same = get_or_from_slice_get (p ∷ ps) (suc k) at at there in
        omega arith

pub prefixes_cut_lem : PrefixesCutPositions
prefixes_cut_lem key h positions n are = cut_rising n positions are.rising

pub parts_up_to_lem : PartsUpToPositions
parts_up_to_lem key h positions i at are there = few_events key h positions (i + 1) (at + 1) are (λ k other then. (up k other then, down k other then))
  where
    up : (k other : ℕ) → IsNth positions k other → k < i + 1 → other < at + 1
    up k other then low = elim (cases_lt k i) [
      | inl before ↦ (let rise = nth_up key h positions are k i other at then there before in omega arith)
      | inr same ↦
          let one : k ≡ i = omega arith in
          let here = same_Some other at (sym then ∙ ap (λ m. slice_get positions m) one ∙ there) in
          omega arith
    ]

    down : (k other : ℕ) → IsNth positions k other → other < at + 1 → k < i + 1
    down k other then low = elim (cases_lt other at) [
      | inl before ↦ (let rise = nth_down key h positions are k i other at then there before in omega arith)
      | inr same ↦
          let one : other ≡ at = omega arith in
          let here = nth_one key h positions are k i at (then ∙ ap Some one) there in
          omega arith
    ]
