-- Legal orders for the objects, merged, are a legal order of the whole.
use Rattle.std.proofs.Common.{◌≡◌, ◌≢◌, ◌<◌, ◌≤◌, ◌⊎◌, ℕ, zero, suc, pos, Bool, true, false, nat_eq, List, [], ◌∷◌, length, get_or, map, filter, All, AllPairs, Contains, inl, inr, refl, sym, ap, subst, ◌∙◌, arith}
use Rattle.std.proofs.lemmas.Bool.{cases_eq, cases_lt, cases_order, false_from_ne_true}
use Rattle.std.proofs.lemmas.Bool.Decides.{Decides-eqb}
use Rattle.std.proofs.lemmas.List.{get_or_default, get_or_past}
use Rattle.std.proofs.lemmas.List.Elements.{All-contains, All-map, All-weaker, Contains-get_or}
use Rattle.lin_events.specs.declared.items.Item.{Item}
use Rattle.lin_events.specs.declared.items.Item.TheVariants.{Int}
use Rattle.lin_events.specs.Sameness.{Decides-item_eq}
use Rattle.lin_events.specs.Items.{item_eq}
use Rattle.lin_events.specs.declared.events.Body.TheVariants.{Invoke}
use Rattle.lin_events.specs.declared.events.Event.{Event}
use Rattle.lin_events.specs.declared.calls.Call.{Call}
use Rattle.lin_events.specs.Operations.{IsFailed}
use Rattle.lin_objects.specs.declared.kinds.Kind.{Kind}
use Rattle.lin_objects.specs.Steps.{start}
use Rattle.lin_order.specs.declared.placed.Placed.{Placed}
use Rattle.lin_order.specs.Orders.{IsBefore, IsCall, is_of_key, part_of}
use Rattle.lin_order.specs.Linearizable.{IsLegalFor, IsLegalOrder, IsLegalOrderFor}
use Rattle.lin_order.specs.Merging.{numbered_with, AreLegalParts, MergedOrdersAreLegal}
use Rattle.lin_order.specs.lemmas.OneEnd.{one_event}
use Rattle.lin_lists.specs.lemmas.Elements.{in_filter, from_filter}
use Rattle.lin_order.proofs.Positions.{event_of_key, of_key_event}
use Rattle.lin_lists.specs.lemmas.Filters.{in_map, from_map, filter_of_map, filter_none, pairs_kept, pairs_map, map_pairs, zip_at, zip_length}

-- a position is of one key
one_key : (h : List Event) (key other : Item) (at : ℕ) → is_of_key h key at ≡ true → is_of_key h other at ≡ true → key ≡ other
one_key h key other at of_it of_other =
    let a = event_of_key h key at of_it in
    let b = event_of_key h other at of_other in
    sym a.2 ∙ ap (λ (e : Event). e.key) (one_event h at a.0 b.0 a.1 b.1) ∙ b.2

-- where a key stands in a list, or that it stands nowhere
pub key_cases : (keys : List Item) (key : Item) → Contains keys key ⊎ All (λ k. k ≢ key) keys
key_cases [] key = inr (λ k d inside. absurd (omega arith))
key_cases (k ∷ keys) key = by (item_eq k key) (Decides-item_eq k key).0 (λ same. (Decides-item_eq k key).1 same) (key_cases keys key)
  where
    first_or : (k ≢ key) → All (λ k. k ≢ key) keys → (n : ℕ) (d : Item) → n < length (k ∷ keys) → get_or (k ∷ keys) n d ≢ key
    first_or differ none zero d inside = differ
    first_or differ none (suc n) d inside = none n d (omega arith)

    by : (b : Bool) → (b ≡ true → k ≡ key) → (k ≡ key → b ≡ true) → Contains keys key ⊎ All (λ k. k ≢ key) keys → Contains (k ∷ keys) key ⊎ All (λ k. k ≢ key) (k ∷ keys)
    by true same back rest = inl (0, omega arith, same refl)
    by false same back (inl there) = inl (suc there.0, omega (arith, there.1), there.2)
    by false same back (inr none) = inr (first_or (λ e. let never = back e in cc) none)

-- an operation of the part of a key
record IsOfPart (kinds : Item → Kind) (h : List Event) (keys : List Item) (parts : List (List Placed)) (number : ℕ) (p : Placed) : Type 0 where
  pub inside : number < length keys
  pub legal : IsLegalOrderFor kinds (get_or keys number (Int (pos 0))) h (get_or parts number [])
  pub there : Contains (get_or parts number []) p
  pub of_key : is_of_key h (get_or keys number (Int (pos 0))) p.at ≡ true

module _ (kinds : Item → Kind) (h : List Event) (parts : List (List Placed)) (are : AreLegalParts kinds h parts) (operations : List (ℕ × Placed)) where
  abbrev key_of : ℕ → Item
  key_of number = get_or are.keys number (Int (pos 0))

  legal_part : (number : ℕ) → number < length are.keys → IsLegalOrderFor kinds (key_of number) h (get_or parts number [])
  legal_part number inside = zip_at (λ key order. IsLegalOrderFor kinds key h order) are.keys parts number (Int (pos 0)) [] are.legal inside

  -- parts of two numbers are of two keys
  other_key : (m n : ℕ) → m < length are.keys → n < length are.keys → m ≢ n → key_of m ≢ key_of n
  other_key m n first second differ same = elim (cases_order m n) [
    | inl one ↦ differ one
    | inr either ↦ elim either [
      | inl below ↦ are.distinct m n (Int (pos 0)) below second same
      | inr above ↦ are.distinct n m (Int (pos 0)) above first (sym same)
    ]
  ]

  module _ (parts_of : (number : ℕ) → numbered_with number operations ≡ get_or parts number []) where
    is_of_part : (p : ℕ × Placed) → Contains operations p → IsOfPart kinds h are.keys parts p.0 p.1
    is_of_part p there = elim (cases_lt p.0 (length are.keys)) [
      | inl inside ↦ record {
        inside = inside;
        legal = legal_part p.0 inside;
        there = in_part;
        of_key = (All-contains (λ q. (call : Call) × IsCall h q.at call × (is_of_key h (key_of p.0) q.at ≡ true)) (get_or parts p.0 []) p.1 (legal_part p.0 inside).order_of.operations in_part).2;
      }
      | inr past ↦
          let many = zip_length (λ key order. IsLegalOrderFor kinds key h order) are.keys parts are.legal in
          let none = subst (λ l. Contains l p.1) (get_or_past parts p.0 [] (omega arith)) in_part in
          absurd (let no = none.1 in omega arith)
    ]
      where
        in_part : Contains (get_or parts p.0 []) p.1
        in_part = subst (λ l. Contains l p.1) (parts_of p.0) (in_map (λ (q : ℕ × Placed). q.1) (filter (λ (q : ℕ × Placed). nat_eq q.0 p.0) operations) p
            (in_filter (λ (q : ℕ × Placed). nat_eq q.0 p.0) operations p ((Decides-eqb p.0 p.0).1 refl) there))

    each : (P : Placed → Type 0) → ((number : ℕ) → number < length are.keys → All P (get_or parts number [])) → All P (map (λ (p : ℕ × Placed). p.1) operations)
    each P of_parts = All-map P (λ (p : ℕ × Placed). p.1) operations (λ k d inside.
        let of_it = is_of_part (get_or operations k d) (Contains-get_or operations k d inside) in
        All-contains P (get_or parts (get_or operations k d).0 []) (get_or operations k d).1 (of_parts (get_or operations k d).0 of_it.inside) of_it.there)

    -- two operations of one part stand in the order as they stand in the part
    same_part : (R : Placed → Placed → Type 0) → ((number : ℕ) → number < length are.keys → AllPairs R (get_or parts number []))
        → (i j : ℕ) (d : ℕ × Placed) → i < j → j < length operations → (get_or operations i d).0 ≡ (get_or operations j d).0 → R (get_or operations i d).1 (get_or operations j d).1
    same_part R of_parts i j d before within same =
        let number = (get_or operations j d).0 in
        let of_it = is_of_part (get_or operations j d) (Contains-get_or operations j d within) in
        let pairs = subst (AllPairs R) (sym (parts_of number)) (of_parts number of_it.inside) in
        pairs_kept (λ (q : ℕ × Placed). nat_eq q.0 number) (λ p q. R p.1 q.1) operations (map_pairs (λ (p : ℕ × Placed). p.1) R (filter (λ (q : ℕ × Placed). nat_eq q.0 number) operations) pairs)
        i j d before within ((Decides-eqb (get_or operations i d).0 number).1 same) ((Decides-eqb number number).1 refl)

    module _ (in_time : (i j : ℕ) (d : ℕ × Placed) → i < j → j < length operations
        → (k : ℕ) × (k ≤ j) × ((get_or operations k d).0 ≡ (get_or operations j d).0) × ((get_or operations i d).1.at ≤ (get_or operations k d).1.at)) where
      once : AllPairs (λ p q. p.at ≢ q.at) (map (λ (p : ℕ × Placed). p.1) operations)
      once = pairs_map (λ (p : ℕ × Placed). p.1) (λ p q. p.at ≢ q.at) operations (λ i j d before within. elim (cases_eq (get_or operations i d).0 (get_or operations j d).0) [
        | inl same ↦ same_part (λ p q. p.at ≢ q.at) (λ number inside. (legal_part number inside).order_of.once) i j d before within same
        | inr differ ↦ (λ at_one.
            let first = is_of_part (get_or operations i d) (Contains-get_or operations i d (omega arith)) in
            let second = is_of_part (get_or operations j d) (Contains-get_or operations j d within) in
            other_key (get_or operations i d).0 (get_or operations j d).0 first.inside second.inside differ
            (one_key h (key_of (get_or operations i d).0) (key_of (get_or operations j d).0) (get_or operations j d).1.at (subst (λ at. is_of_key h (key_of (get_or operations i d).0) at ≡ true) at_one first.of_key) second.of_key))
      ])

      real_time : AllPairs (λ p q. IsBefore h q.at p.at → ⊥) (map (λ (p : ℕ × Placed). p.1) operations)
      real_time = pairs_map (λ (p : ℕ × Placed). p.1) (λ p q. IsBefore h q.at p.at → ⊥) operations (λ i j d before within early.
          let reached = in_time i j d before within in
          let late : early.0 < (get_or operations reached.0 d).1.at = omega (arith, early.3, reached.3) in
          elim (cases_lt reached.0 j) [
            | inl ahead ↦ same_part (λ p q. IsBefore h q.at p.at → ⊥) (λ number inside. (legal_part number inside).order_of.real_time) reached.0 j d ahead within reached.2 (early.0, early.1, early.2, late)
            | inr here ↦
                let one : reached.0 ≡ j = omega (arith, reached.1) in
                let place = ap (λ k. (get_or operations k d).1.at) one in
                let after = early.2.1.later in
                absurd (omega arith)
          ])

      -- the part of a key in the order
      part_found : (number : ℕ) → number < length are.keys → part_of h (key_of number) (map (λ (p : ℕ × Placed). p.1) operations) ≡ get_or parts number []
      part_found number inside = filter_of_map (λ (p : ℕ × Placed). p.1) (λ p. is_of_key h (key_of number) p.at) (λ p. nat_eq p.0 number) operations agree ∙ parts_of number
        where
          agree : All (λ p. is_of_key h (key_of number) p.1.at ≡ nat_eq p.0 number) operations
          agree k d within = elim (cases_eq (get_or operations k d).0 number) [
            | inl same ↦ subst (λ n. is_of_key h (key_of n) (get_or operations k d).1.at ≡ true) same (is_of_part (get_or operations k d) (Contains-get_or operations k d within)).of_key
                ∙ sym ((Decides-eqb (get_or operations k d).0 number).1 same)
            | inr differ ↦ false_from_ne_true (is_of_key h (key_of number) (get_or operations k d).1.at) (λ of_it.
                let of_part = is_of_part (get_or operations k d) (Contains-get_or operations k d within) in
                other_key (get_or operations k d).0 number of_part.inside inside differ (one_key h (key_of (get_or operations k d).0) (key_of number) (get_or operations k d).1.at of_part.of_key of_it))
                ∙ sym (false_from_ne_true (nat_eq (get_or operations k d).0 number) (λ same. differ ((Decides-eqb (get_or operations k d).0 number).0 same)))
          ]

      part_none : (key : Item) → All (λ k. k ≢ key) are.keys → part_of h key (map (λ (p : ℕ × Placed). p.1) operations) ≡ []
      part_none key none = filter_of_map (λ (p : ℕ × Placed). p.1) (λ p. is_of_key h key p.at) (λ p. false) operations
          (λ k d within. false_from_ne_true (is_of_key h key (get_or operations k d).1.at) (λ of_it.
          let of_part = is_of_part (get_or operations k d) (Contains-get_or operations k d within) in
          none (get_or operations k d).0 (Int (pos 0)) of_part.inside (one_key h (key_of (get_or operations k d).0) key (get_or operations k d).1.at of_part.of_key of_it)))
          ∙ ap (map (λ (p : ℕ × Placed). p.1)) (filter_none operations)

      each_legal : (key : Item) → IsLegalFor (kinds key) h (part_of h key (map (λ (p : ℕ × Placed). p.1) operations))
      each_legal key = elim (key_cases are.keys key) [
        | inl there ↦
            let is : key_of there.0 ≡ key = get_or_default are.keys there.0 (Int (pos 0)) key there.1 ∙ there.2 in
            subst (λ k. IsLegalFor (kinds k) h (part_of h k (map (λ (p : ℕ × Placed). p.1) operations))) is
            (subst (IsLegalFor (kinds (key_of there.0)) h) (sym (part_found there.0 there.1)) (legal_part there.0 there.1).legal)
        | inr none ↦ subst (IsLegalFor (kinds key) h) (sym (part_none key none)) (start (kinds key), refl)
      ]

pub merged_orders_lem : MergedOrdersAreLegal
merged_orders_lem kinds h parts order are merged = subst (IsLegalOrder kinds h) merged.order_of (record {
  order_of = record {
    operations = each kinds h parts are merged.operations merged.parts_of (λ p. (call : Call) × IsCall h p.at call × Unit {0}) (λ number inside.
        All-weaker (λ p. (call : Call) × IsCall h p.at call × (is_of_key h (get_or are.keys number (Int (pos 0))) p.at ≡ true)) (λ p. (call : Call) × IsCall h p.at call × Unit {0}) (λ p is. (is.0, is.1, tt))
        (get_or parts number []) (legal_part kinds h parts are merged.operations number inside).order_of.operations);
    once = once kinds h parts are merged.operations merged.parts_of merged.in_time;
    none_failed = each kinds h parts are merged.operations merged.parts_of (λ p. IsFailed h p.at → ⊥) (λ number inside. (legal_part kinds h parts are merged.operations number inside).order_of.none_failed);
    each_ok = λ at end reply of_it ok.
        let e = ok.1 in
        let event : Event = record { process = e.process; key = e.key; body = Invoke e.call } in
        let there = are.complete at event e.begins in
        let is : get_or are.keys there.0 (Int (pos 0)) ≡ e.key = get_or_default are.keys there.0 (Int (pos 0)) e.key there.1 ∙ there.2 in
        let placed = (legal_part kinds h parts are merged.operations there.0 there.1).order_of.each_ok at end reply (of_key_event h (get_or are.keys there.0 (Int (pos 0))) at event e.begins (sym is)) ok in
        in_whole there.0 (record { at = at; reply = reply }) placed;
    real_time = real_time kinds h parts are merged.operations merged.parts_of merged.in_time;
  };
  legal = each_legal kinds h parts are merged.operations merged.parts_of merged.in_time;
})
  where
    in_whole : (number : ℕ) (p : Placed) → Contains (get_or parts number []) p → Contains (map (λ (q : ℕ × Placed). q.1) merged.operations) p
    in_whole number p there =
        let kept = from_map (λ (q : ℕ × Placed). q.1) (filter (λ (q : ℕ × Placed). nat_eq q.0 number) merged.operations) p (subst (λ l. Contains l p) (sym (merged.parts_of number)) there) in
        let whole = from_filter (λ (q : ℕ × Placed). nat_eq q.0 number) merged.operations kept.0 kept.1 in
        subst (Contains (map (λ (q : ℕ × Placed). q.1) merged.operations)) kept.2 (in_map (λ (q : ℕ × Placed). q.1) merged.operations kept.0 whole.0)
