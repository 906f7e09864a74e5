-- Which calls of each kind go first.
use Rattle.std.proofs.Common.{◌≡◌, ◌⊎◌, ◌≤◌, ◌+◌, ℕ, Bool, true, false, List, [], ◌∷◌, ◌++◌, length, count_by, Contains, IsPermutation, inl, inr, refl, sym, ap, subst, ◌∙◌, arith, true≢false, nat_eq, nat_lt, suc, ◌||◌}
use Rattle.std.proofs.lemmas.Bool.{cases_Bool, or_cases}
use Rattle.std.proofs.lemmas.List.Folds.{Any-from_list_any, list_any-from_Any}
use Rattle.std.proofs.lemmas.List.Sorted.{IsPermutation-cons, IsPermutation-refl, IsPermutation-sym, IsPermutation-to_front}
use Rattle.lin_events.specs.declared.items.Item.{Item}
use Rattle.lin_events.specs.Sameness.{Decides-item_eq}
use Rattle.lin_events.specs.Items.{item_eq}
use Rattle.lin_lists.specs.lemmas.Elements.{first_or_rest, nothing_in}
use Rattle.lin_events.specs.declared.calls.Call.{Call}
use Rattle.lin_events.specs.declared.calls.Call.TheVariants.{Enqueue, Dequeue}
use Rattle.lin_events.specs.declared.calls.Reply.{Reply}
use Rattle.lin_events.specs.declared.calls.Reply.TheVariants as Replied
use Rattle.lin_events.specs.declared.calls.Val.TheVariants.{Nil, Item as Held}
use Rattle.lin_objects.specs.declared.kinds.Kind.{Kind}
use Rattle.lin_objects.specs.declared.kinds.Kind.TheVariants.{Register, CasRegister, Fifo, Set, Mutex, Bag}
use Rattle.lin_objects.specs.declared.states.State.{State}
use Rattle.lin_objects.specs.declared.states.State.TheVariants.{Bag as Bagged}
use Rattle.lin_objects.specs.Ahead.{AreAhead, IsFirst, Takes, goes_first, hinders}
use Rattle.lin_objects.specs.Bags.{bag_of, without_one}
use Rattle.lin_objects.specs.Commuting.{GoesFirst, set_goes_first}
use Rattle.lin_objects.specs.Steps.{Step}
use Rattle.lin_objects.specs.Total.{has_item}
use Rattle.lin_objects.specs.lemmas.Bags.{bag_either}
use Rattle.lin_objects.specs.lemmas.Counted.{count_no, count_yes, from_eq, from_le, from_lt, none_counted}
use Rattle.lin_objects.specs.lemmas.Order.{this_or_other}
use Rattle.lin_objects.specs.lemmas.Outs.{bag_long, bag_without, from_bag, in_bag, one_less, out_either, still_in, was_in}

module _ {S : Type 0} (step : S → Call → S → Reply → Type 0) where
  -- one more call at the end
  pub takes_last : (others : List (ℕ × Call × Reply)) (state mid last : S) (x : ℕ × Call × Reply) → Takes step state others mid → step mid x.1 last x.2 → Takes step state (others ++ x ∷ []) last
  takes_last [] state mid last x takes steps = (last, subst (λ s. step s x.1 last x.2) (sym takes) steps, refl)
  takes_last (y ∷ others) state mid last x takes steps = (takes.0, takes.1, takes_last others takes.0 mid last x takes.2 steps)

  -- a call that goes first of each one that doesn't hinder it goes first of all of them
  by_pairs : (hinders : Call → Bool) (call : Call) (reply : Reply) → ((other : Call) → hinders other ≡ false → GoesFirst step call other)
      → (others : List (ℕ × Call × Reply)) (state mid last : S) → count_by (λ x. hinders x.1) others ≤ 0 → Takes step state others mid → step mid call last reply
      → (first : S) × step state call first reply × Takes step first others last
  by_pairs hinders call reply swap [] state mid last none takes steps = (last, subst (λ s. step s call last reply) (sym takes) steps, refl)
  by_pairs hinders call reply swap (x ∷ others) state mid last none takes steps =
      let not_this = none_counted (λ (y : ℕ × Call × Reply). hinders y.1) x others none in
      let later = by_pairs hinders call reply swap others takes.0 mid last not_this.1 takes.2 steps in
      let now = swap x.1 not_this.0 state takes.0 later.0 x.2 reply takes.1 later.1 in
      (now.0, now.1, (later.0, now.2, later.2))

  pub first_by_pairs : (hinders : Call → Bool) (call : Call) (reply : Reply) → ((other : Call) → hinders other ≡ false → GoesFirst step call other) → (many : ℕ) → nat_eq many 0 ≡ true
      → (others : List (ℕ × Call × Reply)) (state mid last : S) → count_by (λ x. hinders x.1) others ≤ many → Takes step state others mid → step mid call last reply → IsFirst step state call reply others last
  first_by_pairs hinders call reply swap many none others state mid last few takes steps =
      let zero' = from_eq many 0 none in
      let first = by_pairs hinders call reply swap others state mid last (omega (arith, zero', few)) takes steps in
      (first.0, first.1, others, IsPermutation-refl others, first.2)

-- a bag's dequeues
take_out : (q : List Item) (y : Item) → Contains q y → Step Bag (Bagged q) Dequeue (Bagged (without_one y q)) (Replied.Value (Held y))
take_out [] y there = absurd (nothing_in y there)
take_out (x ∷ q) y there = (y, there, refl, refl)

taken_out : (q : List Item) (next : State) (reply : Reply) → Step Bag (Bagged q) Dequeue next reply
    → ((q ≡ []) × (next ≡ Bagged []) × (reply ≡ Replied.Value Nil)) ⊎ ((y : Item) × Contains q y × (next ≡ Bagged (without_one y q)) × (reply ≡ Replied.Value (Held y)))
taken_out [] next reply steps = inl (refl, steps.0, steps.1)
taken_out (x ∷ q) next reply steps = inr steps

same_item : {x y : Item} → Replied.Value (Held x) ≡ Replied.Value (Held y) → x ≡ y
same_item e = cc

no_item : {y : Item} → Replied.Value Nil ≡ Replied.Value (Held y) → ⊥
no_item e = cc

-- behind an enqueue the others do as ahead of it, where an item is inside for each dequeue
behind_enqueue : (x : Item) (given : Reply) (others : List (ℕ × Call × Reply)) (q : List Item) (mid : State) → count_by (λ o. hinders Bag (Enqueue x) given o.1) others ≤ length q → Takes (Step Bag) (Bagged q) others mid
    → (m : List Item) × (mid ≡ Bagged m) × Takes (Step Bag) (Bagged (bag_of (x ∷ q))) others (Bagged (bag_of (x ∷ m)))
behind_enqueue x given [] q mid few takes = (q, sym takes, refl)
behind_enqueue x given ((p, Enqueue y, r) ∷ others) q mid few takes =
    let next = subst (λ s. Takes (Step Bag) s others mid) takes.1.0 takes.2 in
    let many = count_no (λ (o : ℕ × Call × Reply). hinders Bag (Enqueue x) given o.1) (p, Enqueue y, r) others refl in
    let more = bag_long (y ∷ q) in
    let h = behind_enqueue x given others (bag_of (y ∷ q)) mid (omega (arith, many, more, few)) next in (
      h.0,
      h.1,
      (Bagged (bag_of (y ∷ bag_of (x ∷ q))), (refl, takes.1.1), subst (λ l. Takes (Step Bag) (Bagged l) others (Bagged (bag_of (x ∷ h.0)))) (bag_either x y q) h.2),
    )
behind_enqueue x given ((p, Dequeue, r) ∷ others) q mid few takes =
    let many = count_yes (λ (o : ℕ × Call × Reply). hinders Bag (Enqueue x) given o.1) (p, Dequeue, r) others refl in
    elim (taken_out q takes.0 r takes.1) [
      | inl none ↦ let empty = ap length none.0 in absurd (omega (arith, many, empty, few))
      | inr some ↦
          let less = one_less some.0 q some.1 in
          let next = subst (λ s. Takes (Step Bag) s others mid) some.2 takes.2 in
          let h = behind_enqueue x given others (without_one some.0 q) mid (omega (arith, many, less, few)) next in
          let out = take_out (bag_of (x ∷ q)) some.0 (in_bag (x ∷ q) some.0 (later x q some.0 some.1)) in (
            h.0,
            h.1,
            (
              Bagged (without_one some.0 (bag_of (x ∷ q))),
              subst (Step Bag (Bagged (bag_of (x ∷ q))) Dequeue (Bagged (without_one some.0 (bag_of (x ∷ q))))) (sym some.3) out,
              subst (λ l. Takes (Step Bag) (Bagged l) others (Bagged (bag_of (x ∷ h.0)))) (sym (bag_without x some.0 q some.1)) h.2,
            ),
          )
    ]
  where
    later : (x : Item) (q : List Item) (y : Item) → Contains q y → Contains (x ∷ q) y
    later x q y there = (suc there.0, omega (arith, there.1), there.2)
behind_enqueue x given ((p, _, r) ∷ others) q mid few takes = absurd takes.1

-- behind a dequeue that finds what is inside the others come to the same end, where one that found it as well comes last
behind_dequeue : (v : Item) (others : List (ℕ × Call × Reply)) (q : List Item) (mid last : State) → Contains q v → Takes (Step Bag) (Bagged q) others mid → Step Bag mid Dequeue last (Replied.Value (Held v))
    → (again : List (ℕ × Call × Reply)) × IsPermutation others again × Takes (Step Bag) (Bagged (without_one v q)) again last
behind_dequeue v [] q mid last there takes steps = elim (taken_out q last (Replied.Value (Held v)) (subst (λ s. Step Bag s Dequeue last (Replied.Value (Held v))) (sym takes) steps)) [
  | inl none ↦ absurd (nothing_in v (subst (λ l. Contains l v) none.0 there))
  | inr some ↦ ([], IsPermutation-refl [], ap (λ w. Bagged (without_one w q)) (same_item some.3) ∙ sym some.2)
]
behind_dequeue v ((p, Enqueue y, r) ∷ others) q mid last there takes steps =
    let next = subst (λ s. Takes (Step Bag) s others mid) takes.1.0 takes.2 in
    let h = behind_dequeue v others (bag_of (y ∷ q)) mid last (in_bag (y ∷ q) v (suc there.0, omega (arith, there.1), there.2)) next steps in (
      (p, Enqueue y, r) ∷ h.0,
      IsPermutation-cons (p, Enqueue y, r) others h.0 h.1,
      (Bagged (bag_of (y ∷ without_one v q)), (refl, takes.1.1), subst (λ l. Takes (Step Bag) (Bagged l) h.0 last) (bag_without y v q there) h.2),
    )
behind_dequeue v ((p, Dequeue, r) ∷ others) q mid last there takes steps = elim (taken_out q takes.0 r takes.1) [
  | inl none ↦ absurd (nothing_in v (subst (λ l. Contains l v) none.0 there))
  | inr some ↦ elim (this_or_other some.0 v) [
    | inl same ↦ (
      others ++ (p, Dequeue, r) ∷ [],
      IsPermutation-sym _ _ (IsPermutation-to_front others (p, Dequeue, r)),
      takes_last (Step Bag) others (Bagged (without_one v q)) mid last (p, Dequeue, r) (subst (λ s. Takes (Step Bag) s others mid) (some.2 ∙ ap (λ w. Bagged (without_one w q)) same) takes.2)
          (subst (Step Bag mid Dequeue last) (sym (some.3 ∙ ap (λ w. Replied.Value (Held w)) same)) steps),
    )
    | inr differ ↦
        let next = subst (λ s. Takes (Step Bag) s others mid) some.2 takes.2 in
        let h = behind_dequeue v others (without_one some.0 q) mid last (still_in some.0 v q differ there) next steps in
        let out = take_out (without_one v q) some.0 (still_in v some.0 q (λ e. differ (sym e)) some.1) in (
          (p, Dequeue, r) ∷ h.0,
          IsPermutation-cons (p, Dequeue, r) others h.0 h.1,
          (
            Bagged (without_one some.0 (without_one v q)),
            subst (Step Bag (Bagged (without_one v q)) Dequeue (Bagged (without_one some.0 (without_one v q)))) (sym some.3) out,
            subst (λ l. Takes (Step Bag) (Bagged l) h.0 last) (out_either v some.0 q) h.2,
          ),
        )
  ]
]
behind_dequeue v ((p, _, r) ∷ others) q mid last there takes steps = absurd takes.1

-- what isn't inside is found only where it is enqueued
stays_out : (v : Item) (others : List (ℕ × Call × Reply)) (q : List Item) (mid : State) → (Contains q v → ⊥) → count_by (λ o. hinders Bag Dequeue (Replied.Value (Held v)) o.1) others ≤ 0 → Takes (Step Bag) (Bagged q) others mid
    → (m : List Item) × (mid ≡ Bagged m) × (Contains m v → ⊥)
stays_out v [] q mid out none takes = (q, sym takes, out)
stays_out v ((p, Enqueue y, r) ∷ others) q mid out none takes =
    let counted = none_counted (λ (o : ℕ × Call × Reply). hinders Bag Dequeue (Replied.Value (Held v)) o.1) (p, Enqueue y, r) others none in
    stays_out v others (bag_of (y ∷ q)) mid
    (λ there. elim (first_or_rest y q v (from_bag (y ∷ q) v there)) [
      | inl same ↦ true≢false (sym ((Decides-item_eq v y).1 (sym same)) ∙ counted.0)
      | inr later ↦ out later
    ])
    counted.1 (subst (λ s. Takes (Step Bag) s others mid) takes.1.0 takes.2)
stays_out v ((p, Dequeue, r) ∷ others) q mid out none takes =
    let counted = none_counted (λ (o : ℕ × Call × Reply). hinders Bag Dequeue (Replied.Value (Held v)) o.1) (p, Dequeue, r) others none in
    elim (taken_out q takes.0 r takes.1) [
      | inl empty ↦ stays_out v others [] mid (λ there. nothing_in v there) counted.1 (subst (λ s. Takes (Step Bag) s others mid) empty.1 takes.2)
      | inr some ↦ stays_out v others (without_one some.0 q) mid (λ there. out (was_in some.0 v q there)) counted.1 (subst (λ s. Takes (Step Bag) s others mid) some.2 takes.2)
    ]
stays_out v ((p, _, r) ∷ others) q mid out none takes = absurd takes.1

-- each dequeue takes out one item at most
left_inside : (others : List (ℕ × Call × Reply)) (q : List Item) (mid : State) → Takes (Step Bag) (Bagged q) others mid
    → (m : List Item) × (mid ≡ Bagged m) × (length q ≤ length m + count_by (λ o. hinders Bag Dequeue (Replied.Value Nil) o.1) others)
left_inside [] q mid takes = (q, sym takes, omega arith)
left_inside ((p, Enqueue y, r) ∷ others) q mid takes =
    let many = count_no (λ (o : ℕ × Call × Reply). hinders Bag Dequeue (Replied.Value Nil) o.1) (p, Enqueue y, r) others refl in
    let more = bag_long (y ∷ q) in
    let h = left_inside others (bag_of (y ∷ q)) mid (subst (λ s. Takes (Step Bag) s others mid) takes.1.0 takes.2) in
    (h.0, h.1, omega (arith, many, more, h.2))
left_inside ((p, Dequeue, r) ∷ others) q mid takes =
    let many = count_yes (λ (o : ℕ × Call × Reply). hinders Bag Dequeue (Replied.Value Nil) o.1) (p, Dequeue, r) others refl in
    elim (taken_out q takes.0 r takes.1) [
      | inl empty ↦
          let h = left_inside others [] mid (subst (λ s. Takes (Step Bag) s others mid) empty.1 takes.2) in
          let nothing = ap length empty.0 in
          (h.0, h.1, omega (arith, many, nothing))
      | inr some ↦
          let less = one_less some.0 q some.1 in
          let h = left_inside others (without_one some.0 q) mid (subst (λ s. Takes (Step Bag) s others mid) some.2 takes.2) in
          (h.0, h.1, omega (arith, many, less, h.2))
    ]
left_inside ((p, _, r) ∷ others) q mid takes = absurd takes.1

-- a dequeue that finds nothing leaves nothing
finds_nothing : (m : List Item) (last : State) → Step Bag (Bagged m) Dequeue last (Replied.Value Nil) → (m ≡ []) × (last ≡ Bagged [])
finds_nothing m last steps = elim (taken_out m last (Replied.Value Nil) steps) [
  | inl none ↦ (none.0, none.1)
  | inr some ↦ absurd (no_item some.3)
]

empty_list : (q : List Item) → length q ≡ 0 → q ≡ []
empty_list [] e = refl
empty_list (x ∷ q) e = absurd (omega (arith, e))

inside : (v : Item) (q : List Item) → has_item v q ≡ true → Contains q v
inside v q e = let is = Any-from_list_any (λ y. item_eq y v) q e in subst (Contains q) ((Decides-item_eq is.1 v).0 is.4) (is.0, is.2, is.3)

is_inside : (v : Item) (q : List Item) → Contains q v → has_item v q ≡ true
is_inside v q there = list_any-from_Any (λ y. item_eq y v) q (there.0, v, there.1, there.2, (Decides-item_eq v v).1 refl)

no_step : (state : State) (call : Call) (next : State) (reply : Reply) → Step Bag state call next reply → (q : List Item) × (state ≡ Bagged q)
no_step (Bagged q) call next reply steps = (q, refl)
no_step _ call next reply steps = absurd steps

-- from what is no bag nothing goes
no_first : (state : State) → ((q : List Item) → state ≡ Bagged q → ⊥) → (call : Call) (reply : Reply) (others : List (ℕ × Call × Reply)) (mid last : State) → Takes (Step Bag) state others mid → Step Bag mid call last reply
    → IsFirst (Step Bag) state call reply others last
no_first state never call reply [] mid last takes steps = let is = no_step state call last reply (subst (λ s. Step Bag s call last reply) (sym takes) steps) in absurd (never is.0 is.1)
no_first state never call reply (x ∷ others) mid last takes steps = let is = no_step state x.1 takes.0 x.2 takes.1 in absurd (never is.0 is.1)

or_first : (a b : Bool) → (a || b) ≡ true → b ≡ false → a ≡ true
or_first true b e no' = refl
or_first false b e no' = absurd (true≢false (sym e ∙ no'))

-- calls of all kinds go first where it is said
pub calls_go_first : (kind : Kind) → AreAhead (Step kind) (hinders kind) (goes_first kind)
calls_go_first Bag (Bagged q) (Enqueue x) reply many says others mid last few takes steps =
    let within = from_le many (length q) says in
    let h = behind_enqueue x reply others q mid (omega (arith, few, within)) takes in
    let end = subst (λ s. Step Bag s (Enqueue x) last reply) h.1 steps in
    (Bagged (bag_of (x ∷ q)), (refl, end.1), others, IsPermutation-refl others, subst (Takes (Step Bag) (Bagged (bag_of (x ∷ q))) others) (sym end.0) h.2)
calls_go_first Bag (Bagged q) Dequeue (Replied.Value (Held v)) many says others mid last few takes steps = elim (cases_Bool (has_item v q)) [
  | inl yes' ↦
      let there = inside v q yes' in
      let h = behind_dequeue v others q mid last there takes steps in
      (Bagged (without_one v q), take_out q v there, h.0, h.1, h.2)
  | inr no' ↦
      let none = from_eq many 0 (or_first (nat_eq many 0) (has_item v q) says no') in
      let h = stays_out v others q mid (λ there. true≢false (sym (is_inside v q there) ∙ no')) (omega (arith, few, none)) takes in
      absurd (elim (taken_out h.0 last (Replied.Value (Held v)) (subst (λ s. Step Bag s Dequeue last (Replied.Value (Held v))) h.1 steps)) [
        | inl empty ↦ no_item (sym empty.2)
        | inr some ↦ h.2 (subst (Contains h.0) (sym (same_item some.3)) some.1)
      ])
]
calls_go_first Bag (Bagged q) Dequeue (Replied.Value Nil) many says others mid last few takes steps =
    let h = left_inside others q mid takes in
    let end = finds_nothing h.0 last (subst (λ s. Step Bag s Dequeue last (Replied.Value Nil)) h.1 steps) in
    let none : length h.0 ≡ 0 = ap length end.0 in
    elim (or_cases (nat_eq (length q) 0) (nat_lt many (length q)) says) [
      | inl no_more ↦
          let empty = empty_list q (from_eq (length q) 0 no_more) in
          let stays : Takes (Step Bag) (Bagged []) others last = subst (λ l. Takes (Step Bag) (Bagged l) others last) empty (subst (Takes (Step Bag) (Bagged q) others) (h.1 ∙ ap Bagged end.0 ∙ sym end.1) takes) in
          (Bagged [], subst (λ l. Step Bag (Bagged l) Dequeue (Bagged []) (Replied.Value Nil)) (sym empty) (refl, refl), others, IsPermutation-refl others, stays)
      | inr more ↦ let above = from_lt many (length q) more in absurd (omega (arith, few, above, none, h.2))
    ]
calls_go_first Bag (Bagged q) call reply many says others mid last few takes steps =
    first_by_pairs (Step Bag) (hinders Bag call reply) call reply (λ other c. absurd (true≢false c)) many says others (Bagged q) mid last few takes steps
calls_go_first Bag _ call reply many says others mid last few takes steps = no_first _ (λ q e. cc) call reply others mid last takes steps
calls_go_first Set state call reply many says others mid last few takes steps = first_by_pairs (Step Set) (hinders Set call reply) call reply (set_goes_first call reply) many says others state mid last few takes steps
calls_go_first Register state call reply many says others mid last few takes steps =
    first_by_pairs (Step Register) (hinders Register call reply) call reply (λ other c. absurd (true≢false c)) many says others state mid last few takes steps
calls_go_first CasRegister state call reply many says others mid last few takes steps =
    first_by_pairs (Step CasRegister) (hinders CasRegister call reply) call reply (λ other c. absurd (true≢false c)) many says others state mid last few takes steps
calls_go_first Fifo state call reply many says others mid last few takes steps =
    first_by_pairs (Step Fifo) (hinders Fifo call reply) call reply (λ other c. absurd (true≢false c)) many says others state mid last few takes steps
calls_go_first Mutex state call reply many says others mid last few takes steps =
    first_by_pairs (Step Mutex) (hinders Mutex call reply) call reply (λ other c. absurd (true≢false c)) many says others state mid last few takes steps
