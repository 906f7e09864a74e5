-- How often items are in a bag.
use Rattle.std.proofs.Common.{◌≡◌, ◌+◌, ◌⊎◌, ℕ, Bool, true, false, cond, List, [], ◌∷◌, Contains, Ordering, Less, Equal, Greater, inl, inr, refl, sym, ap, subst, ◌∙◌, arith}
use Rattle.std.specs.Ordering.{match_ordering}
use Rattle.std.proofs.lemmas.Bool.{true≢false}
use Rattle.std.proofs.lemmas.List.Elements.{Contains-append_right}
use Rattle.lin_events.specs.declared.items.Item.{Item}
use Rattle.lin_events.specs.Sameness.{Decides-item_eq}
use Rattle.lin_events.specs.Items.{item_cmp, item_eq}
use Rattle.lin_lists.specs.lemmas.Elements.{first_or_rest, nothing_in}
use Rattle.lin_events.specs.declared.calls.Call.{Call}
use Rattle.lin_events.specs.declared.calls.Call.TheVariants.{Enqueue, Dequeue}
use Rattle.lin_events.specs.declared.calls.Reply.{Reply}
use Rattle.lin_events.specs.declared.calls.Reply.TheVariants as Replied
use Rattle.lin_events.specs.declared.calls.Val.TheVariants.{Nil, Item as Held}
use Rattle.lin_objects.specs.Bags.{bag_of, with_one, without_one}
use Rattle.lin_objects.specs.declared.kinds.Kind.TheVariants.{Bag}
use Rattle.lin_objects.specs.declared.states.State.{State}
use Rattle.lin_objects.specs.declared.states.State.TheVariants.{Bag as Bagged}
use Rattle.lin_objects.specs.Steps.{Step}
use Rattle.lin_certificates.specs.Adding.{Adds}
use Rattle.lin_certificates.specs.Numbers.{OfOne}
use Rattle.lin_certificates.specs.QueueConflicts.{Takes}
use Rattle.lin_certificates.specs.lemmas.Counting.{Changes}

-- whether the item is one of these
pub is_in : List Item → Item → Bool
is_in [] x = false
is_in (n ∷ ns) x = cond (item_eq n x) true (is_in ns x)

pub in_decides : (ns : List Item) (x : Item) → ((is_in ns x ≡ true) × Contains ns x) ⊎ ((is_in ns x ≡ false) × (Contains ns x → ⊥))
unfolding is_in
in_decides [] x = inr (refl, nothing_in x)
in_decides (n ∷ ns) x = by (item_eq n x) refl (in_decides ns x)
  where
    by : (b : Bool) → item_eq n x ≡ b → ((is_in ns x ≡ true) × Contains ns x) ⊎ ((is_in ns x ≡ false) × (Contains ns x → ⊥))
        → ((cond (item_eq n x) true (is_in ns x) ≡ true) × Contains (n ∷ ns) x) ⊎ ((cond (item_eq n x) true (is_in ns x) ≡ false) × (Contains (n ∷ ns) x → ⊥))
    by true is rest = inl (ap (λ b. cond b true (is_in ns x)) is, (0, omega arith, (Decides-item_eq n x).0 is))
    by false is rest = elim rest [
      | inl there ↦ inl (ap (λ b. cond b true (is_in ns x)) is ∙ there.0, Contains-append_right (n ∷ []) ns x there.1)
      | inr none ↦ inr (
        ap (λ b. cond b true (is_in ns x)) is ∙ none.0,
        λ there. elim (first_or_rest n ns x there) [
          | inl same ↦ true≢false (sym ((Decides-item_eq n x).1 same) ∙ is)
          | inr later ↦ none.1 later
        ],
      )
    ]

-- one, if the item is one of these
pub one : List Item → Item → ℕ
one ns x = cond (is_in ns x) 1 0

pub one_in : (ns : List Item) (x : Item) → is_in ns x ≡ true → one ns x ≡ 1
unfolding one
one_in ns x there = ap (λ b. cond b 1 0) there

pub one_out : (ns : List Item) (x : Item) → is_in ns x ≡ false → one ns x ≡ 0
unfolding one
one_out ns x none = ap (λ b. cond b 1 0) none

-- how many of these the list has
abbrev pub times : List Item → List Item → ℕ
times ns [] = 0
times ns (x ∷ xs) = one ns x + times ns xs

-- how many of them are in the bag
abbrev pub inside : State → List Item → ℕ
inside (Bagged q) ns = times ns q
inside _ ns = 0

times_with : (ns : List Item) (x : Item) (q : List Item) → times ns (with_one x q) ≡ one ns x + times ns q
times_with ns x [] = refl
times_with ns x (y ∷ ys) = by (item_cmp y x) (times_with ns x ys)
  where
    by : (o : Ordering) → times ns (with_one x ys) ≡ one ns x + times ns ys → times ns (match_ordering o (y ∷ with_one x ys) (x ∷ y ∷ ys) (x ∷ y ∷ ys)) ≡ one ns x + (one ns y + times ns ys)
    by Less rest = omega (arith, rest)
    by Equal rest = refl
    by Greater rest = refl

times_bag : (ns q : List Item) → times ns (bag_of q) ≡ times ns q
times_bag ns [] = refl
times_bag ns (x ∷ q) = times_with ns x (bag_of q) ∙ ap (λ k. one ns x + k) (times_bag ns q)

times_without : (ns : List Item) (y : Item) (q : List Item) → Contains q y → times ns q ≡ one ns y + times ns (without_one y q)
times_without ns y [] there = absurd (nothing_in y there)
times_without ns y (x ∷ q) there = by (item_eq x y) refl (λ rest. times_without ns y q rest)
  where
    by : (b : Bool) → item_eq x y ≡ b → (Contains q y → times ns q ≡ one ns y + times ns (without_one y q)) → one ns x + times ns q ≡ one ns y + times ns (cond b q (x ∷ without_one y q))
    by true same more = ap (λ z. one ns z + times ns q) ((Decides-item_eq x y).0 same)
    by false other more = elim (first_or_rest x q y there) [
      | inl same ↦ absurd (true≢false (sym ((Decides-item_eq x y).1 same) ∙ other))
      | inr rest ↦ let fewer = more rest in omega (arith, fewer)
    ]

-- an enqueue takes none out, a dequeue puts none in, and takes none out if it finds nothing
pub no_take : (x : Item) (ns : List Item) (reply : Reply) → OfOne ns (Takes (Enqueue x) reply) → ⊥
no_take x ns reply takes = takes.2

pub no_put : (ns : List Item) → OfOne ns (Adds Dequeue) → ⊥
no_put ns adds = adds.2

pub no_item : (ns : List Item) (reply : Reply) → reply ≡ Replied.Value Nil → OfOne ns (Takes Dequeue reply) → ⊥
no_item ns reply is takes = subst (λ r. Takes Dequeue r takes.0) is takes.2

-- how a step changes how many of the items are inside
pub changes : (s next : State) (call : Call) (reply : Reply) (ns : List Item) → Step Bag s call next reply → Changes (inside s ns) (inside next ns) call reply ns
changes (Bagged q) next (Enqueue x) reply ns step =
    let many : inside next ns ≡ one ns x + times ns q = ap (λ s. inside s ns) step.0 ∙ times_bag ns (x ∷ q) in
    elim (in_decides ns x) [
      | inl there ↦ let one_more = one_in ns x there.0 in inl ((x, there.1, refl), no_take x ns reply, omega (arith, many, one_more))
      | inr none ↦ let no_more = one_out ns x none.0 in inr (inr ((λ adds. none.1 (subst (Contains ns) (sym adds.2) adds.1)), no_take x ns reply, omega (arith, many, no_more)))
    ]
changes (Bagged (x ∷ q)) next Dequeue reply ns step =
    let y = step.0 in
    let many : inside next ns ≡ times ns (without_one y (x ∷ q)) = ap (λ s. inside s ns) step.2 in
    let were = times_without ns y (x ∷ q) step.1 in
    elim (in_decides ns y) [
      | inl there ↦ let one_less = one_in ns y there.0 in inr (inl ((y, there.1, subst (λ r. Takes Dequeue r y) (sym step.3) refl), no_put ns, omega (arith, many, were, one_less)))
      | inr none ↦
          let no_less = one_out ns y none.0 in
          inr (inr (no_put ns, (λ takes. none.1 (subst (Contains ns) (sym (subst (λ r. Takes Dequeue r takes.0) step.3 takes.2)) takes.1)), omega (arith, many, were, no_less)))
    ]
changes (Bagged []) next Dequeue reply ns step = inr (inr (no_put ns, no_item ns reply step.1, ap (λ s. inside s ns) step.0))
changes (Bagged q) next call reply ns step = absurd step
changes s next call reply ns step = absurd step

pub empties : (s next : State) (ns : List Item) → Step Bag s Dequeue next (Replied.Value Nil) → inside s ns ≡ 0
empties (Bagged []) next ns step = refl
empties (Bagged (x ∷ q)) next ns step = absurd (apart step.0 step.3)
  where
    apart : (y : Item) → Replied.Value Nil ≡ Replied.Value (Held y) → ⊥
    apart y e = cc
empties s next ns step = absurd step
