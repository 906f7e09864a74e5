-- What a set may answer can be decided.
use Rattle.std.proofs.Common.{◌≡◌, List, [], ◌∷◌, ◌⊎◌, inl, inr, All, refl, arith}
use Rattle.std.proofs.lemmas.List.Elements.{All-cons, All-head, All-tail}
use Rattle.std.specs.declared.cmp.Ordering.{Ordering}
use Rattle.std.specs.declared.cmp.Ordering.TheVariants.{Less, Equal, Greater}
use Rattle.lin_events.specs.declared.items.Item.{Item}
use Rattle.lin_events.specs.Items.{item_cmp}
use Rattle.lin_events.specs.declared.calls.Call.{Call}
use Rattle.lin_events.specs.declared.calls.Call.TheVariants.{Read, Add}
use Rattle.lin_events.specs.declared.calls.Reply.{Reply}
use Rattle.lin_events.specs.declared.calls.Reply.TheVariants as Replied
use Rattle.lin_lists.specs.Sets.{IsRising}
use Rattle.lin_sets.specs.Conflicts.{IsAnswer}

less_or_not : (x y : Item) → (item_cmp x y ≡ Less) ⊎ (item_cmp x y ≡ Less → ⊥)
less_or_not x y = by (item_cmp x y)
  where
    by : (o : Ordering) → (o ≡ Less) ⊎ (o ≡ Less → ⊥)
    by Less = inl refl
    by Equal = inr (λ e. cc)
    by Greater = inr (λ e. cc)

below_or_not : (x : Item) (s : List Item) → All (λ y. item_cmp x y ≡ Less) s ⊎ (All (λ y. item_cmp x y ≡ Less) s → ⊥)
below_or_not x [] = inl (λ k d inside. absurd (omega arith))
below_or_not x (y ∷ s) = elim (less_or_not x y) [
  | inr above ↦ inr (λ all. above (All-head (λ z. item_cmp x z ≡ Less) y s all))
  | inl below ↦ elim (below_or_not x s) [
    | inl rest ↦ inl (All-cons (λ z. item_cmp x z ≡ Less) y s below rest)
    | inr none ↦ inr (λ all. none (All-tail (λ z. item_cmp x z ≡ Less) y s all))
  ]
]

rising_or_not : (s : List Item) → IsRising item_cmp s ⊎ (IsRising item_cmp s → ⊥)
rising_or_not [] = inl tt
rising_or_not (x ∷ s) = elim (below_or_not x s) [
  | inr none ↦ inr (λ rising. none rising.0)
  | inl below ↦ elim (rising_or_not s) [
    | inl rest ↦ inl (below, rest)
    | inr none ↦ inr (λ rising. none rising.1)
  ]
]

pub answer_or_not : (call : Call) (reply : Reply) → IsAnswer call reply ⊎ (IsAnswer call reply → ⊥)
answer_or_not (Add x) Replied.Done = inl refl
answer_or_not (Add x) (Replied.Value v) = inr (λ e. cc)
answer_or_not (Add x) (Replied.Members s) = inr (λ e. cc)
answer_or_not Read (Replied.Members s) = rising_or_not s
answer_or_not Read reply = inr (λ e. e)
answer_or_not call reply = inr (λ e. e)
