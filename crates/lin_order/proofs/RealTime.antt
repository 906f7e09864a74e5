-- The latest position of a part of an order, and real time.
use Rattle.std.proofs.Common.{◌≡◌, ◌≤◌, ◌<◌, ℕ, ◌+◌, List, Bool, Decides, IsTrue, ◌↔◌, [], ◌∷◌, ◌++◌, length, max, All, Contains, ◌⊎◌, inl, inr, refl, sym, subst, arith, take, get_or}
use Rattle.std.proofs.lemmas.Bool.{cases_lt}
use Rattle.std.proofs.lemmas.List.Elements.{All-push, All-weaker, Contains-push, Contains-append_left}
use Rattle.lin_events.specs.declared.events.Event.{Event}
use Rattle.lin_events.specs.declared.calls.Reply.{Reply}
use Rattle.lin_events.specs.Operations.{IsOk}
use Rattle.lin_order.specs.declared.placed.Placed.{Placed}
use Rattle.lin_order.specs.Orders.{IsBefore}
use Rattle.lin_order.specs.Tables.{KeepsRealTime}
use Rattle.lin_order.specs.lemmas.Lists.{take_more}
use Rattle.lin_order.specs.lemmas.OneEnd.{one_ok}
use Rattle.lin_order.specs.lemmas.Each.{pairs_more, not_pairs}

-- the position is the greatest of the order's, or 0 where it has none
pub record IsLatestOf (order : List Placed) (latest : ℕ) : Type 0 where
  pub bound : All (λ p. p.at ≤ latest) order
  pub reached : (latest ≡ 0) ⊎ ((p : Placed) × Contains order p × (p.at ≡ latest))

pub latest_none : IsLatestOf [] 0
latest_none = record { bound = λ k d inside. absurd (omega arith); reached = inl refl }

latest_push : (order : List Placed) (latest : ℕ) (p : Placed) → IsLatestOf order latest → IsLatestOf (order ++ p ∷ []) (max latest p.at)
latest_push order latest p is = record {
  bound = All-push (λ q. q.at ≤ max latest p.at) order p (All-weaker (λ q. q.at ≤ latest) (λ q. q.at ≤ max latest p.at) (λ q below. omega arith) order is.bound) (omega arith);
  reached = elim (cases_lt latest p.at) [
    | inl below ↦ inr (p, Contains-push order p, omega arith)
    | inr past ↦ elim is.reached [
      | inl none ↦ inr (p, Contains-push order p, omega arith)
      | inr some ↦ inr (some.0, Contains-append_left order (p ∷ []) some.0 some.1, (let same = some.2 in omega arith))
    ]
  ];
}

-- what is before an operation is before each later position
before_later : (h : List Event) (a b c : ℕ) → b ≤ c → IsBefore h a b → IsBefore h a c
before_later h a b c after before = (before.0, before.1, before.2, (let below = before.3 in omega arith))

module _ (h : List Event) (order : List Placed) (i latest : ℕ) (p : Placed) (inside : i < length order) (is : p ≡ get_or order i p) (so_far : IsLatestOf (take i order) latest) where
  -- an operation that is not before the latest position is before none of those placed
  pub real_time_more : (IsBefore h p.at latest → ⊥) → KeepsRealTime h (take i order) → KeepsRealTime h (take (i + 1) order)
  real_time_more fits kept =
      pairs_more order i p inside is (λ q r. IsBefore h r.at q.at → ⊥) kept
      (All-weaker (λ q. q.at ≤ latest) (λ q. IsBefore h p.at q.at → ⊥) (λ q below before. fits (before_later h p.at q.at latest below before)) (take i order) so_far.bound)

  -- an operation that is before the latest position is before one that stands ahead of it
  pub real_time_broken : IsBefore h p.at latest → KeepsRealTime h order → ⊥
  real_time_broken before kept = elim so_far.reached [
    | inl none ↦ absurd (let below = before.3 in omega arith)
    | inr some ↦ not_pairs order i p inside is (λ q r. IsBefore h r.at q.at → ⊥) some.0 some.1 (λ fits. fits (subst (IsBefore h p.at) (sym some.2) before)) kept
  ]

  pub latest_more : IsLatestOf (take (i + 1) order) (max latest p.at)
  latest_more = subst (λ l. IsLatestOf l (max latest p.at)) (sym (take_more order i p inside is)) (latest_push (take i order) latest p so_far)

-- an ok operation is before the positions past its end
pub before_since : (h : List Event) (at end later : ℕ) (reply : Reply) → IsOk h at end reply → (b : Bool) → Decides b (end < later) → IsTrue b ↔ IsBefore h at later
before_since h at end later reply ok b tells = (
  λ yes. (end, reply, ok, tells.0 yes),
  λ before.
      let same = one_ok h at end before.0 reply before.1 ok before.2 in
      let place = same.0 in
      let below = before.3 in
      tells.1 (omega arith),
)
