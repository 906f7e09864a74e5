-- The new operation tried alone, or those behind it.
use Rattle.std.proofs.Common.{◌≡◌, ℕ, List, [], Contains, All, get_or, inl, inr, subst, arith}
use Rattle.std.proofs.lemmas.List.Elements.{Contains-get_or}
use Rattle.lin_events.specs.declared.calls.Call.{Call}
use Rattle.lin_events.specs.declared.calls.Reply.{Reply}
use Rattle.lin_order.specs.declared.placed.Placed.{Placed}
use Rattle.lin_frontier.specs.declared.pending.Open.{Open}
use Rattle.lin_frontier.specs.Placing.{IsAbsent, PlacesOne, PlacesNext, IsTried}
use Rattle.lin_frontier.specs.lemmas.Trying.{IsTriedAll}

module _ {S : Type 0} (step : S → Call → S → Reply → Type 0) (pending : List Open) (new : Open) (c : S × List (ℕ × Reply)) (out : List ((S × List (ℕ × Reply)) × Placed)) where
  pub alone_sound : (old : List ((S × List (ℕ × Reply)) × Placed)) → old ≡ [] → IsTried (PlacesOne step new c) old out → All (λ x. PlacesNext step pending new c x.1 x.0) out
  alone_sound old none tried k d inside = elim (tried.sound (get_or out k d) (Contains-get_or out k d inside)) [
    | inl before ↦ absurd (let there = subst (λ l. Contains l (get_or out k d)) none before in let inside' = there.1 in omega arith)
    | inr placed ↦ inl placed
  ]

  pub alone_complete : (old : List ((S × List (ℕ × Reply)) × Placed)) → IsAbsent new.process c.1 → IsTried (PlacesOne step new c) old out
      → (d : S × List (ℕ × Reply)) (p : Placed) → PlacesNext step pending new c p d → Contains out (d, p)
  alone_complete old absent tried d p (inl placed) = tried.complete p d placed
  alone_complete old absent tried d p (inr other) = absurd (other.0 absent)

  module _ (present : IsAbsent new.process c.1 → ⊥) (all : IsTriedAll (λ o. PlacesOne step o c) pending out) where
    pub behind_sound : All (λ x. PlacesNext step pending new c x.1 x.0) out
    behind_sound k d inside =
        let s = all.sound (get_or out k d) (Contains-get_or out k d inside) in
        inr (present, s.0, s.1, s.2)

    pub behind_complete : (d : S × List (ℕ × Reply)) (p : Placed) → PlacesNext step pending new c p d → Contains out (d, p)
    behind_complete d p (inl placed) = absurd (present placed.absent)
    behind_complete d p (inr other) = all.complete other.1 p d other.2 other.3
