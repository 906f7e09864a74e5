-- Choosing from a list, with what is left out; and pairs by rising process.
use Rattle.std.proofs.Common.{ℕ, suc, List, [], ◌∷◌, Contains, All, AllPairs, ◌⊎◌, inl, inr, refl, ap, subst, arith, get_or}
use Rattle.std.proofs.lemmas.List.Elements.{Contains-get_or, Contains-append_right}
use Rattle.std.proofs.lemmas.List.Kept.{AllPairs-cons}
use Rattle.std.proofs.lemmas.Bool.{cases_eq}
use Rattle.lin_events.specs.declared.calls.Reply.{Reply}
use Rattle.lin_order.specs.Configurations.{IsRising, IsAdded}
use Rattle.lin_frontier.specs.Placing.{insert_pair}
use Rattle.lin_frontier.specs.lemmas.Inserting.{first_or_rest, insert_added}

pub record Chosen {X : Type 0} (R : X → X → Type 0) (A B : X → Type 0) (xs : List X) : Type 0 where
  pub chosen : List X
  pub within : (x : X) → Contains chosen x → Contains xs x
  pub holds : (x : X) → Contains chosen x → A x
  pub rest : (x : X) → Contains xs x → Contains chosen x ⊎ B x
  pub pairs : AllPairs R xs → AllPairs R chosen

pub nothing_in : {X : Type 0} (x : X) → Contains [] x → ⊥
nothing_in x there = let inside = there.1 in omega arith

-- what holds of each element holds of all
pub all_from : {A : Type 0} (P : A → Type 0) (xs : List A) → ((x : A) → Contains xs x → P x) → All P xs
all_from P xs each k d inside = each (get_or xs k d) (Contains-get_or xs k d inside)

-- what the first is to each later one
pub head_pairs : {X : Type 0} (R : X → X → Type 0) (x : X) (xs : List X) (y : X) → AllPairs R (x ∷ xs) → Contains xs y → R x y
head_pairs R x xs y all there = subst (R x) there.2 (all 0 (suc there.0) y (omega arith) (omega (arith, there.1)))

pub tail_pairs : {X : Type 0} (R : X → X → Type 0) (x : X) (xs : List X) → AllPairs R (x ∷ xs) → AllPairs R xs
tail_pairs R x xs all i j d below within = all (suc i) (suc j) d (omega arith) (omega arith)

pub choose : {X : Type 0} (R : X → X → Type 0) (A B : X → Type 0) (xs : List X) → ((x : X) → Contains xs x → A x ⊎ B x) → Chosen R A B xs
choose {X} R A B [] each = record {
  chosen = [];
  within = λ x there. there;
  holds = λ x there. absurd (nothing_in x there);
  rest = λ x there. inl there;
  pairs = λ all. all;
}
choose {X} R A B (x ∷ xs) each =
    let c = choose R A B xs (λ y there. each y (Contains-append_right (x ∷ []) xs y there)) in
    elim (each x (0, omega arith, refl)) [
      | inl yes' ↦ record {
        chosen = x ∷ c.chosen;
        within = λ y there. elim (first_or_rest x c.chosen y there) [
          | inl same ↦ (0, omega arith, same)
          | inr later ↦ Contains-append_right (x ∷ []) xs y (c.within y later)
        ];
        holds = λ y there. elim (first_or_rest x c.chosen y there) [
          | inl same ↦ subst A same yes'
          | inr later ↦ c.holds y later
        ];
        rest = λ y there. elim (first_or_rest x xs y there) [
          | inl same ↦ inl (0, omega arith, same)
          | inr later ↦ elim (c.rest y later) [
            | inl kept ↦ inl (Contains-append_right (x ∷ []) c.chosen y kept)
            | inr out ↦ inr out
          ]
        ];
        pairs = λ all. AllPairs-cons R x c.chosen
            (λ k d inside. head_pairs R x xs (get_or c.chosen k d) all (c.within (get_or c.chosen k d) (Contains-get_or c.chosen k d inside)))
            (c.pairs (tail_pairs R x xs all));
      }
      | inr out ↦ record {
        chosen = c.chosen;
        within = λ y there. Contains-append_right (x ∷ []) xs y (c.within y there);
        holds = c.holds;
        rest = λ y there. elim (first_or_rest x xs y there) [
          | inl same ↦ inr (subst B same out)
          | inr later ↦ c.rest y later
        ];
        pairs = λ all. c.pairs (tail_pairs R x xs all);
      }
    ]

-- a process has a pair, or it has none
pub stands : (process : ℕ) (xs : List (ℕ × Reply)) → ((reply : Reply) × Contains xs (process, reply)) ⊎ ((reply : Reply) → Contains xs (process, reply) → ⊥)
stands process [] = inr (λ reply there. nothing_in (process, reply) there)
stands process (x ∷ xs) = elim (cases_eq x.0 process) [
  | inl same ↦ inl (x.1, (0, omega arith, λ i. (same i, x.1)))
  | inr differ ↦ elim (stands process xs) [
    | inl some ↦ inl (some.0, Contains-append_right (x ∷ []) xs (process, some.0) some.1)
    | inr none ↦ inr (λ reply there. elim (first_or_rest x xs (process, reply) there) [
      | inl is ↦ differ (ap (λ (p : ℕ × Reply). p.0) is)
      | inr later ↦ none reply later
    ])
  ]
]

-- a pair can be added
pub can_add : (process : ℕ) (reply : Reply) (placed : List (ℕ × Reply)) → IsRising placed → ((other : Reply) → Contains placed (process, other) → ⊥) → (wider : List (ℕ × Reply)) × IsAdded process reply placed wider
can_add process reply placed rising absent = (insert_pair process reply placed, insert_added process reply placed rising absent)
