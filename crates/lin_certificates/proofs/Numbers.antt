-- Just so many is at least and at most so many, and so many alone.
use Rattle.std.proofs.Common.{◌≡◌, ℕ, List, [], ◌∷◌, Contains, length, inl, inr, sym, ◌∙◌, arith}
use Rattle.lin_lists.specs.lemmas.Elements.{all_of, first_or_rest, nothing_in}
use Rattle.lin_certificates.specs.Numbers.{AtLeast, AtMost}
use Rattle.lin_certificates.specs.lemmas.Counting.{no_more}
use Rattle.lin_certificates.specs.Words.{Exactly}

module _ (P : ℕ → Type 0) where
  pub at_least : (k : ℕ) → Exactly k P → AtLeast k P
  at_least k is = (is.0, is.1, is.2, all_of P is.0 (λ at there. (is.3 at).1 there))

  pub at_most : (k : ℕ) → Exactly k P → AtMost k P
  at_most k is = (is.0, is.1, λ at it. (is.3 at).0 it)

  pub exactly_one : (k m : ℕ) → Exactly k P → Exactly m P → k ≡ m
  exactly_one k m a b =
      let up = no_more a.0 b.0 a.2 (λ at there. (b.3 at).0 ((a.3 at).1 there)) in
      let down = no_more b.0 a.0 b.2 (λ at there. (a.3 at).0 ((b.3 at).1 there)) in
      let one = a.1 in
      let two = b.1 in
      omega (arith, up, down, one, two)

-- where there is one, two are the same
pub the_one : (P : ℕ → Type 0) → Exactly 1 P → (at other : ℕ) → P at → P other → at ≡ other
the_one P one at other is is_other = by one.0 one.1 ((one.3 at).0 is) ((one.3 other).0 is_other)
  where
    by : (places : List ℕ) → length places ≡ 1 → Contains places at → Contains places other → at ≡ other
    by [] many in_at in_other = absurd (nothing_in at in_at)
    by (x ∷ []) many in_at in_other = elim (first_or_rest x [] at in_at) [
      | inl same ↦ elim (first_or_rest x [] other in_other) [
        | inl same_too ↦ sym same ∙ same_too
        | inr none ↦ absurd (nothing_in other none)
      ]
      | inr none ↦ absurd (nothing_in at none)
    ]
    by (x ∷ y ∷ places) many in_at in_other = absurd (omega (arith, many))
