-- Bits of processes tell that pairs are not part of others, and that processes have no operation that crashed.
use Rattle.std.proofs.Common.{◌≡◌, ◌⊎◌, ◌&&◌, ℕ, Bool, true, zero, suc, nat_eq, not, ◌%◌, ◌^◌, List, [], ◌∷◌, ◌++◌, All, Contains, map, filter, inl, inr, refl, sym, ap, subst, ◌∙◌, arith, false}
use Rattle.std.specs.Int.Bits.{bit_or, or_self, or_zero_r}
use Rattle.std.proofs.lemmas.Bool.{cond-true, cond-false}
use Rattle.std.proofs.lemmas.List.{append-nil, map-append}
use Rattle.std.proofs.lemmas.List.Elements.{filter-append}
use Rattle.std.proofs.lemmas.Nat.{or_comm}
use Rattle.std.proofs.lemmas.Nat.Bits.{bit_at_or, same_from_bits}
use Rattle.std.proofs.lemmas.Bool.Decides.{Decides-eqb as Decides-nat_eq}
use Rattle.lin_events.specs.declared.calls.Reply.{Reply}
use Rattle.lin_frontier.specs.declared.pending.Open.{Open}
use Rattle.lin_frontier.specs.Masks.{bits_of, mask_of, crashed_bits, is_crashed, bits_beside}
use Rattle.lin_frontier.specs.lemmas.Inserting.{kept_by}
use Rattle.lin_lists.specs.lemmas.Filters.{in_map}
use Rattle.lin_frontier.specs.lemmas.Truths.{and_left, and_right, any_true}

or_assoc : (a b c : ℕ) → bit_or (bit_or a b) c ≡ bit_or a (bit_or b c)
or_assoc a b c = same_from_bits (bit_or (bit_or a b) c) (bit_or a (bit_or b c)) (λ i. omega (arith, bit_at_or (bit_or a b) c i, bit_at_or a b i, bit_at_or a (bit_or b c) i, bit_at_or b c i))

-- one more process at the end
pub bits_push : (ps : List ℕ) (p : ℕ) → bits_of (ps ++ p ∷ []) ≡ bit_or (bits_of ps) (2 ^ (p % 64))
bits_push [] p = or_zero_r (2 ^ (p % 64))
bits_push (q ∷ qs) p = ap (bit_or (2 ^ (q % 64))) (bits_push qs p) ∙ sym (or_assoc (2 ^ (q % 64)) (bits_of qs) (2 ^ (p % 64)))

-- the bit of a process is among those of processes that have it
bits_have : (ps : List ℕ) (p : ℕ) → Contains ps p → bit_or (2 ^ (p % 64)) (bits_of ps) ≡ bits_of ps
bits_have [] p there = absurd (let inside = there.1 in omega arith)
bits_have (q ∷ qs) p (zero, inside, is) =
    let bit = 2 ^ (p % 64) in
    ap (λ r. bit_or bit (bit_or (2 ^ (r % 64)) (bits_of qs))) is ∙ sym (or_assoc bit bit (bits_of qs)) ∙ ap (λ a. bit_or a (bits_of qs)) (or_self bit) ∙ ap (λ r. bit_or (2 ^ (r % 64)) (bits_of qs)) (sym is)
bits_have (q ∷ qs) p (suc i, inside, is) =
    let bit = 2 ^ (p % 64) in
    let first = 2 ^ (q % 64) in
    sym (or_assoc bit first (bits_of qs)) ∙ ap (λ a. bit_or a (bits_of qs)) (or_comm bit first) ∙ or_assoc first bit (bits_of qs) ∙ ap (bit_or first) (bits_have qs p (i, omega arith, is))

-- where the bit of each pair is among some bits, all are
bits_among : (m : ℕ) (xs : List (ℕ × Reply)) → All (λ x. bit_or (2 ^ (x.0 % 64)) m ≡ m) xs → bit_or (mask_of xs) m ≡ m
bits_among m [] all = refl
bits_among m (x ∷ xs) all = or_assoc (2 ^ (x.0 % 64)) (mask_of xs) m ∙ ap (bit_or (2 ^ (x.0 % 64))) (bits_among m xs (λ i d inside. all (suc i) d (omega arith))) ∙ all 0 x (omega arith)

-- more bits
wider : (bit m n : ℕ) → bit_or bit m ≡ m → bit_or bit (bit_or m n) ≡ bit_or m n
wider bit m n has = sym (or_assoc bit m n) ∙ ap (λ a. bit_or a n) has

mask_has : (xs : List (ℕ × Reply)) (x : ℕ × Reply) → Contains xs x → bit_or (2 ^ (x.0 % 64)) (mask_of xs) ≡ mask_of xs
mask_has xs x there = bits_have (map (λ y. y.0) xs) x.0 (in_map (λ (y : ℕ × Reply). y.0) xs x there)

pub crashed_has : (pending : List Open) (p : ℕ) → is_crashed pending p ≡ true → bit_or (2 ^ (p % 64)) (crashed_bits pending) ≡ crashed_bits pending
crashed_has pending p crashed =
    let o = any_true (λ (o : Open). nat_eq o.process p && o.crashed) pending crashed in
    let same = (Decides-nat_eq o.0.process p).0 (and_left (nat_eq o.0.process p) o.0.crashed o.2) in
    let kept = kept_by (λ (o : Open). o.crashed) pending o.0 (and_right (nat_eq o.0.process p) o.0.crashed o.2) o.1 in
    let ones = filter (λ (o : Open). o.crashed) pending in
    bits_have (map (λ o. o.process) ones) p (subst (Contains (map (λ o. o.process) ones)) same (in_map (λ (o : Open). o.process) ones o.0 kept))

-- where each pair is among the others, so are the bits
pub mask_part : (xs ys : List (ℕ × Reply)) → All (λ x. Contains ys x) xs → bit_or (mask_of xs) (mask_of ys) ≡ mask_of ys
mask_part xs ys all = bits_among (mask_of ys) xs (λ i d inside. mask_has ys _ (all i d inside))

-- where each pair is among the others or crashed, so are the bits
mask_part_but_crashed : (pending : List Open) (xs ys : List (ℕ × Reply)) → All (λ x. Contains ys x ⊎ (is_crashed pending x.0 ≡ true)) xs
    → bit_or (mask_of xs) (bits_beside pending ys) ≡ bits_beside pending ys
mask_part_but_crashed pending xs ys all =
    let crashed = crashed_bits pending in
    let mask = mask_of ys in
    bits_among (bit_or mask crashed) xs (λ i d inside. elim (all i d inside) [
      | inl has ↦ wider _ mask crashed (mask_has ys _ has)
      | inr gone ↦ ap (bit_or _) (or_comm mask crashed) ∙ wider _ crashed mask (crashed_has pending _ gone) ∙ or_comm crashed mask
    ])

-- with the bits of what crashed, they are the same
pub same_bits : (pending : List Open) (xs ys : List (ℕ × Reply)) → All (λ x. Contains ys x) xs → All (λ x. Contains xs x ⊎ (is_crashed pending x.0 ≡ true)) ys → bits_beside pending xs ≡ bits_beside pending ys
same_bits pending xs ys part rest =
    let crashed = crashed_bits pending in
    let mask = mask_of xs in
    let other = mask_of ys in
    sym (mask_part_but_crashed pending ys xs rest) ∙ sym (or_assoc other mask crashed) ∙ ap (λ m. bit_or m crashed) (or_comm other mask ∙ mask_part xs ys part)

-- one more pair at the end
pub mask_push : (xs : List (ℕ × Reply)) (x : ℕ × Reply) → mask_of (xs ++ x ∷ []) ≡ bit_or (mask_of xs) (2 ^ (x.0 % 64))
mask_push xs x = ap bits_of (map-append (λ (y : ℕ × Reply). y.0) xs (x ∷ [])) ∙ bits_push (map (λ y. y.0) xs) x.0

-- one more operation at the end
module _ (xs : List Open) (o : Open) where
  pub crashed_push : o.crashed ≡ true → crashed_bits (xs ++ o ∷ []) ≡ bit_or (crashed_bits xs) (2 ^ (o.process % 64))
  crashed_push is =
      ap (λ l. bits_of (map (λ o. o.process) l)) (filter-append (λ (o : Open). o.crashed) xs (o ∷ []) ∙ ap (λ l. filter (λ (o : Open). o.crashed) xs ++ l) (cond-true _ _ _ is))
      ∙ ap bits_of (map-append (λ (o : Open). o.process) (filter (λ (o : Open). o.crashed) xs) (o ∷ [])) ∙ bits_push (map (λ o. o.process) (filter (λ (o : Open). o.crashed) xs)) o.process

  pub crashed_pass : o.crashed ≡ false → crashed_bits (xs ++ o ∷ []) ≡ crashed_bits xs
  crashed_pass is =
      ap (λ l. bits_of (map (λ o. o.process) l)) (filter-append (λ (o : Open). o.crashed) xs (o ∷ []) ∙ ap (λ l. filter (λ (o : Open). o.crashed) xs ++ l) (cond-false _ _ _ is) ∙ append-nil (filter (λ (o : Open). o.crashed) xs))

pub never_true : (b : Bool) → (b ≡ true → ⊥) → b ≡ false
never_true true never = absurd (never refl)
never_true false never = refl

pub not_false : (b : Bool) → not b ≡ false → b ≡ true
not_false true h = refl
not_false false h = sym h
