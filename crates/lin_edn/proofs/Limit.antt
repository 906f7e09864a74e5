-- Tests of numbers, and the limit as a number.
use Rattle.std.proofs.Common.{◌≡◌, ℕ, ◌≤◌, ◌<◌, ◌==◌, nat_le, true, false, refl, rules, tests}
use Rattle.lin_edn.specs.Grammar.{longest}

pub is_above : (a b : ℕ) → b < a → nat_le a b ≡ false
is_above a b h = search (rules, tests)

pub is_under : (a b : ℕ) → nat_le a b ≡ false → b < a
is_under a b h = search (rules, tests)

pub is_past : (a b : ℕ) → nat_le a b ≡ true → a ≤ b
is_past a b h = search (rules, tests)

pub is_within : (a b : ℕ) → a ≤ b → nat_le a b ≡ true
is_within a b h = search (rules, tests)

pub same_number : (a b : ℕ) → (a == b) ≡ true → a ≡ b
same_number a b h = search (rules, tests)

pub longest_is : longest ≡ 16777216
unfolding longest
longest_is = refl
