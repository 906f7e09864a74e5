-- How steps add up.
use Rattle.std.proofs.Common.{◌≡◌, ◌≤◌, ◌+◌, ◌-◌, ◌*◌, ◌∙◌, ℕ, Bool, true, false, if◌then◌else◌, refl, sym, ap, subst, arith}
use Rattle.lin_chain.specs.Work.{IsSpent, IsSpentAtMost, Mark, for_stop, left}

-- where a witness stopped before, or none does, nothing more is spent for it
pub no_stop : (old new : Mark) (count : ℕ) → new.stopped ≡ old.stopped → for_stop old new count ≡ 0
no_stop old new count same = by old.stopped refl
  where
    by : (b : Bool) → old.stopped ≡ b → for_stop old new count ≡ 0
    by true is = ap (λ b. if b then 0 else if new.stopped then 22 * count else 0) is
    by false is = ap (λ b. if b then 0 else if new.stopped then 22 * count else 0) is ∙ ap (λ b. if b then 22 * count else 0) (same ∙ is)

-- and where it does for the first time
pub one_stop : (old new : Mark) (count : ℕ) → old.stopped ≡ false → new.stopped ≡ true → for_stop old new count ≡ 22 * count
one_stop old new count before after = ap (λ b. if b then 0 else if new.stopped then 22 * count else 0) before ∙ ap (λ b. if b then 22 * count else 0) after

-- one stop is paid for once
stop_adds : (a b c : Mark) (count : ℕ) → (a.stopped ≡ true → b.stopped ≡ true) → (b.stopped ≡ true → c.stopped ≡ true) → for_stop a b count + for_stop b c count ≤ for_stop a c count
stop_adds a b c count first second = by a.stopped b.stopped refl refl
  where
    by : (x y : Bool) → a.stopped ≡ x → b.stopped ≡ y → for_stop a b count + for_stop b c count ≤ for_stop a c count
    by true y is is_b =
        let second_is = first is in
        omega (arith, no_stop a b count (second_is ∙ sym is), no_stop b c count (second second_is ∙ sym second_is))
    by false true is is_b =
        omega (arith, one_stop a b count is is_b, no_stop b c count (second is_b ∙ sym is_b), one_stop a c count is (second is_b))
    by false false is is_b = by_last c.stopped refl
      where
        by_last : (z : Bool) → c.stopped ≡ z → for_stop a b count + for_stop b c count ≤ for_stop a c count
        by_last true is_c = omega (arith, no_stop a b count (is_b ∙ sym is), one_stop b c count is_b is_c, one_stop a c count is is_c)
        by_last false is_c = omega (arith, no_stop a b count (is_b ∙ sym is), no_stop b c count (is_c ∙ sym is_b), no_stop a c count (is_c ∙ sym is))

-- what is spent in turn
pub spent_then : (a b c : Mark) (count x y z : ℕ) → (a.stopped ≡ true → b.stopped ≡ true) → (b.stopped ≡ true → c.stopped ≡ true) → IsSpent a b count x y → IsSpent b c count y z → IsSpent a c count x z
spent_then a b c count x y z first second one two = let stops = stop_adds a b c count first second in omega (arith, one, two, stops)

pub spent_then_most : (a b c : Mark) (count x y z : ℕ) → (a.stopped ≡ true → b.stopped ≡ true) → (b.stopped ≡ true → c.stopped ≡ true) → IsSpent a b count x y → IsSpentAtMost b c count y z → IsSpentAtMost a c count x z
spent_then_most a b c count x y z first second one two = let stops = stop_adds a b c count first second in omega (arith, one, two, stops)

pub spent_at_most : (a b : Mark) (count x y : ℕ) → IsSpent a b count x y → IsSpentAtMost a b count x y
spent_at_most a b count x y spent = omega (arith, spent)

-- nothing is spent where nothing is done
pub spent_nothing : (mark : Mark) (count x : ℕ) → IsSpent mark mark count x x
spent_nothing mark count x = omega (arith, no_stop mark mark count refl)

-- frontiers took events in
pub spent_frontier : (old new : Mark) (count x y : ℕ) → new.beside ≡ old.beside → new.searched ≡ old.searched → new.stopped ≡ old.stopped → y + (count - new.frontier) ≤ x + (count - old.frontier) → IsSpent old new count x y
spent_frontier old new count x y beside searched stopped taken = let stops = no_stop old new count stopped in omega (arith, beside, searched, stops, taken)

pub spent_frontier_most : (old new : Mark) (count x y : ℕ) → y ≤ x + (count - old.frontier) → IsSpentAtMost old new count x y
spent_frontier_most old new count x y taken = omega (arith, taken)
