-- The points at which adds and reads of a set take effect, where of two reads one found all that the other did: a read takes effect when all
-- that it found can have been added and all smaller reads were invoked, an add when that is so of each read that did not find its item.
use Rattle.std.proofs.Common.{◌≡◌, ◌<◌, ◌≤◌, ◌+◌, ℕ, suc, Bool, true, false, List, ◌⊎◌, inl, inr, Contains, length, max, refl, arith, le_trans, true≢false}
use Rattle.std.proofs.lemmas.Bool.{cases_lt}
use Rattle.std.proofs.Math.Nat.{le-max_left, le-max_right, max-le}
use Rattle.lin_events.specs.declared.items.Item.{Item}
use Rattle.lin_events.specs.Items.{item_cmp}
use Rattle.lin_lists.specs.Sets.{IsRising}
use Rattle.lin_sets.proofs.Most.{most, most_above, most_below, unless, unless_below, unless_same}
use Rattle.lin_sets.proofs.Chained.{IsWithin, fewer, has, has_no, has_not, within_or_not}

-- an add of an item or a read that found these, by the place of its invocation
abbrev pub Act : Type 0
Act = ℕ × (Item ⊎ List Item)

-- whether a number is not below another
pub is_large : ℕ → ℕ → Bool
is_large n m = elim (cases_lt n m) [
  | inl below ↦ false
  | inr above ↦ true
]

large_no : (n m : ℕ) → n < m → is_large n m ≡ false
unfolding is_large
large_no n m less = by (cases_lt n m)
  where
    by : (either : (n < m) ⊎ (m ≤ n)) → elim either [ inl below ↦ false | inr above ↦ true ] ≡ false
    by (inl below) = refl
    by (inr above) = absurd (omega (arith, less, above))

no_large : (n m : ℕ) → is_large n m ≡ false → n < m
unfolding is_large
no_large n m = by (cases_lt n m)
  where
    by : (either : (n < m) ⊎ (m ≤ n)) → elim either [ inl below ↦ false | inr above ↦ true ] ≡ false → n < m
    by (inl below) e = below
    by (inr above) e = absurd (true≢false e)

-- the reads, and the first add of each item
module _ (reads : List (ℕ × List Item)) (call : Item → ℕ) where
  -- all that the read found can have been added, and it was invoked
  abbrev reached : ℕ × List Item → ℕ
  reached r = max r.0 (most call r.1)

  -- each read that did not find the item is that far
  abbrev from : Item → ℕ
  from n = most (λ (r : ℕ × List Item). unless (has r.1 n) (reached r)) reads

  -- reads with fewer items were invoked
  abbrev smaller_reads : List Item → ℕ
  smaller_reads s = most (λ (q : ℕ × List Item). unless (is_large (length q.1) (length s)) q.0) reads

  abbrev pub point : Act → ℕ
  point (at, inl n) = max at (from n)
  point (at, inr s) = max (reached (at, s)) (smaller_reads s)

  -- of those at one point, reads with fewer items come first, and adds ahead of the reads that found their item
  abbrev pub rank : Act → ℕ
  rank (at, inl n) = most (λ (r : ℕ × List Item). unless (has r.1 n) (suc (suc (length r.1 + length r.1)))) reads
  rank (at, inr s) = suc (length s + length s)

  -- no act takes effect before it is invoked
  pub not_early : (a : Act) → a.0 ≤ point a
  not_early (at, inl n) = le-max_left at (from n)
  not_early (at, inr s) = le_trans (le-max_left at (most call s)) (le-max_left (reached (at, s)) (smaller_reads s))

  -- an add takes effect by a place that its invocation, the reads without its item and the first adds of what these found are not past
  pub add_by : (at bound : ℕ) (n : Item) → at ≤ bound
      → ((r : ℕ × List Item) → Contains reads r → (Contains r.1 n → ⊥) → (r.0 ≤ bound) × ((m : Item) → Contains r.1 m → call m ≤ bound)) → point (at, inl n) ≤ bound
  add_by at bound n invoked each = max-le invoked
      (most_below (λ (r : ℕ × List Item). unless (has r.1 n) (reached r)) reads bound (λ r there. unless_below (has r.1 n) (reached r) bound (λ out.
      let both = each r there (has_no r.1 n out) in
      max-le both.0 (most_below call r.1 bound both.1))))

  -- a read takes effect by a place that its invocation, the first adds of what it found and the smaller reads are not past
  pub read_by : (at bound : ℕ) (s : List Item) → at ≤ bound → ((m : Item) → Contains s m → call m ≤ bound)
      → ((q : ℕ × List Item) → Contains reads q → length q.1 < length s → q.0 ≤ bound) → point (at, inr s) ≤ bound
  read_by at bound s invoked added each = max-le (max-le invoked (most_below call s bound added))
      (most_below (λ (q : ℕ × List Item). unless (is_large (length q.1) (length s)) q.0) reads bound (λ q there.
      unless_below (is_large (length q.1) (length s)) q.0 bound (λ small. each q there (no_large (length q.1) (length s) small))))

  module _ (rising : (r : ℕ × List Item) → Contains reads r → IsRising item_cmp r.1)
      (chain : (q r : ℕ × List Item) (n m : Item) → Contains reads q → Contains reads r → Contains q.1 n → (Contains r.1 n → ⊥) → Contains r.1 m → (Contains q.1 m → ⊥) → ⊥) where
    -- what a read found that has not an item, each read that has it found too, and more
    smaller : (q r : ℕ × List Item) (n : Item) → Contains reads q → Contains reads r → (Contains q.1 n → ⊥) → Contains r.1 n → IsWithin q.1 r.1 × (length q.1 < length r.1)
    smaller q r n q_there r_there out inside = elim (within_or_not q.1 r.1) [
      | inl within ↦ (within, fewer q.1 r.1 n (rising q q_there) (rising r r_there) within inside out)
      | inr found ↦ absurd (chain q r found.0 n q_there r_there found.1 found.2 inside out)
    ]

    -- the first add of what a read found goes ahead of it
    pub add_ahead : (r : ℕ × List Item) (n : Item) → Contains reads r → Contains r.1 n
        → (point (call n, inl n) ≤ point (r.0, inr r.1)) × (rank (call n, inl n) < rank (r.0, inr r.1))
    add_ahead r n there inside = (
      add_by (call n) full n (within_call n inside) (λ q q_there out.
          let small = smaller q r n q_there there out inside in
          (earlier q q_there small.1, λ m m_in. within_call m (small.0 m m_in))),
      let below = most_below (λ (q : ℕ × List Item). unless (has q.1 n) (suc (suc (length q.1 + length q.1)))) reads (length r.1 + length r.1) (λ q q_there.
          unless_below (has q.1 n) (suc (suc (length q.1 + length q.1))) (length r.1 + length r.1) (λ out.
          let small = (smaller q r n q_there there (has_no q.1 n out) inside).1 in
          omega (arith, small))) in
          omega (arith, below),
    )
      where
        full : ℕ
        full = point (r.0, inr r.1)

        within_call : (m : Item) → Contains r.1 m → call m ≤ full
        within_call m m_in = le_trans (le_trans (most_above call r.1 m m_in) (le-max_right r.0 (most call r.1))) (le-max_left (reached (r.0, r.1)) (smaller_reads r.1))

        earlier : (q : ℕ × List Item) → Contains reads q → length q.1 < length r.1 → q.0 ≤ full
        earlier q q_there small = le_trans (le_trans (unless_same (is_large (length q.1) (length r.1)) q.0 (large_no (length q.1) (length r.1) small))
            (most_above (λ (x : ℕ × List Item). unless (is_large (length x.1) (length r.1)) x.0) reads q q_there)) (le-max_right (reached (r.0, r.1)) (smaller_reads r.1))

    -- and each add of what it did not find goes behind it
    pub add_behind : (r : ℕ × List Item) (n : Item) (at : ℕ) → Contains reads r → (Contains r.1 n → ⊥)
        → (point (r.0, inr r.1) ≤ point (at, inl n)) × (rank (r.0, inr r.1) < rank (at, inl n))
    add_behind r n at there out = (
      le_trans (max-le (far r there out)
          (most_below (λ (q : ℕ × List Item). unless (is_large (length q.1) (length r.1)) q.0) reads (from n) (λ q q_there.
          unless_below (is_large (length q.1) (length r.1)) q.0 (from n) (λ small.
          le_trans (le-max_left q.0 (most call q.1)) (far q q_there (λ inside.
          let other = (smaller r q n there q_there out inside).1 in
          let less = no_large (length q.1) (length r.1) small in
          omega (arith, other, less)))))))
          (le-max_right at (from n)),
      let above = most_above (λ (q : ℕ × List Item). unless (has q.1 n) (suc (suc (length q.1 + length q.1)))) reads r there in
          let counts = unless_same (has r.1 n) (suc (suc (length r.1 + length r.1))) (has_not r.1 n out) in
          omega (arith, above, counts),
    )
      where
        far : (q : ℕ × List Item) → Contains reads q → (Contains q.1 n → ⊥) → reached q ≤ from n
        far q q_there without = le_trans (unless_same (has q.1 n) (reached q) (has_not q.1 n without)) (most_above (λ (x : ℕ × List Item). unless (has x.1 n) (reached x)) reads q q_there)
