-- Points along the reads, and what takes effect at them.
use Rattle.std.proofs.Common.{◌≡◌, ◌≢◌, ◌<◌, ◌≤◌, ◌+◌, ℕ, suc, List, [], ◌∷◌, ◌++◌, ◌⊎◌, inl, inr, AllPairs, Contains, length, get_or, max, Option, None, Some, slice_get, sym, ap, subst, ◌∙◌, arith, length-append}
use Rattle.std.proofs.lemmas.Bool.{cases_lt}
use Rattle.std.proofs.lemmas.List.Elements.{Contains-append_cases, Contains-append_left, Contains-append_right}
use Rattle.std.proofs.lemmas.List.{get_or_append_left, get_or_push}
use Rattle.std.proofs.lemmas.Option.{get_or_from_slice_get, slice_get-get_or, slice_get_within}
use Rattle.std.proofs.Math.Nat.{le-max_left, le-max_right, max-le}
use Rattle.lin_events.specs.declared.items.Item.{Item}
use Rattle.lin_events.specs.declared.calls.Reply.TheVariants.{Members}
use Rattle.lin_lists.specs.lemmas.Elements.{first_or_rest, nothing_in}
use Rattle.lin_lists.specs.lemmas.Lists.{get_cases}
use Rattle.lin_sets.specs.declared.points.Points.{Points}
use Rattle.lin_sets.specs.declared.effects.Effect.{Effect}
use Rattle.lin_sets.specs.Acts.{IsAdd}
use Rattle.lin_sets.specs.Points.{AreEffects, IsAddEffect, IsLatest, IsPoint, IsReadEffect, number_of}
use Rattle.lin_sets.proofs.Ordered.{here}

-- an element at two places, or of two lists, is one
one_read : (reads : List (ℕ × List Item)) (i : ℕ) (q r : ℕ × List Item) → slice_get reads i ≡ Some q → slice_get reads i ≡ Some r → q ≡ r
one_read reads i q r one other = let e : ◌≡◌ {A = Option (ℕ × List Item)} (Some q) (Some r) = sym one ∙ other in cc

module _ (first : List (Item × ℕ)) (reads : List (ℕ × List Item)) where
  pub point_none : IsPoint first reads 0 0 0
  point_none = record { behind = omega arith; ready = λ i r none at. absurd (omega (arith, none)); least = λ bound up ready. up }

  -- by the next read
  pub point_next : (i last next : ℕ) (r : ℕ × List Item) → slice_get reads i ≡ Some r → IsPoint first reads 0 i last → IsLatest first (max last r.0) r.1 next
      → IsPoint first reads 0 (i + 1) next
  point_next i last next r there before latest = record {
    behind = omega arith;
    ready = λ j q within at. elim (cases_lt j i) [
      | inl earlier ↦
          let known = before.ready j q earlier at in
          let one = known.0 in
          let left = le-max_left last r.0 in
          let up = latest.behind in (
            omega (arith, one, left, up),
            λ n k inside has. let two = known.1 n k inside has in omega (arith, two, left, up),
          )
      | inr from ↦
          let same : r ≡ q = one_read reads i r q there (subst (λ k. slice_get reads k ≡ Some q) (omega (arith, within, from)) at) in
          subst (λ (x : ℕ × List Item). (x.0 ≤ next) × ((n : Item) (k : ℕ) → Contains x.1 n → number_of first n ≡ Some k → k ≤ next)) same
          (let right = le-max_right last r.0 in let up = latest.behind in omega (arith, right, up), latest.added)
    ];
    least = λ bound up ready.
        let mine = ready i r (omega arith) there in
        latest.least bound (max-le (before.least bound (omega arith) (λ j q within at. ready j q (omega (arith, within)) at)) mine.0) mine.1;
  }

  -- from a place on
  pub point_from : (from count place next : ℕ) → IsPoint first reads 0 count place → next ≡ max from place → IsPoint first reads from count next
  point_from from count place next point later = subst (IsPoint first reads from count) (sym later) (record {
    behind = le-max_left from place;
    ready = λ i r within at.
        let known = point.ready i r within at in
        let one = known.0 in
        let right = le-max_right from place in (
          omega (arith, one, right),
          λ n k inside has. let two = known.1 n k inside has in omega (arith, two, right),
        );
    least = λ bound up ready. max-le up (point.least bound (omega arith) ready);
  })

  -- one more place
  pub reached_next : (reached new : List ℕ) (i last : ℕ) → new ≡ reached ++ last ∷ [] → length reached ≡ suc i → IsPoint first reads 0 (i + 1) last
      → ((count place : ℕ) → slice_get reached count ≡ Some place → IsPoint first reads 0 count place)
      → (count place : ℕ) → slice_get new count ≡ Some place → IsPoint first reads 0 count place
  reached_next reached new i last is many point before count place at = elim (get_cases reached last count place (subst (λ l. slice_get l count ≡ Some place) is at)) [
    | inl earlier ↦ before count place earlier
    | inr now ↦ subst (λ k. IsPoint first reads 0 k place) (let at_end = now.0 in omega (arith, at_end, many)) (subst (IsPoint first reads 0 (i + 1)) now.1 point)
  ]

-- pairs with one more
pub pairs_next : {A : Type 0} (R : A → A → Type 0) (xs : List A) (y : A) → AllPairs R xs → ((x : A) → Contains xs x → R x y) → AllPairs R (xs ++ y ∷ [])
pairs_next {A} R xs y pairs last i j d before within =
    let long = length-append xs (y ∷ []) in
    elim (cases_lt j (length xs)) [
      | inl inside ↦ subst (λ z. R z (get_or (xs ++ y ∷ []) j d)) (sym (get_or_append_left xs (y ∷ []) d i (omega (arith, before, inside))))
          (subst (R (get_or xs i d)) (sym (get_or_append_left xs (y ∷ []) d j inside)) (pairs i j d before inside))
      | inr from ↦
          let in_xs : i < length xs = omega (arith, before, within, long) in
          subst (λ z. R z (get_or (xs ++ y ∷ []) j d)) (sym (get_or_append_left xs (y ∷ []) d i in_xs))
          (subst (R (get_or xs i d)) (sym (get_or_push xs y d j (omega (arith, from, within, long)))) (last (get_or xs i d) (i, in_xs, same_default xs i d in_xs)))
    ]
  where
    same_default : (zs : List A) (k : ℕ) (d : A) → k < length zs → get_or zs k (get_or zs k d) ≡ get_or zs k d
    same_default zs k d inside = get_or_from_slice_get zs k (get_or zs k d) (get_or zs k d) (slice_get-get_or zs k d inside)

last_cases : {A : Type 0} (xs : List A) (y x : A) → Contains (xs ++ y ∷ []) x → Contains xs x ⊎ (y ≡ x)
last_cases xs y x there = elim (Contains-append_cases xs (y ∷ []) x there) [
  | inl before ↦ inl before
  | inr now ↦ elim (first_or_rest y [] x now) [
    | inl same ↦ inr same
    | inr none ↦ absurd (nothing_in x none)
  ]
]

in_last : {A : Type 0} (xs : List A) (y : A) → Contains (xs ++ y ∷ []) y
in_last xs y = Contains-append_right xs (y ∷ []) y (here y [])

module _ (adds : List (Option Item)) (reads : List (ℕ × List Item)) (points : Points) where
  pub effects_none : AreEffects adds reads points 0 0 []
  effects_none = record {
    each = λ e none. absurd (nothing_in e none);
    adds_there = λ at n within add. absurd (omega (arith, within));
    reads_there = λ i r within read. absurd (omega (arith, within));
    once = λ apart i j d before within. absurd (omega (arith, within));
  }

  -- no add at the next place
  pub effects_skip : (at : ℕ) (effects : List Effect) → ((n : Item) → get_or adds at None ≡ Some n → ⊥) → AreEffects adds reads points at 0 effects → AreEffects adds reads points (at + 1) 0 effects
  effects_skip at effects none before = record {
    each = λ e there. elim (before.each e there) [
      | inl add ↦ inl (add.0, (let low = add.1 in omega (arith, low)), add.2)
      | inr read ↦ inr read
    ];
    adds_there = λ k n within add. elim (cases_lt k at) [
      | inl less ↦ before.adds_there k n less add
      | inr from ↦ absurd (none n (get_or_from_slice_get adds at (Some n) None (subst (λ i. IsAdd adds i n) (omega (arith, within, from)) add)))
    ];
    reads_there = before.reads_there;
    once = before.once;
  }

  -- the next add
  pub effects_add : (at : ℕ) (n : Item) (e : Effect) (old new : List Effect) → new ≡ old ++ e ∷ [] → e.placed.at ≡ at → IsAddEffect adds reads points n e
      → AreEffects adds reads points at 0 old → AreEffects adds reads points (at + 1) 0 new
  effects_add at n e old new is at_place effect before = subst (AreEffects adds reads points (at + 1) 0) (sym is) (record {
    each = λ d there. elim (last_cases old e d there) [
      | inl earlier ↦ elim (before.each d earlier) [
        | inl add ↦ inl (add.0, (let low = add.1 in omega (arith, low)), add.2)
        | inr read ↦ inr read
      ]
      | inr same ↦ subst (λ (x : Effect). ((m : Item) × (x.placed.at < at + 1) × IsAddEffect adds reads points m x) ⊎ ((i : ℕ) × (r : ℕ × List Item) × (i < 0) × IsReadEffect reads points i r x)) same
          (inl (n, omega (arith, at_place), effect))
    ];
    adds_there = λ k m within add. elim (cases_lt k at) [
      | inl less ↦ let found = before.adds_there k m less add in (found.0, Contains-append_left old (e ∷ []) found.0 found.1, found.2, found.3)
      | inr from ↦ (e, in_last old e, omega (arith, at_place, within, from), effect.reply)
    ];
    reads_there = λ i r within read. absurd (omega (arith, within));
    once = λ apart. pairs_next (λ (c d : Effect). c.placed.at ≢ d.placed.at) old e (before.once apart) (λ d there same. elim (before.each d there) [
      | inl add ↦ let low = add.1 in absurd (omega (arith, low, same, at_place))
      | inr read ↦ let none = read.2 in absurd (omega (arith, none))
    ]);
  })

  -- the next read
  pub effects_read : (places i : ℕ) (r : ℕ × List Item) (e : Effect) (old new : List Effect) → new ≡ old ++ e ∷ [] → slice_get reads i ≡ Some r → IsReadEffect reads points i r e
      → AreEffects adds reads points places i old → AreEffects adds reads points places (i + 1) new
  effects_read places i r e old new is there effect before = subst (AreEffects adds reads points places (i + 1)) (sym is) (record {
    each = λ d among. elim (last_cases old e d among) [
      | inl earlier ↦ elim (before.each d earlier) [
        | inl add ↦ inl add
        | inr read ↦ inr (read.0, read.1, (let low = read.2 in omega (arith, low)), read.3)
      ]
      | inr same ↦ subst (λ (x : Effect). ((m : Item) × (x.placed.at < places) × IsAddEffect adds reads points m x) ⊎ ((j : ℕ) × (q : ℕ × List Item) × (j < i + 1) × IsReadEffect reads points j q x)) same
          (inr (i, r, omega arith, effect))
    ];
    adds_there = λ at n within add. let found = before.adds_there at n within add in (found.0, Contains-append_left old (e ∷ []) found.0 found.1, found.2, found.3);
    reads_there = λ j q within read. elim (cases_lt j i) [
      | inl less ↦ let found = before.reads_there j q less read in (found.0, Contains-append_left old (e ∷ []) found.0 found.1, found.2, found.3)
      | inr from ↦
          let same : r ≡ q = one_read reads i r q there (subst (λ k. slice_get reads k ≡ Some q) (omega (arith, within, from)) read) in
          subst (λ (x : ℕ × List Item). (d : Effect) × Contains (old ++ e ∷ []) d × (d.placed.at ≡ x.0) × (d.placed.reply ≡ Members x.1)) same
          (e, in_last old e, effect.at, effect.reply)
    ];
    once = λ apart. pairs_next (λ (c d : Effect). c.placed.at ≢ d.placed.at) old e (before.once apart) (λ d among same. elim (before.each d among) [
      | inl add ↦ apart.none r add.0 (place_of i r there) (subst (λ k. IsAdd adds k add.0) (same ∙ effect.at) add.2.add)
      | inr read ↦
          let less = read.2 in
          let places_differ = apart.once read.0 i r less (slice_get_within reads i r there) in
          places_differ (ap (λ (x : ℕ × List Item). x.0) (get_or_from_slice_get reads read.0 read.1 r read.3.read) ∙ sym read.3.at ∙ same ∙ effect.at
          ∙ sym (ap (λ (x : ℕ × List Item). x.0) (get_or_from_slice_get reads i r r there)))
    ]);
  })
    where
      place_of : (k : ℕ) (q : ℕ × List Item) → slice_get reads k ≡ Some q → Contains reads q
      place_of k q at = (k, slice_get_within reads k q at, get_or_from_slice_get reads k q q at)
