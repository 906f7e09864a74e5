-- What was known at each place, after one event more or less.
use Rattle.std.proofs.Common.{Result, Ok, Err, OnErr, ◌≡◌, ◌≤◌, ◌<◌, ◌+◌, ◌++◌, ◌∷◌, [], ◌⊎◌, inl, inr, ℕ, zero, suc, List, length, take, drop, refl, sym, ap, subst, ◌∙◌, arith, length-append}
use Rattle.std.proofs.lemmas.Bool.{cases_lt}
use Rattle.std.proofs.lemmas.List.{length-take, take-take}
use Rattle.lin_events.specs.declared.events.Event.{Event}
use Rattle.lin_locks.specs.declared.changes.Change.{Change}
use Rattle.lin_locks.specs.declared.locks.Lock.{Lock}
use Rattle.lin_locks.specs.declared.sides.Side.{Side}
use Rattle.lin_locks.specs.declared.standings.Standing.{Standing}
use Rattle.lin_locks.specs.inner.Changes.{all_undone, undone}
use Rattle.lin_locks.specs.inner.Known.{Known, Part, known_of, part_of}
use Rattle.lin_locks.specs.inner.Room.{HasKept, HasKeptBoth, Holds, HoldsBoth}
use Rattle.lin_locks.specs.inner.Turns.{IsRight}
use Rattle.lin_locks.specs.Locks.{IsLockOf, IsStill, known_at, reached_in}

drop_past : {A : Type 0} (xs : List A) (p : ℕ) → length xs ≤ p → drop p xs ≡ []
drop_past [] zero past = refl
drop_past [] (suc p) past = refl
drop_past (x ∷ xs) zero past = absurd (omega (arith, past))
drop_past (x ∷ xs) (suc p) past = drop_past xs p (omega (arith, past))

drop_within : {A : Type 0} (xs : List A) (x : A) (p : ℕ) → p ≤ length xs → drop p (xs ++ x ∷ []) ≡ drop p xs ++ x ∷ []
drop_within [] x zero within = refl
drop_within [] x (suc p) within = absurd (omega (arith, within))
drop_within (y ∷ xs) x zero within = refl
drop_within (y ∷ xs) x (suc p) within = drop_within xs x p (omega (arith, within))

undone_last : (changes : List Change) (change : Change) (known : Known) → all_undone (changes ++ change ∷ []) known ≡ all_undone changes (undone change known)
undone_last [] change known = refl
undone_last (first ∷ changes) change known = ap (undone first) (undone_last changes change known)

-- what was known before the last event is as it was
pub back : (changes : List Change) (change : Change) (now before : Known) → undone change now ≡ before → (p : ℕ) → p ≤ length changes
    → all_undone (drop p (changes ++ change ∷ [])) now ≡ all_undone (drop p changes) before
back changes change now before is p within = ap (λ l. all_undone l now) (drop_within changes change p within) ∙ undone_last (drop p changes) change now ∙ ap (all_undone (drop p changes)) is

-- what is known stands at the end
pub present : (changes : List Change) (known : Known) (p : ℕ) → length changes ≤ p → all_undone (drop p changes) known ≡ known
present changes known p past = ap (λ l. all_undone l known) (drop_past changes p past)

side_holds : (side : Side) → Holds side (part_of side)
side_holds side = let opens = side.open.ok in let debts = side.debts.ok in record { opens = omega (arith, opens.0, opens.1); debts = omega (arith, debts.0, debts.1) }

holds : (standing : Standing) → HoldsBoth standing (known_of standing)
holds standing = record { acquires = side_holds standing.acquires; releases = side_holds standing.releases }

side_wider : (old new : Side) (part : Part) → HasKept old new → Holds old part → Holds new part
side_wider old new part kept was = let opens = kept.opens in let debts = kept.debts in let o = was.opens in let d = was.debts in record { opens = omega (arith, opens, o); debts = omega (arith, debts, d) }

wider : (old new : Standing) (known : Known) → HasKeptBoth old new → HoldsBoth old known → HoldsBoth new known
wider old new known kept was = record {
  acquires = side_wider old.acquires new.acquires known.acquires kept.acquires was.acquires;
  releases = side_wider old.releases new.releases known.releases kept.releases was.releases;
}

up_to : (n m : ℕ) → n ≤ m + 1 → (n ≤ m) ⊎ (n ≡ m + 1)
up_to n m within = elim (cases_lt m n) [
  | inl more ↦ inr (omega (arith, within, more))
  | inr less ↦ inl (omega (arith, less))
]

up_or_past : (n m : ℕ) → (n ≤ m) ⊎ (m + 1 ≤ n)
up_or_past n m = elim (cases_lt m n) [
  | inl more ↦ inr (omega (arith, more))
  | inr less ↦ inl (omega (arith, less))
]

-- one event more
module _ (old new : Lock) (change : Change) (changes : new.changes.items ≡ old.changes.items ++ change ∷ []) (undoes : undone change (known_of new.standing) ≡ known_of old.standing) (kept : HasKeptBoth old.standing new.standing) where
  one_more : reached_in new ≡ reached_in old + 1
  one_more = ap length changes ∙ length-append old.changes.items (change ∷ [])

  as_it_was : (p : ℕ) → p ≤ reached_in old → known_at new p ≡ known_at old p
  as_it_was p within = ap (λ l. all_undone (drop p l) (known_of new.standing)) changes ∙ back old.changes.items change (known_of new.standing) (known_of old.standing) undoes p within

  pub gone_on : (h : List Event) → IsLockOf old h → reached_in old < length h → IsRight (known_of new.standing) (take (reached_in old + 1) h) → IsLockOf new h × (reached_in new ≡ reached_in old + 1)
  gone_on h told inside next = (
    record {
      within = let more = one_more in omega (arith, more, inside);
      right = λ p within. elim (up_to p (reached_in old) (subst (λ n. p ≤ n) one_more within)) [
        | inl before ↦ subst (λ k. IsRight k (take p h)) (sym (as_it_was p before)) (told.right p before)
        | inr last ↦ subst (λ n. IsRight (known_at new n) (take n h)) (sym last) (subst (λ k. IsRight k (take (reached_in old + 1) h)) (sym (present new.changes.items (known_of new.standing) (reached_in old + 1) (let more = one_more in omega (arith, more)))) next)
      ];
      room = λ p. elim (up_or_past p (reached_in old)) [
        | inl before ↦ subst (HoldsBoth new.standing) (sym (as_it_was p before)) (wider old.standing new.standing (known_at old p) kept (told.room p))
        | inr past ↦ subst (HoldsBoth new.standing) (sym (present new.changes.items (known_of new.standing) p (let more = one_more in omega (arith, more, past)))) (holds new.standing)
      ];
    },
    one_more,
  )

-- one event less
module _ (old new : Lock) (change : Change) (changes : old.changes.items ≡ new.changes.items ++ change ∷ []) (h : List Event) (told : IsLockOf old h) where
  was_known : (p : ℕ) → p ≤ reached_in new → known_at old p ≡ all_undone (drop p new.changes.items) (undone change (known_of old.standing))
  was_known p within = ap (λ l. all_undone (drop p l) (known_of old.standing)) changes ∙ back new.changes.items change (known_of old.standing) (undone change (known_of old.standing)) refl p within

  one_less : reached_in old ≡ reached_in new + 1
  one_less = ap length changes ∙ length-append new.changes.items (change ∷ [])

  -- there is room for what was known before it
  pub room_before : HoldsBoth old.standing (undone change (known_of old.standing))
  room_before = subst (HoldsBoth old.standing) (was_known (reached_in new) (omega arith) ∙ present new.changes.items (undone change (known_of old.standing)) (reached_in new) (omega arith)) (told.room (reached_in new))

  pub gone_back : known_of new.standing ≡ undone change (known_of old.standing) → HasKeptBoth old.standing new.standing → IsLockOf new h
  gone_back is kept = record {
    within = let less = one_less in let all = told.within in omega (arith, less, all);
    right = λ p within. subst (λ k. IsRight k (take p h)) (same p within) (told.right p (let less = one_less in omega (arith, within, less)));
    room = λ p. elim (up_or_past p (reached_in new)) [
      | inl before ↦ subst (HoldsBoth new.standing) (same p before) (wider old.standing new.standing (known_at old p) kept (told.room p))
      | inr past ↦ subst (HoldsBoth new.standing) (sym (present new.changes.items (known_of new.standing) p (omega (arith, past)))) (holds new.standing)
    ];
  }
    where
      same : (p : ℕ) → p ≤ reached_in new → known_at old p ≡ known_at new p
      same p within = was_known p within ∙ ap (all_undone (drop p new.changes.items)) (sym is)

-- no event
pub stayed : (old new : Lock) → new.changes.items ≡ old.changes.items → known_of new.standing ≡ known_of old.standing → HasKeptBoth old.standing new.standing → IsStill old new
stayed old new changes is kept = (
  ap length changes,
  λ h told. record {
    within = subst (λ (l : List Change). length l ≤ length h) (sym changes) told.within;
    right = λ p within. subst (λ k. IsRight k (take p h)) (sym (same p)) (told.right p (subst (λ (l : List Change). p ≤ length l) changes within));
    room = λ p. subst (HoldsBoth new.standing) (sym (same p)) (wider old.standing new.standing (known_at old p) kept (told.room p));
  },
)
  where
    same : (p : ℕ) → known_at new p ≡ known_at old p
    same p = ap (λ l. all_undone (drop p l) (known_of new.standing)) changes ∙ ap (all_undone (drop p old.changes.items)) is

-- events that begin alike
pub of_edited : (lock : Lock) (h edited : List Event) (place : ℕ) → reached_in lock ≤ place → take place h ≡ take place edited → IsLockOf lock h → IsLockOf lock edited
of_edited lock h edited place fits alike told = record {
  within =
      let all = told.within in
      let first = length-take place h in
      let second = length-take place edited in
      let same = ap length alike in
      omega (arith, fits, all, first, second, same);
  right = λ p within. subst (IsRight (known_at lock p)) (sym (take-take p place h (omega (arith, within, fits))) ∙ ap (take p) alike ∙ take-take p place edited (omega (arith, within, fits))) (told.right p within);
  room = told.room;
}

-- no events
pub of_none : (lock : Lock) → lock.changes.items ≡ [] → (h : List Event) → IsRight (known_of lock.standing) [] → IsLockOf lock h
of_none lock none h right = record {
  within = let many = ap length none in omega (arith, many);
  right = λ p within.
      let first : p ≡ 0 = (let many = ap length none in omega (arith, many, within)) in
      subst (λ k. IsRight k (take p h)) (sym (present lock.changes.items (known_of lock.standing) p (let many = ap length none in omega (arith, many)))) (subst (λ n. IsRight (known_of lock.standing) (take n h)) (sym first) right);
  room = λ p. subst (HoldsBoth lock.standing) (sym (present lock.changes.items (known_of lock.standing) p (let many = ap length none in omega (arith, many)))) (holds lock.standing);
}

pub as_much : (standing : Standing) → HasKeptBoth standing standing
as_much standing = record { acquires = record { opens = omega arith; debts = omega arith }; releases = record { opens = omega arith; debts = omega arith } }

pub on_err : {A E : Type 0} (r : Result A E) (P : Type 0) → P → OnErr r P
on_err (Ok x) P p = tt
on_err (Err e) P p = p
