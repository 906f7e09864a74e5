-- The first mark that fits, and who is chosen before whom.
use Rattle.std.proofs.Common.{◌≡◌, ◌≢◌, ◌<◌, ℕ, List, length, inl, inr, refl, sym, ap, subst, ◌∙◌, arith}
use Rattle.std.proofs.lemmas.Bool.{cases_order}
use Rattle.lin_events.specs.declared.events.Event.{Event}
use Rattle.lin_tables.specs.WindowTables.{HasMark, IsAhead, IsFirstMark, IsNearer, Listing, around, open_ones, order_of}
use Rattle.lin_tables.specs.lemmas.Standing.{invoked_within, open_invoked}
use Rattle.lin_tables.specs.WindowOperations.{IsInvoked}
use Rattle.lin_tables.specs.declared.marks.Chosen.{Chosen}
use Rattle.lin_tables.specs.declared.marks.Mark.{Mark}
use Rattle.lin_tables.specs.declared.marks.Mark.TheVariants.{Failing, Named, Beside, Other}

module _ (fits : Mark → Type 0) where
  pub first_failing : fits Failing → IsFirstMark fits Failing
  first_failing does = record { does = does; first = λ earlier below. absurd (omega (arith, below)) }

  pub first_named : (fits Failing → ⊥) → fits Named → IsFirstMark fits Named
  first_named not_failing does = record { does = does; first = first }
    where
      first : (earlier : Mark) → order_of earlier < 1 → fits earlier → ⊥
      first Failing below = not_failing
      first Named below = absurd (omega (arith, below))
      first Beside below = absurd (omega (arith, below))
      first Other below = absurd (omega (arith, below))

  pub first_beside : (fits Failing → ⊥) → (fits Named → ⊥) → fits Beside → IsFirstMark fits Beside
  first_beside not_failing not_named does = record { does = does; first = first }
    where
      first : (earlier : Mark) → order_of earlier < 2 → fits earlier → ⊥
      first Failing below = not_failing
      first Named below = not_named
      first Beside below = absurd (omega (arith, below))
      first Other below = absurd (omega (arith, below))

  pub first_other : (fits Failing → ⊥) → (fits Named → ⊥) → (fits Beside → ⊥) → fits Other → IsFirstMark fits Other
  first_other not_failing not_named not_beside does = record { does = does; first = first }
    where
      first : (earlier : Mark) → order_of earlier < 3 → fits earlier → ⊥
      first Failing below = not_failing
      first Named below = not_named
      first Beside below = not_beside
      first Other below = absurd (omega (arith, below))

  pub first_none : (fits Failing → ⊥) → (fits Named → ⊥) → (fits Beside → ⊥) → (fits Other → ⊥) → (mark : Mark) → IsFirstMark fits mark → ⊥
  first_none not_failing not_named not_beside not_other Failing is = not_failing is.does
  first_none not_failing not_named not_beside not_other Named is = not_named is.does
  first_none not_failing not_named not_beside not_other Beside is = not_beside is.does
  first_none not_failing not_named not_beside not_other Other is = not_other is.does

-- each mark has its own place in the order
order_one : (a b : Mark) → order_of a ≡ order_of b → a ≡ b
order_one Failing Failing same = refl
order_one Failing Named same = absurd (omega (arith, same))
order_one Failing Beside same = absurd (omega (arith, same))
order_one Failing Other same = absurd (omega (arith, same))
order_one Named Failing same = absurd (omega (arith, same))
order_one Named Named same = refl
order_one Named Beside same = absurd (omega (arith, same))
order_one Named Other same = absurd (omega (arith, same))
order_one Beside Failing same = absurd (omega (arith, same))
order_one Beside Named same = absurd (omega (arith, same))
order_one Beside Beside same = refl
order_one Beside Other same = absurd (omega (arith, same))
order_one Other Failing same = absurd (omega (arith, same))
order_one Other Named same = absurd (omega (arith, same))
order_one Other Beside same = absurd (omega (arith, same))
order_one Other Other same = refl

one_first : (fits : Mark → Type 0) (a b : Mark) → IsFirstMark fits a → IsFirstMark fits b → a ≡ b
one_first fits a b x y = elim (cases_order (order_of a) (order_of b)) [
  | inl same ↦ order_one a b same
  | inr apart ↦ elim apart [
    | inl before ↦ absurd (y.first a before x.does)
    | inr after ↦ absurd (x.first b after y.does)
  ]
]

module _ (h : List Event) where
  -- an operation has one mark
  pub one_mark : (listed : Listing) (at : ℕ) (a b : Mark) → HasMark h listed at a → HasMark h listed at b → a ≡ b
  one_mark open_ones at a b x y = x.1 ∙ sym y.1
  one_mark (around call from named) at a b x y = one_first _ a b x.1 y.1

  pub mark_invoked : (listed : Listing) (at : ℕ) (mark : Mark) → HasMark h listed at mark → IsInvoked h at
  mark_invoked open_ones at mark is = open_invoked h at is.0
  mark_invoked (around call from named) at mark is = is.0

  pub mark_within : (listed : Listing) (at : ℕ) (mark : Mark) → HasMark h listed at mark → at < length h
  mark_within listed at mark is = invoked_within h at (mark_invoked listed at mark is)

  pub mark_alone : (listed : Listing) (new x : Chosen) → HasMark h listed new.at new.mark → x.at ≡ new.at → HasMark h listed x.at x.mark → new ≡ x
  mark_alone listed new x is same other =
      let marks : new.mark ≡ x.mark = one_mark listed new.at new.mark x.mark is (subst (λ at. HasMark h listed at x.mark) same other) in
      ap (λ at. record new { at = at }) (sym same) ∙ ap (λ mark. record x { mark = mark }) marks

pub nearer_trans : (x y z : Chosen) → IsNearer x y → IsNearer y z → IsNearer x z
nearer_trans x y z one other = elim one [
  | inl below ↦ elim other [
    | inl more ↦ inl (omega (arith, below, more))
    | inr same ↦ inl (let e = same.0 in omega (arith, below, e))
  ]
  | inr equal ↦ elim other [
    | inl more ↦ inl (let e = equal.0 in omega (arith, more, e))
    | inr same ↦ inr (equal.0 ∙ same.0, let a = equal.1 in let b = same.1 in omega (arith, a, b))
  ]
]

pub nearer_total : (x y : Chosen) → x.at ≢ y.at → (IsNearer x y → ⊥) → IsNearer y x
nearer_total x y differ never = elim (cases_order (order_of x.mark) (order_of y.mark)) [
  | inl same ↦ elim (cases_order x.at y.at) [
    | inl here ↦ absurd (differ here)
    | inr apart ↦ elim apart [
      | inl before ↦ inr (sym same, before)
      | inr after ↦ absurd (never (inr (same, after)))
    ]
  ]
  | inr apart ↦ elim apart [
    | inl below ↦ absurd (never (inl below))
    | inr above ↦ inl above
  ]
]

pub ahead_trans : (listed : Listing) (x y z : Chosen) → IsAhead listed x y → IsAhead listed y z → IsAhead listed x z
ahead_trans open_ones x y z one other = omega (arith, one, other)
ahead_trans (around call from named) x y z one other = nearer_trans x y z one other

pub ahead_total : (listed : Listing) (x y : Chosen) → x.at ≢ y.at → (IsAhead listed x y → ⊥) → IsAhead listed y x
ahead_total open_ones x y differ never = elim (cases_order x.at y.at) [
  | inl here ↦ absurd (differ here)
  | inr apart ↦ elim apart [
    | inl before ↦ absurd (never before)
    | inr after ↦ after
  ]
]
ahead_total (around call from named) x y differ never = nearer_total x y differ never
