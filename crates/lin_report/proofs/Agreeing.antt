-- A yes and a no exclude each other, and a no tells one prefix.
use Rattle.std.proofs.Common.{◌≡◌, ◌<◌, ◌≤◌, ◌-◌, ℕ, List, take, inl, inr, subst, arith}
use Rattle.std.proofs.lemmas.Bool.{cases_order}
use Rattle.std.proofs.lemmas.List.{take-take}
use Rattle.lin_events.specs.declared.events.Event.{Event}
use Rattle.lin_objects.specs.Kinds.{kind_of}
use Rattle.lin_order.specs.Laws.{PrefixesAreLinearizable, PrefixesAreLinearizableFor}
use Rattle.lin_order.specs.Linearizable.{IsLinearizable, IsLinearizableFor}
use Rattle.lin_answers.specs.Answers.{IsShortestWithout}
use Rattle.lin_answers.specs.declared.answers.Scope.TheVariants.{Object, Whole}
use Rattle.lin_report.specs.Uniqueness.{NoTellsOnePrefix, YesExcludesNo}

-- what holds of a history holds of each of its beginnings
abbrev pub Beginnings : (List Event → Type 0) → Type 0
Beginnings holds = (h : List Event) (n : ℕ) → holds h → holds (take n h)

module _ (holds : List Event → Type 0) (beginnings : Beginnings holds) where
  yes_no : (h : List Event) (n : ℕ) → holds h → IsShortestWithout holds h n → ⊥
  yes_no h n yes' failing = failing.fails (beginnings h n yes')

  -- the shorter of two can't fail
  never_shorter : (h : List Event) (n m : ℕ) → IsShortestWithout holds h n → IsShortestWithout holds h m → n < m → ⊥
  never_shorter h n m x y below =
      let inside : n ≤ m - 1 = omega arith in
      x.fails (subst holds (take-take n (m - 1) h inside) (beginnings (take (m - 1) h) n y.before))

  one_prefix : (h : List Event) (n m : ℕ) → IsShortestWithout holds h n → IsShortestWithout holds h m → n ≡ m
  one_prefix h n m x y = elim (cases_order n m) [
    | inl same ↦ same
    | inr differ ↦ elim differ [
      | inl below ↦ absurd (never_shorter h n m x y below)
      | inr above ↦ absurd (never_shorter h m n y x above)
    ]
  ]

module _ (whole : PrefixesAreLinearizable) (object : PrefixesAreLinearizableFor) where
  pub yes_excludes_no : YesExcludesNo
  yes_excludes_no h kinds budget other (Object key) n yes' fails = yes_no (IsLinearizableFor (kind_of kinds) key) (object (kind_of kinds) key) h n yes'.1 fails.1
  yes_excludes_no h kinds budget other Whole n yes' fails = yes_no (IsLinearizable (kind_of kinds)) (whole (kind_of kinds)) h n yes'.1 fails.1

  pub no_tells_one_prefix : NoTellsOnePrefix
  no_tells_one_prefix h kinds budget other (Object key) n m x y = one_prefix (IsLinearizableFor (kind_of kinds) key) (object (kind_of kinds) key) h n m x.1 y.1
  no_tells_one_prefix h kinds budget other Whole n m x y = one_prefix (IsLinearizable (kind_of kinds)) (whole (kind_of kinds)) h n m x.1 y.1
