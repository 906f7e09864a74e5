-- Items that are known no more.
use Rattle.std.proofs.Common.{◌≡◌, ◌<◌, ◌≤◌, ◌-◌, ◌+◌, ℕ, List, [], ◌∷◌, ◌++◌, Result, Ok, Err, OnErr, None, Some, AllPairs, Contains, take, length, get_or, inl, inr, sym, ap, subst, ◌∙◌, arith}
use Rattle.std.proofs.lemmas.Bool.{cases_lt}
use Rattle.std.proofs.lemmas.List.{get_or_default, take_all}
use Rattle.std.proofs.lemmas.List.Elements.{Contains-append_left, Contains-push, Contains-push_cases}
use Rattle.lin_order.specs.lemmas.Lists.{take_more}
use Rattle.lin_lists.specs.lemmas.Elements.{pairs_left, pairs_last}
use Rattle.lin_sets.specs.Places.{IsPut}
use Rattle.lin_sets.specs.declared.endings.Ending.{Ending}
use Rattle.lin_sets.specs.declared.endings.Endings.{Endings}
use Rattle.lin_sets.specs.Endings.{AreBefore, AreBy, AreKept, AreLearned, AreListed, IsAhead, known_in}
use Rattle.lin_events.specs.declared.items.Item.{Item}
use Rattle.lin_sets.proofs.Learning.{cases_of, not_none, one_place}
use Rattle.lin_sets.proofs.Putting.{put_cases}

-- the last one
pub last_is : {A : Type 0} (xs : List A) (count : ℕ) (d : A) → count ≡ length xs → (count ≡ 0 → ⊥) → xs ≡ take (count - 1) xs ++ get_or xs (count - 1) d ∷ []
last_is xs count d is some =
    let last = get_or xs (count - 1) d in
    let more = take_more xs (count - 1) last (omega (arith, is, some)) (get_or_default xs (count - 1) d last (omega (arith, is, some))) in
    sym (take_all (count - 1 + 1) xs (omega (arith, is, some))) ∙ more

module _ (old new : Endings) (last : Ending) (split : old.listed.items ≡ new.listed.items ++ last ∷ []) (listed : AreListed old) where
  pub last_known : known_in old last.item ≡ Some last.end
  last_known = listed.each last (subst (λ (l : List Ending). Contains l last) (sym split) (Contains-push new.listed.items last))

  pairs : AllPairs IsAhead (new.listed.items ++ last ∷ [])
  pairs = subst (AllPairs IsAhead) split listed.rising

  module _ (put : IsPut old.known new.known last.item None) where
    pub fewer_listed : AreListed new
    fewer_listed = record {
      all = λ item end known. elim (put_cases old.known new.known last.item None put item) [
        | inl here ↦ absurd (not_none (sym known ∙ here.1))
        | inr apart ↦
            let was = listed.all item end (sym apart.1 ∙ known) in
            elim (Contains-push_cases new.listed.items last (record { item = item; end = end }) (subst (λ (l : List Ending). Contains l (record { item = item; end = end })) split was)) [
              | inl there ↦ there
              | inr same ↦ absurd (apart.0 (ap (λ (x : Ending). x.item) same))
            ]
      ];
      each = λ x there.
          let was = listed.each x (subst (λ (l : List Ending). Contains l x) (sym split) (Contains-append_left new.listed.items (last ∷ []) x there)) in
          elim (put_cases old.known new.known last.item None put x.item) [
            | inl here ↦
                let ahead : IsAhead x last = pairs_last IsAhead new.listed.items last x pairs there in
                absurd (ahead.1 (sym here.0))
            | inr apart ↦ apart.1 ∙ was
          ];
      rising = pairs_left IsAhead new.listed.items (last ∷ []) pairs;
    }

    pub fewer_kept : (place : ℕ) → place ≤ last.end → AreKept old new place
    fewer_kept place late = record {
      kept = λ item end known early. elim (put_cases old.known new.known last.item None put item) [
        | inl here ↦
            let same : end ≡ last.end = one_place (sym known ∙ ap (known_in old) (sym here.0) ∙ last_known) in
            let no : ⊥ = omega (arith, same, early, late) in
            absurd no
        | inr apart ↦ apart.1 ∙ known
      ];
      left = λ item end known. elim (put_cases old.known new.known last.item None put item) [
        | inl here ↦ absurd (not_none (sym known ∙ here.1))
        | inr apart ↦ sym apart.1 ∙ known
      ];
    }

-- where the last one is early, all are
pub all_before : (endings : Endings) (place count : ℕ) (d : Ending) → AreListed endings → count ≡ length endings.listed.items → (count ≡ 0 → ⊥) → (get_or endings.listed.items (count - 1) d).end < place → AreBefore place endings
all_before endings place count d listed is some early item end known =
    let xs = endings.listed.items in
    let there = listed.all item end known in
    let itself : Ending = record { item = item; end = end } in
    elim (cases_lt there.0 (count - 1)) [
      | inl sooner ↦
          let up : (get_or xs there.0 d).end ≤ (get_or xs (count - 1) d).end = (listed.rising there.0 (count - 1) d sooner (omega (arith, is, some))).0 in
          let same : (get_or xs there.0 d).end ≡ end = ap (λ (x : Ending). x.end) (get_or_default xs there.0 d itself there.1 ∙ there.2) in
          omega (arith, up, same, early)
      | inr last ↦
          let at : count - 1 ≡ there.0 = omega (arith, last, there.1, is) in
          let same : (get_or xs (count - 1) d).end ≡ end = ap (λ (x : Ending). x.end) (ap (λ n. get_or xs n d) at ∙ get_or_default xs there.0 d itself there.1 ∙ there.2) in
          omega (arith, same, early)
    ]

-- where there is none
pub none_before : (endings : Endings) (place : ℕ) → AreListed endings → length endings.listed.items ≡ 0 → AreBefore place endings
none_before endings place listed none item end known = let there = listed.all item end known in let no : ⊥ = omega (arith, there.1, none) in absurd no

pub kept_more : (old then new : Endings) (place : ℕ) → AreKept old then place → AreKept then new place → AreKept old new place
kept_more old then new place first second = record {
  kept = λ item end known early. second.kept item end (first.kept item end known early) early;
  left = λ item end known. first.left item end (second.left item end known);
}

-- the list with its last one taken off
pub last_split : (xs rest : List Ending) (count : ℕ) (last : Ending) → count ≡ length xs → (count ≡ 0 → ⊥) → last ≡ get_or xs (count - 1) last → rest ≡ take (count - 1) xs → xs ≡ rest ++ last ∷ []
last_split xs rest count last is some at rest_is =
    last_is xs count last is some ∙ ap (λ l. l ++ get_or xs (count - 1) last ∷ []) (sym rest_is) ∙ ap (λ (x : Ending). rest ++ x ∷ []) (sym at)

-- what was learned is forgotten again
pub forgotten : (old then new : Endings) (items : List Item) (place : ℕ) → AreBefore place old → AreLearned old then items place → AreKept then new place → AreBefore place new → (item : Item) → known_in new item ≡ known_in old item
forgotten old then new items place early learned kept before item = elim (cases_of (known_in old item)) [
  | inr known ↦ kept.kept item known.0 (learned.stays item known.0 known.1) (early item known.0 known.1) ∙ sym known.1
  | inl none ↦ elim (cases_of (known_in new item)) [
    | inl still ↦ still ∙ sym none
    | inr some ↦
        let was = learned.others item some.0 none (kept.left item some.0 some.1) in
        let late = before item some.0 some.1 in
        let no : ⊥ = omega (arith, was.1, late) in
        absurd no
  ]
]

-- what was known before was known by then
pub before_by : (endings : Endings) (place : ℕ) → AreListed endings → AreBefore place endings → AreBy place endings
before_by endings place listed early k d inside =
    let x = get_or endings.listed.items k d in
    let is = listed.each x (k, inside, get_or_default endings.listed.items k x d inside) in
    let ahead = early x.item x.end is in
    omega (arith, ahead)

pub on_err : {A E : Type 0} (r : Result A E) (P : Type 0) → P → OnErr r P
on_err (Ok x) P p = tt
on_err (Err e) P p = p
