-- Items that become known.
use Rattle.std.proofs.Common.{◌≡◌, ◌<◌, ◌≤◌, ◌⊎◌, ◌↔◌, ℕ, Bool, false, IsTrue, ◌+◌, ◌-◌, take, List, [], ◌∷◌, ◌++◌, Option, None, Some, is_some, AllPairs, Contains, length, get_or, inl, inr, refl, sym, ap, subst, ◌∙◌, arith}
use Rattle.std.proofs.lemmas.Bool.{cases_lt, false≢true}
use Rattle.std.proofs.lemmas.List.Elements.{Contains-get_or, Contains-push, Contains-push_cases, Contains-append_left, Contains-append_right, Contains-append_cases}
use Rattle.std.proofs.lemmas.List.Quantifiers.{all_pairs_push}
use Rattle.lin_events.specs.declared.items.Item.{Item}
use Rattle.lin_lists.specs.lemmas.Elements.{first_or_rest, nothing_in}
use Rattle.lin_sets.specs.Places.{IsPut}
use Rattle.lin_sets.specs.declared.endings.Ending.{Ending}
use Rattle.lin_sets.specs.declared.endings.Endings.{Endings}
use Rattle.lin_sets.specs.Endings.{AreBy, AreLearned, AreListed, IsAhead, known_in}
use Rattle.lin_order.specs.lemmas.Lists.{take_more}
use Rattle.std.proofs.lemmas.List.{get_or_default}
use Rattle.lin_sets.proofs.Finding.{any_default}
use Rattle.lin_sets.proofs.Putting.{put_cases, put_here}

pub one_place : {a b : ℕ} → Some a ≡ Some b → a ≡ b
one_place e = cc

pub not_none : {a : ℕ} → Some a ≡ None → ⊥
not_none e = cc

pub cases_of : (o : Option ℕ) → (o ≡ None) ⊎ ((a : ℕ) × (o ≡ Some a))
cases_of None = inl refl
cases_of (Some a) = inr (a, refl)

-- an item that wasn't known
pub learned_now : (old new : Endings) (item : Item) (end : ℕ) → known_in old item ≡ None → IsPut old.known new.known item (Some end) → AreLearned old new (item ∷ []) end
learned_now old new item end none put = record {
  stays = λ other since e. elim (put_cases old.known new.known item (Some end) put other) [
    | inl here ↦ absurd (not_none (sym e ∙ ap (known_in old) (sym here.0) ∙ none))
    | inr kept ↦ kept.1 ∙ e
  ];
  learned = λ other out there. elim (first_or_rest item [] other there) [
    | inl same ↦ ap (known_in new) (sym same) ∙ put_here old.known new.known item (Some end) put
    | inr nowhere ↦ absurd (nothing_in other nowhere)
  ];
  others = λ other since out some. elim (put_cases old.known new.known item (Some end) put other) [
    | inl here ↦ ((0, omega arith, here.0), one_place (sym some ∙ here.1))
    | inr kept ↦ absurd (not_none (sym some ∙ kept.1 ∙ out))
  ];
}

-- it is listed
pub listed_now : (old new : Endings) (item : Item) (end : ℕ) → known_in old item ≡ None → IsPut old.known new.known item (Some end)
    → new.listed.items ≡ old.listed.items ++ record { item = item; end = end } ∷ [] → AreBy end old → AreListed old → AreListed new
listed_now old new item end none put push by listed = record {
  all = λ other since e. subst (λ l. Contains l (record { item = other; end = since })) (sym push) (elim (put_cases old.known new.known item (Some end) put other) [
    | inl here ↦
        let same : end ≡ since = one_place (sym here.1 ∙ e) in
        subst (λ (x : Ending). Contains (old.listed.items ++ record { item = item; end = end } ∷ []) x) (pair item other end since here.0 same) (Contains-push old.listed.items (record { item = item; end = end }))
    | inr kept ↦ Contains-append_left old.listed.items (record { item = item; end = end } ∷ []) (record { item = other; end = since }) (listed.all other since (sym kept.1 ∙ e))
  ]);
  each = λ x there. elim (Contains-push_cases old.listed.items (record { item = item; end = end }) x (subst (λ l. Contains l x) push there)) [
    | inl before ↦
        let was = listed.each x before in
        elim (put_cases old.known new.known item (Some end) put x.item) [
          | inl here ↦ absurd (not_none (sym was ∙ ap (known_in old) (sym here.0) ∙ none))
          | inr kept ↦ kept.1 ∙ was
        ]
    | inr itself ↦ subst (λ (y : Ending). known_in new y.item ≡ Some y.end) itself (put_here old.known new.known item (Some end) put)
  ];
  rising = subst (AllPairs IsAhead) (sym push) (all_pairs_push IsAhead old.listed.items (record { item = item; end = end }) listed.rising (λ k d inside. (
    by k d inside,
    λ same.
        let was = listed.each (get_or old.listed.items k d) (Contains-get_or old.listed.items k d inside) in
        not_none (sym was ∙ ap (known_in old) same ∙ none),
  )));
}
  where
    of_both : Item → ℕ → Ending
    of_both a m = record { item = a; end = m }

    pair : (a b : Item) (m n : ℕ) → a ≡ b → m ≡ n → of_both a m ≡ of_both b n
    pair a b m n same alike = cc

-- some items, and then some more
pub learned_more : (old then new : Endings) (items more : List Item) (end : ℕ) → AreLearned old then items end → AreLearned then new more end → AreLearned old new (items ++ more) end
learned_more old then new items more end first second = record {
  stays = λ item since e. second.stays item since (first.stays item since e);
  learned = λ item none there. elim (Contains-append_cases items more item there) [
    | inl early ↦ second.stays item end (first.learned item none early)
    | inr late ↦ elim (cases_of (known_in then item)) [
      | inl out ↦ second.learned item out late
      | inr known ↦ second.stays item end (known.1 ∙ ap Some (first.others item known.0 none known.1).1)
    ]
  ];
  others = λ item since none some. elim (cases_of (known_in then item)) [
    | inl out ↦
        let found = second.others item since out some in
        (Contains-append_right items more item found.0, found.1)
    | inr known ↦
        let found = first.others item known.0 none known.1 in
        let same : known.0 ≡ since = one_place (sym (second.stays item known.0 known.1) ∙ some) in
        (Contains-append_left items more item found.0, sym same ∙ found.1)
  ];
}

-- the last ones of them, as many as were looked at, are in a set where they were known before the place
abbrev pub AreLooked : List Ending → List Item → ℕ → ℕ → Type 0
AreLooked xs t place at = (k : ℕ) (d : Ending) → at ≤ k → k < length xs → (get_or xs k d).end < place → Contains t (get_or xs k d).item

module _ (endings : Endings) (t : List Item) (listed : AreListed endings) where
  -- where all that were known since the one place were looked at
  pub looked_since : (from place at : ℕ) → AreLooked endings.listed.items t place at
      → ((k : ℕ) (d : Ending) → k < at → k < length endings.listed.items → (get_or endings.listed.items k d).end < from)
      → (item : Item) (end : ℕ) → known_in endings item ≡ Some end → from ≤ end → end < place → Contains t item
  looked_since from place at looked earlier item end known late early =
      let itself : Ending = record { item = item; end = end } in
      let there = listed.all item end known in
      let is : get_or endings.listed.items there.0 itself ≡ itself = there.2 in
      elim (cases_lt there.0 at) [
        | inl before ↦
            let less : end < from = subst (λ (x : Ending). x.end < from) is (earlier there.0 itself before there.1) in
            let no : ⊥ = omega (arith, less, late) in
            absurd no
        | inr behind ↦ subst (λ (x : Ending). x.end < place → Contains t x.item) is (looked there.0 itself behind there.1) early
      ]

  -- those ahead of one that was known before the place were too
  pub all_earlier : (from at : ℕ) (d : Ending) → 0 < at → at ≤ length endings.listed.items → (get_or endings.listed.items (at - 1) d).end < from
      → (k : ℕ) (e : Ending) → k < at → k < length endings.listed.items → (get_or endings.listed.items k e).end < from
  all_earlier from at d some within early k e before inside = elim (cases_lt k (at - 1)) [
    | inl ahead ↦
        let up : (get_or endings.listed.items k d).end ≤ (get_or endings.listed.items (at - 1) d).end = (listed.rising k (at - 1) d ahead (omega (arith, some, within))).0 in
        subst (λ (x : Ending). x.end < from) (any_default endings.listed.items k d e inside) (omega (arith, up, early))
    | inr upto ↦
        let here : at - 1 ≡ k = omega (arith, upto, before) in
        subst (λ (x : Ending). x.end < from) (ap (λ n. get_or endings.listed.items n d) here ∙ any_default endings.listed.items k d e inside) early
  ]

  -- one of them that isn't in the set
  pub one_missing : (place at : ℕ) (d : Ending) (r : Bool) → at < length endings.listed.items → (get_or endings.listed.items at d).end < place
      → (IsTrue r ↔ Contains t (get_or endings.listed.items at d).item) → r ≡ false
      → (item : Item) × (end : ℕ) × (known_in endings item ≡ Some end) × (end < place) × (Contains t item → ⊥)
  one_missing place at d r inside early is lacks =
      let x = get_or endings.listed.items at d in
      (x.item, x.end, listed.each x (Contains-get_or endings.listed.items at d inside), early, λ there. false≢true (sym lacks ∙ is.1 there))

-- a test that something is there, and isn't
pub none_is : (o : Option ℕ) (r : Bool) → r ≡ is_some o → r ≡ false → o ≡ None
none_is None r is lacks = refl
none_is (Some a) r is lacks = absurd (false≢true (sym lacks ∙ is))

-- the next of some items
pub learned_next : (old then new : Endings) (items : List Item) (i : ℕ) (d : Item) (end : ℕ) → i < length items → AreLearned old then (take i items) end → AreLearned then new (get_or items i d ∷ []) end
    → AreLearned old new (take (i + 1) items) end
learned_next old then new items i d end inside first second =
    subst (λ (l : List Item). AreLearned old new l end) (sym (take_more items i (get_or items i d) inside (get_or_default items i d (get_or items i d) inside)))
    (learned_more old then new (take i items) (get_or items i d ∷ []) end first second)

-- where no more was changed than room was made
pub listed_same : (old new : Endings) → new.listed.items ≡ old.listed.items → ((item : Item) → known_in new item ≡ known_in old item) → AreListed old → AreListed new
listed_same old new items known listed = record {
  all = λ item end is. subst (λ l. Contains l (record { item = item; end = end })) (sym items) (listed.all item end (sym (known item) ∙ is));
  each = λ x there. known x.item ∙ listed.each x (subst (λ l. Contains l x) items there);
  rising = subst (AllPairs IsAhead) (sym items) listed.rising;
}

pub learned_same : (old then new : Endings) (items : List Item) (end : ℕ) → AreLearned old then items end → ((item : Item) → known_in new item ≡ known_in then item) → AreLearned old new items end
learned_same old then new items end learned same = record {
  stays = λ item since e. same item ∙ learned.stays item since e;
  learned = λ item none there. same item ∙ learned.learned item none there;
  others = λ item since none some. learned.others item since none (sym (same item) ∙ some);
}
