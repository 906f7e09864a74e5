-- What a member tells after each of its moves.
use Rattle.std.proofs.Common.{◌≡◌, ◌≢◌, ◌<◌, ◌≤◌, ◌==◌, ◌+◌, ℕ, suc, not, List, [], ◌∷◌, ◌++◌, length, map, filter, Some, inl, inr, refl, sym, ap, ◌∙◌, subst, arith, slice_get, Contains}
use Rattle.std.specs.List.{remove}
use Rattle.std.proofs.lemmas.Bool.{cases_eq}
use Rattle.std.proofs.lemmas.List.{map-append, length-append}
use Rattle.std.proofs.lemmas.Option.{slice_get_within}
use Rattle.std.proofs.lemmas.List.Elements.{Contains-append_left, Contains-push, Contains-push_cases}
use Rattle.lin_events.specs.declared.events.Event.{Event}
use Rattle.lin_events.specs.declared.calls.Call.TheVariants.{Enqueue}
use Rattle.lin_order.specs.declared.placed.Placed.{Placed}
use Rattle.lin_order.specs.Orders.{IsCall}
use Rattle.lin_lists.specs.lemmas.Lists.{get_left, get_cases, get_last}
use Rattle.lin_queues.specs.Debts.{Debtor, Follows, Owes, Dominates, IsPut, IsTaken, IsPaid, IsEmptied, GainsEarly, LosesEarly, nothing_done}
use Rattle.lin_queues.specs.Laws.{SinkLaw, DominationLaw}
use Rattle.lin_queues.specs.declared.elements.Element.{Element}
use Rattle.lin_queues.specs.declared.members.Debt.{Debt}
use Rattle.lin_queues.specs.Members.{View, Told, IsInside, AreEnqueues, IsAtLeast, owed, first_debt, at_first}
use Rattle.lin_queues.proofs.Lists.{one_there, contains_from_get, get_from_contains, in_without, from_without, without_is, push_is, get_map, map_get, parted, get_at, get_remove_cases}

-- debtors without an element, with one that went into debt, and with a member's debts
abbrev pub taken_from : Debtor → ℕ → Debtor
taken_from d x = record { inside = filter (λ f. not (f == x)) d.inside; debts = d.debts; early = d.early; emptied = d.emptied }

abbrev pub sunk_from : Debtor → ℕ → ℕ → Debtor
sunk_from d x time = record { inside = filter (λ f. not (f == x)) d.inside; debts = d.debts ++ (x, time) ∷ []; early = d.early; emptied = d.emptied }

abbrev pub told_as : Debtor → View → Debtor
told_as d a = record { inside = d.inside; debts = map owed a.debts; early = a.early; emptied = a.emptied }

-- what is inside without the first index was so
pub passed_left : (all : List Element) (v : View) (debts : List Debt) (e : ℕ) → IsInside all (record v { low = v.low + 1; gone = filter (λ i. not (i == v.low)) v.gone; debts = debts }) e → IsInside all v e
passed_left all v debts e at = (at.0, at.1, (let l = at.2 in omega arith), at.3, at.4, λ c. at.5 (in_without v.low v.gone at.0 c (let l = at.2 in λ same. omega (arith, same))))

module _ (whole : List Event) (order : List Placed) (n : ℕ) (all : List Element) (v : View) (told : Told whole order n all v) where
  gone_later : (i : ℕ) → Contains (filter (λ j. not (j == v.low)) v.gone) i → i < length all
  gone_later i there = told.gone_within i (from_without v.low v.gone i there).0

  -- an index that is gone may be passed over
  pub told_passed : v.low < length all → Contains v.gone v.low → Told whole order n all (record v { low = v.low + 1; gone = filter (λ i. not (i == v.low)) v.gone })
  told_passed inside gone = record {
    debtor = told.debtor;
    inside = λ e. (
      λ there. (let at = (told.inside e).0 there in on at.0 at.1 at.2 at.3 at.4 at.5),
      λ at. (told.inside e).1 (at.0, at.1, (let l = at.2 in omega arith), at.3, at.4, λ c. at.5 (in_without v.low v.gone at.0 c (let l = at.2 in λ same. omega (arith, same)))),
    );
    debts = told.debts;
    early = told.early;
    emptied = told.emptied;
    items = told.items;
    low_within = omega arith;
    gone_within = gone_later;
    follows = told.follows;
  }
    where
      on : {e : ℕ} (i : ℕ) (x : Element) → v.low ≤ i → slice_get all i ≡ Some x → x.place ≡ e → (Contains v.gone i → ⊥) → IsInside all (record v { low = v.low + 1; gone = filter (λ j. not (j == v.low)) v.gone }) e
      on i x low at place kept = elim (cases_eq i v.low) [
        | inl same ↦ absurd (kept (subst (Contains v.gone) (sym same) gone))
        | inr differ ↦ (i, x, (omega (arith, differ)), at, place, λ c. kept (from_without v.low v.gone i c).0)
      ]

  -- the first element may go into debt
  pub told_sunk : SinkLaw → AreEnqueues whole all → (x : Element) (time : ℕ) → slice_get all v.low ≡ Some x → (Contains v.gone v.low → ⊥) → Owes whole order n x.place time
      → Told whole order n all (record v { low = v.low + 1; gone = filter (λ i. not (i == v.low)) v.gone; debts = v.debts ++ (record { element = x.place; before = time; item = x.item }) ∷ [] })
  told_sunk law enqueues x time first kept owes = record {
    debtor = sunk_from told.debtor x.place time;
    inside = λ e. (
      λ there. (
          let was = from_without x.place told.debtor.inside e there in
          let at = (told.inside e).0 was.0 in
          on was.1 at.0 at.1 at.2 at.3 at.4 at.5),
      λ at. in_without x.place told.debtor.inside e
          ((told.inside e).1 (at.0, at.1, (let l = at.2 in omega arith), at.3, at.4, λ c. at.5 (in_without v.low v.gone at.0 c (let l = at.2 in λ same. omega (arith, same)))))
          (λ same. apart at.0 at.1 at.2 at.3 (at.4 ∙ same)),
    );
    debts = ap (λ l. l ++ (x.place, time) ∷ []) told.debts ∙ sym (map-append owed v.debts (first_debt x time ∷ []));
    early = told.early;
    emptied = told.emptied;
    items = λ debt there. elim (Contains-push_cases v.debts (first_debt x time) debt there) [
      | inl old ↦ told.items debt old
      | inr same ↦ subst (λ (d : Debt). IsCall whole d.element (Enqueue d.item)) same (enqueues.called v.low x first)
    ];
    low_within = (let l = slice_get_within all v.low x first in omega arith);
    gone_within = gone_later;
    follows = law whole order n x.place time told.debtor (sunk_from told.debtor x.place time) ((told.inside x.place).1 (v.low, x, omega arith, first, refl, kept)) owes
        (record { inside = without_is x.place told.debtor.inside; debts = refl; early = λ e. (λ c. c, λ c. c); emptied = refl }) told.follows;
  }
    where
      on : {e : ℕ} → e ≢ x.place → (i : ℕ) (y : Element) → v.low ≤ i → slice_get all i ≡ Some y → y.place ≡ e → (Contains v.gone i → ⊥)
          → IsInside all (record v { low = v.low + 1; gone = filter (λ j. not (j == v.low)) v.gone; debts = v.debts ++ first_debt x time ∷ [] }) e
      on differ i y low at place still = elim (cases_eq i v.low) [
        | inl same ↦ absurd (differ (sym place ∙ ap (λ (z : Element). z.place) (one_there all i y x at (subst (λ k. slice_get all k ≡ Some x) (sym same) first))))
        | inr other ↦ (i, y, (omega (arith, other)), at, place, λ c. still (from_without v.low v.gone i c).0)
      ]

      apart : (i : ℕ) (y : Element) → v.low + 1 ≤ i → slice_get all i ≡ Some y → y.place ≡ x.place → ⊥
      apart i y later at same = let e = enqueues.once i v.low y x at first same in omega (arith, e)

  -- the debtor has as many debts as the member
  pub told_many : length told.debtor.debts ≡ length v.debts
  told_many = ap length told.debts ∙ length_map owed v.debts
    where
      length_map : (f : Debt → ℕ × ℕ) (xs : List Debt) → length (map f xs) ≡ length xs
      length_map f [] = refl
      length_map f (y ∷ ys) = ap suc (length_map f ys)

  -- an element at an index is taken
  pub told_taken : (m : ℕ) (i : ℕ) (x : Element) → AreEnqueues whole all → slice_get all i ≡ Some x → ((next : Debtor) → IsTaken x.place told.debtor next → Follows whole order m next)
      → Told whole order m all (record v { gone = v.gone ++ i ∷ [] })
  told_taken m i x enqueues at law = record {
    debtor = taken_from told.debtor x.place;
    inside = λ e. (
      λ there. (
          let was = from_without x.place told.debtor.inside e there in
          let s = (told.inside e).0 was.0 in (
            s.0,
            s.1,
            s.2,
            s.3,
            s.4,
            λ c. elim (Contains-push_cases v.gone i s.0 c) [
              | inl old ↦ s.5 old
              | inr same ↦ was.1 (sym s.4 ∙ ap (λ (z : Element). z.place) (one_there all s.0 s.1 x s.3 (subst (λ k. slice_get all k ≡ Some x) same at)))
            ],
          )),
      λ s. in_without x.place told.debtor.inside e ((told.inside e).1 (s.0, s.1, s.2, s.3, s.4, λ c. s.5 (Contains-append_left v.gone (i ∷ []) s.0 c)))
          (λ same. s.5 (subst (Contains (v.gone ++ i ∷ [])) (enqueues.once i s.0 x s.1 at s.3 (sym same ∙ sym s.4)) (Contains-push v.gone i))),
    );
    debts = told.debts;
    early = told.early;
    emptied = told.emptied;
    items = told.items;
    low_within = told.low_within;
    gone_within = λ j there. elim (Contains-push_cases v.gone i j there) [
      | inl old ↦ told.gone_within j old
      | inr same ↦ subst (λ k. k < length all) same (slice_get_within all i x at)
    ];
    follows = law (taken_from told.debtor x.place) (record { inside = without_is x.place told.debtor.inside; debts = refl; early = λ e. (λ c. c, λ c. c); emptied = refl });
  }

  -- an early element more
  pub told_gained : (m x : ℕ) → ((next : Debtor) → GainsEarly x told.debtor next → Follows whole order m next) → Told whole order m all (record v { early = v.early ++ x ∷ [] })
  told_gained m x law = record {
    debtor = record { inside = told.debtor.inside; debts = told.debtor.debts; early = told.debtor.early ++ x ∷ []; emptied = told.debtor.emptied };
    inside = told.inside;
    debts = told.debts;
    early = ap (λ l. l ++ x ∷ []) told.early;
    emptied = told.emptied;
    items = told.items;
    low_within = told.low_within;
    gone_within = told.gone_within;
    follows = law _ (record { inside = λ e. (λ c. c, λ c. c); debts = refl; early = push_is told.debtor.early x; emptied = refl });
  }

  -- the queue may have been empty up to this time
  pub told_emptied : (m time : ℕ) → ((next : Debtor) → IsEmptied time told.debtor next → Follows whole order m next) → Told whole order m all (record v { emptied = time })
  told_emptied m time law = record {
    debtor = record { inside = told.debtor.inside; debts = told.debtor.debts; early = told.debtor.early; emptied = time };
    inside = told.inside;
    debts = told.debts;
    early = told.early;
    emptied = refl;
    items = told.items;
    low_within = told.low_within;
    gone_within = told.gone_within;
    follows = law _ (record { inside = λ e. (λ c. c, λ c. c); debts = refl; early = λ e. (λ c. c, λ c. c); emptied = refl });
  }

  -- the same, after more events
  pub told_on : (m : ℕ) → Follows whole order m told.debtor → Told whole order m all v
  told_on m follows = record { debtor = told.debtor; inside = told.inside; debts = told.debts; early = told.early; emptied = told.emptied; items = told.items; low_within = told.low_within; gone_within = told.gone_within; follows = follows }

  -- a debt is paid
  pub told_paid : (m k : ℕ) (debt : Debt) → slice_get v.debts k ≡ Some debt
      → ((before behind : List (ℕ × ℕ)) (next : Debtor) → IsPaid debt.element debt.before before behind told.debtor next → Follows whole order m next)
      → Told whole order m all (record v { debts = remove v.debts k })
  told_paid m k debt at law = record {
    debtor = record { inside = told.debtor.inside; debts = map owed parts.0 ++ map owed parts.1; early = told.debtor.early; emptied = told.debtor.emptied };
    inside = told.inside;
    debts = sym (map-append owed parts.0 parts.1) ∙ ap (map owed) (sym parts.3);
    early = told.early;
    emptied = told.emptied;
    items = λ other there.
        let place = get_from_contains (remove v.debts k) other there in
        elim (get_remove_cases v.debts k place.0 other place.1) [
          | inl before ↦ told.items other (contains_from_get v.debts place.0 other before.1)
          | inr after ↦ told.items other (contains_from_get v.debts (suc place.0) other after.1)
        ];
    low_within = told.low_within;
    gone_within = told.gone_within;
    follows = law (map owed parts.0) (map owed parts.1) _
        (record { inside = λ e. (λ c. c, λ c. c); was = told.debts ∙ ap (map owed) parts.2 ∙ map-append owed parts.0 (debt ∷ parts.1); debts = refl; early = λ e. (λ c. c, λ c. c); emptied = refl });
  }
    where
      parts : (before behind : List Debt) × (v.debts ≡ before ++ debt ∷ behind) × (remove v.debts k ≡ before ++ behind)
      parts = parted v.debts k debt at

  -- with one element more, it isn't gone: it was put in the queue
  pub told_put : (m since : ℕ) (new : Element) → ((next : Debtor) → IsPut new.place since told.debtor next → Follows whole order m next)
      → Told whole order m (all ++ new ∷ []) (record v { emptied = since })
  told_put m since new law = record {
    debtor = record { inside = told.debtor.inside ++ new.place ∷ []; debts = told.debtor.debts; early = told.debtor.early; emptied = since };
    inside = λ e. (
      λ there. elim ((push_is told.debtor.inside new.place e).0 there) [
        | inl old ↦ (let s = (told.inside e).0 old in (s.0, s.1, s.2, get_left all new s.0 s.1 s.3, s.4, s.5))
        | inr same ↦ (length all, new, told.low_within, get_last all new, sym same, λ c. (let l = told.gone_within (length all) c in omega arith))
      ],
      λ s. (push_is told.debtor.inside new.place e).1 (elim (get_cases all new s.0 s.1 s.3) [
        | inl old ↦ inl ((told.inside e).1 (s.0, s.1, s.2, old, s.4, s.5))
        | inr last ↦ inr (sym s.4 ∙ ap (λ (z : Element). z.place) (sym last.1))
      ]),
    );
    debts = told.debts;
    early = told.early;
    emptied = refl;
    items = told.items;
    low_within = (let l = told.low_within in let e = length-append all (new ∷ []) in omega arith);
    gone_within = λ i there. (let l = told.gone_within i there in let e = length-append all (new ∷ []) in omega arith);
    follows = law _ (record { inside = push_is told.debtor.inside new.place; debts = refl; early = λ e. (λ c. c, λ c. c); emptied = refl });
  }

  -- or it is gone: it was taken early
  pub told_lost : (m : ℕ) (new : Element) → ((next : Debtor) → LosesEarly new.place told.debtor next → Follows whole order m next)
      → Told whole order m (all ++ new ∷ []) (record v { gone = v.gone ++ length all ∷ []; early = filter (λ f. not (f == new.place)) v.early })
  told_lost m new law = record {
    debtor = record { inside = told.debtor.inside; debts = told.debtor.debts; early = filter (λ f. not (f == new.place)) told.debtor.early; emptied = told.debtor.emptied };
    inside = λ e. (
      λ there. (let s = (told.inside e).0 there in (
        s.0,
        s.1,
        s.2,
        get_left all new s.0 s.1 s.3,
        s.4,
        λ c. elim (Contains-push_cases v.gone (length all) s.0 c) [
          | inl old ↦ s.5 old
          | inr same ↦ (let l = slice_get_within all s.0 s.1 s.3 in omega (arith, same))
        ],
      )),
      λ s. elim (get_cases all new s.0 s.1 s.3) [
        | inl old ↦ (told.inside e).1 (s.0, s.1, s.2, old, s.4, λ c. s.5 (Contains-append_left v.gone (length all ∷ []) s.0 c))
        | inr last ↦ absurd (s.5 (subst (Contains (v.gone ++ length all ∷ [])) (sym last.0) (Contains-push v.gone (length all))))
      ],
    );
    debts = told.debts;
    early = ap (λ l. filter (λ f. not (f == new.place)) l) told.early;
    emptied = told.emptied;
    items = told.items;
    low_within = (let l = told.low_within in let e = length-append all (new ∷ []) in omega arith);
    gone_within = λ i there. elim (Contains-push_cases v.gone (length all) i there) [
      | inl old ↦ (let l = told.gone_within i old in let e = length-append all (new ∷ []) in omega arith)
      | inr same ↦ (let e = length-append all (new ∷ []) in omega (arith, same))
    ];
    follows = law _ (record { inside = λ e. (λ c. c, λ c. c); debts = refl; early = without_is new.place told.debtor.early; emptied = refl });
  }

  -- what has the same, with later times, tells of the order too
  pub told_at_least : DominationLaw → (a : View) → IsAtLeast a v → Told whole order n all a
  told_at_least law a least = record {
    debtor = told_as told.debtor a;
    inside = λ e. (
      λ there. (let s = (told.inside e).0 there in (s.0, s.1, subst (λ l. l ≤ s.0) (sym least.low) s.2, s.3, s.4, λ c. s.5 (subst (λ l. Contains l s.0) least.gone c))),
      λ s. (told.inside e).1 (s.0, s.1, subst (λ l. l ≤ s.0) least.low s.2, s.3, s.4, λ c. s.5 (subst (λ l. Contains l s.0) (sym least.gone) c)),
    );
    debts = refl;
    early = refl;
    emptied = refl;
    items = λ debt there.
        let at = get_from_contains a.debts debt there in
        let other = get_at v.debts at.0 (let l = slice_get_within a.debts at.0 debt at.1 in let e = least.many in omega arith) in
        let same = least.debts at.0 debt other.0 at.1 other.1 in
        subst (λ e. IsCall whole e (Enqueue debt.item)) (sym same.0) (subst (λ i. IsCall whole other.0.element (Enqueue i)) (sym same.1) (told.items other.0 (contains_from_get v.debts at.0 other.0 other.1)));
    low_within = subst (λ l. l ≤ length all) (sym least.low) told.low_within;
    gone_within = λ i there. told.gone_within i (subst (λ l. Contains l i) least.gone there);
    follows = law whole order n (told_as told.debtor a) told.debtor dominates told.follows;
  }
    where
      dominates : Dominates (told_as told.debtor a) told.debtor
      dominates = record {
        inside = λ e. (λ c. c, λ c. c);
        early = λ e. (subst (λ l. Contains l e) (least.early ∙ sym told.early), subst (λ l. Contains l e) (told.early ∙ sym least.early));
        many = length_owed a.debts ∙ least.many ∙ sym (length_owed v.debts) ∙ sym (ap length told.debts);
        owes = λ e time there.
            let at = get_from_contains told.debtor.debts (e, time) there in
            let b = get_map owed v.debts at.0 (e, time) (subst (λ l. slice_get l at.0 ≡ Some (e, time)) told.debts at.1) in
            let x = get_at a.debts at.0 (let l = slice_get_within v.debts at.0 b.0 b.1 in let e = least.many in omega arith) in
            let same = least.debts at.0 x.0 b.0 x.1 b.1 in (
              x.0.before,
              subst (λ k. k ≤ x.0.before) (ap (λ (p : ℕ × ℕ). p.1) b.2) same.2,
              contains_from_get (map owed a.debts) at.0 (e, x.0.before) (map_get owed a.debts at.0 x.0 x.1 ∙ ap (λ k. Some (k, x.0.before)) (same.0 ∙ ap (λ (p : ℕ × ℕ). p.0) b.2)),
            );
        owed = λ e later there.
            let at = get_from_contains (map owed a.debts) (e, later) there in
            let x = get_map owed a.debts at.0 (e, later) at.1 in
            let b = get_at v.debts at.0 (let l = slice_get_within a.debts at.0 x.0 x.1 in let e = least.many in omega arith) in
            let same = least.debts at.0 x.0 b.0 x.1 b.1 in (
              b.0.before,
              subst (λ k. b.0.before ≤ k) (ap (λ (p : ℕ × ℕ). p.1) x.2) same.2,
              contains_from_get told.debtor.debts at.0 (e, b.0.before) (subst (λ l. slice_get l at.0 ≡ Some (e, b.0.before)) (sym told.debts) (map_get owed v.debts at.0 b.0 b.1 ∙ ap (λ k. Some (k, b.0.before)) (sym same.0 ∙ ap (λ (p : ℕ × ℕ). p.0) x.2))),
            );
        emptied = subst (λ k. k ≤ a.emptied) (sym told.emptied) least.emptied;
      }
        where
          length_owed : (xs : List Debt) → length (map owed xs) ≡ length xs
          length_owed [] = refl
          length_owed (y ∷ ys) = ap suc (length_owed ys)

-- of no events
pub told_first : (whole : List Event) (order : List Placed) → Follows whole order 0 nothing_done → Told whole order 0 [] at_first
told_first whole order follows = record {
  debtor = nothing_done;
  inside = λ e. ((λ there. absurd (let l = there.1 in omega arith)), (λ at. absurd (let l = slice_get_within [] at.0 at.1 at.3 in omega arith)));
  debts = refl;
  early = refl;
  emptied = refl;
  items = λ debt there. absurd (let l = there.1 in omega arith);
  low_within = omega arith;
  gone_within = λ i there. absurd (let l = there.1 in omega arith);
  follows = follows;
}
