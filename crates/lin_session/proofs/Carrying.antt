-- What a question leaves of the marks, one object after the other.
use Rattle.std.proofs.Common.{◌≡◌, ◌≢◌, ◌<◌, ◌≤◌, ◌+◌, ◌-◌, ◌⊎◌, ℕ, Bool, true, false, List, length, Some, inl, inr, refl, sym, ap, subst, ◌∙◌, arith, if◌then◌else◌}
use Rattle.std.specs.List.{sum_by}
use Rattle.std.proofs.lemmas.Bool.{cases_lt, false≢true}
use Rattle.lin_events.specs.declared.items.Item.{Item}
use Rattle.lin_events.specs.Sameness.{Decides-item_eq}
use Rattle.lin_events.specs.Items.{item_eq}
use Rattle.lin_events.specs.declared.events.Event.{Event}
use Rattle.lin_order.specs.Parts.{part}
use Rattle.lin_engines.specs.declared.ends.End.{End}
use Rattle.lin_chain.specs.Work.{IsSpent, IsSpentAtMost, Mark, for_stop, left, unasked}
use Rattle.lin_answers.specs.declared.answers.Scope.{Scope}
use Rattle.lin_answers.specs.declared.answers.Scope.TheVariants.{Object, Whole}
use Rattle.lin_answers.specs.declared.answers.Verdict.TheVariants.{No, Undecided}
use Rattle.lin_session.specs.Marks.{AreCarriedOn, IsAsked, IsKnown, IsMarkedAs, IsNothingDue, IsToldOf}
use Rattle.lin_session.specs.Work.{IsSpentAtMostIn, IsSpentIn, due_in, for_stops, keys_of, left_in, sum_over}
use Rattle.lin_session.proofs.Sums.{in_keys, keys_differ, sum_both, sum_by-same, sum_one, sum_within}

-- where the mark of one key changes
module _ (h : List Event) (key : Item) (old new : Item → Mark) (a b : Mark) (was : old key ≡ a) (change : (x : Item) → new x ≡ (if item_eq key x then b else old x)) where
  pub now_is : new key ≡ b
  now_is = change key ∙ ap (λ c. if c then b else old key) ((Decides-item_eq key key).1 refl)

  -- what is true of that, and of each mark that stays, is true of all
  each_key : (P : Item → Mark → Mark → Type 0) → P key a b → ((x : Item) → P x (old x) (old x)) → (x : Item) → P x (old x) (new x)
  each_key P here there x = by (item_eq key x) refl
    where
      by : (c : Bool) → item_eq key x ≡ c → P x (old x) (new x)
      by true e = subst (λ y. P y (old y) (new y)) ((Decides-item_eq key x).0 e) (subst (λ m. P key m (new key)) (sym was) (subst (P key a) (sym now_is) here))
      by false e = subst (P x (old x)) (sym (change x ∙ ap (λ c. if c then b else old x) e)) (there x)

  pub AreCarriedOn-one : ((end : End) → a.told (length (part key h)) ≡ Some end → b ≡ a) → (length (part key h) ≡ 0 → b ≡ a) → a.frontier ≤ b.frontier → a.beside ≤ b.beside → (a.stopped ≡ true → b.stopped ≡ true)
      → AreCarriedOn h (Object key) old new
  AreCarriedOn-one again none frontier beside stopped = record {
    known = each_key (λ x m n. (end : End) × (m.told (length (part x h)) ≡ Some end) → n ≡ m) (λ k. again k.0 k.1) (λ x k. refl);
    others = each_key (λ x m n. (IsAsked h (Object key) x → ⊥) → n ≡ m) (λ un. none (no_event (cases_lt 0 (length (part key h))) un)) (λ x un. refl);
    frontier = each_key (λ x m n. m.frontier ≤ n.frontier) frontier (λ x. omega arith);
    beside = each_key (λ x m n. m.beside ≤ n.beside) beside (λ x. omega arith);
    stopped = each_key (λ x m n. m.stopped ≡ true → n.stopped ≡ true) stopped (λ x e. e);
  }
    where
      no_event : (0 < length (part key h)) ⊎ (length (part key h) ≤ 0) → (IsAsked h (Object key) key → ⊥) → length (part key h) ≡ 0
      no_event (inl some) un = absurd (un (refl, some))
      no_event (inr less) un = omega (arith, less)

  pub IsSpentIn-one : (before after : ℕ) → IsSpent a b (length (part key h)) before after → IsSpentIn h (Object key) old new before after
  IsSpentIn-one before after spent = subst (λ m. IsSpent m (new key) (length (part key h)) before after) (sym was) (subst (λ m. IsSpent a m (length (part key h)) before after) (sym now_is) spent)

  pub IsSpentAtMostIn-one : (before after : ℕ) → IsSpentAtMost a b (length (part key h)) before after → IsSpentAtMostIn h (Object key) old new before after
  IsSpentAtMostIn-one before after spent = subst (λ m. IsSpentAtMost m (new key) (length (part key h)) before after) (sym was) (subst (λ m. IsSpentAtMost a m (length (part key h)) before after) (sym now_is) spent)

-- where no mark changes
pub AreCarriedOn-same : (h : List Event) (scope : Scope) (old new : Item → Mark) → ((x : Item) → new x ≡ old x) → AreCarriedOn h scope old new
AreCarriedOn-same h scope old new same = record {
  known = λ key k. same key;
  others = λ key un. same key;
  frontier = λ key. omega (arith, ap (λ (m : Mark). m.frontier) (same key));
  beside = λ key. omega (arith, ap (λ (m : Mark). m.beside) (same key));
  stopped = λ key e. ap (λ (m : Mark). m.stopped) (same key) ∙ e;
}

-- what is told stays so
pub told_stays : (h : List Event) (scope : Scope) (old new : Item → Mark) → AreCarriedOn h scope old new → (key : Item) (end : End) → IsToldOf h old key end → IsToldOf h new key end
told_stays h scope old new carried key end told = ap (λ (m : Mark). m.told (length (part key h))) (carried.known key (end, told)) ∙ told

pub known_stays : (h : List Event) (scope : Scope) (old new : Item → Mark) → AreCarriedOn h scope old new → (key : Item) → IsKnown h old key → IsKnown h new key
known_stays h scope old new carried key known = (known.0, told_stays h scope old new carried key known.0 known.1)

pub no_stays : (h : List Event) (scope : Scope) (old new : Item → Mark) → AreCarriedOn h scope old new → (asked : Scope) (n : ℕ) → IsMarkedAs h asked old (No n) → IsMarkedAs h asked new (No n)
no_stays h scope old new carried asked n marked = (marked.0, marked.1, marked.2, told_stays h scope old new carried marked.0 _ marked.3)

pub undecided_stays : (h : List Event) (scope : Scope) (old new : Item → Mark) → AreCarriedOn h scope old new → (asked : Scope) (at : ℕ) → IsMarkedAs h asked old (Undecided at) → IsMarkedAs h asked new (Undecided at)
undecided_stays h scope old new carried asked at marked = (marked.0, marked.1, marked.2, told_stays h scope old new carried marked.0 _ marked.3)

-- one after the other
pub AreCarriedOn-then : (h : List Event) (scope part_of : Scope) (old mid new : Item → Mark) → ((key : Item) → IsAsked h part_of key → IsAsked h scope key) → AreCarriedOn h scope old mid → AreCarriedOn h part_of mid new
    → AreCarriedOn h scope old new
AreCarriedOn-then h scope part_of old mid new inside first second = record {
  known = λ key k. second.known key (known_stays h scope old mid first key k) ∙ first.known key k;
  others = λ key un. second.others key (λ asked. un (inside key asked)) ∙ first.others key un;
  frontier = λ key. omega (arith, first.frontier key, second.frontier key);
  beside = λ key. omega (arith, first.beside key, second.beside key);
  stopped = λ key e. second.stopped key (first.stopped key e);
}

-- the marks before are others of the same kind
pub AreCarriedOn-since : (h : List Event) (scope : Scope) (old mid new : Item → Mark) → ((x : Item) → mid x ≡ old x) → AreCarriedOn h scope mid new → AreCarriedOn h scope old new
AreCarriedOn-since h scope old mid new same carried = AreCarriedOn-then h scope scope old mid new (λ key asked. asked) (AreCarriedOn-same h scope old mid same) carried

-- the terms of the bound on work: what there may be where a witness can't go on
abbrev stop_of : Bool → Bool → ℕ → ℕ
stop_of s t n = for_stop (record unasked { stopped = s }) (record unasked { stopped = t }) n

stop_none : (s t : Bool) → stop_of s t 0 ≡ 0
stop_none true t = refl
stop_none false true = omega arith
stop_none false false = refl

stop_same : (s : Bool) (n : ℕ) → stop_of s s n ≡ 0
stop_same true n = refl
stop_same false n = refl

stop_then : (s t u : Bool) (n : ℕ) → (s ≡ true → t ≡ true) → (t ≡ true → u ≡ true) → stop_of s t n + stop_of t u n ≤ stop_of s u n
stop_then true true u n first second = omega arith
stop_then true false u n first second = absurd (false≢true (first refl))
stop_then false true true n first second = omega arith
stop_then false true false n first second = absurd (false≢true (second refl))
stop_then false false u n first second = omega arith

left_none : (mark : Mark) → left mark 0 ≡ 0
left_none mark = omega arith

module _ (h : List Event) where
  abbrev pub left_at : (Item → Mark) → Item → ℕ
  left_at marks key = left (marks key) (length (part key h))

  abbrev pub stop_at : (Item → Mark) → (Item → Mark) → Item → ℕ
  stop_at old new key = for_stop (old key) (new key) (length (part key h))

  -- where one key is asked about, of all that have events
  module _ (key : Item) (old new : Item → Mark) (carried : AreCarriedOn h (Object key) old new) where
    others_same : (x : Item) → x ≢ key → new x ≡ old x
    others_same x other = carried.others x (λ asked. other asked.0)

    others_left : (x : Item) → x ≢ key → left_at new x ≤ left_at old x + stop_at old new x
    others_left x other = omega (arith, ap (λ m. left m (length (part x h))) (others_same x other))

    one_of_all : (f : Item → ℕ) (after before : ℕ) → ((x : Item) → x ≢ key → f x ≤ left_at old x + stop_at old new x) → (length (part key h) ≡ 0 → f key ≡ 0) → after + f key ≤ before + left_at old key + stop_at old new key
        → after + sum_by f (keys_of h) ≤ before + sum_by (left_at old) (keys_of h) + sum_by (stop_at old new) (keys_of h)
    one_of_all f after before each none one = elim (cases_lt 0 (length (part key h))) [
      | inl some ↦ sum_one f (left_at old) (stop_at old new) key (keys_of h) after before (keys_differ h) (in_keys h key some) each one
      | inr less ↦
          let zero_events : length (part key h) ≡ 0 = omega (arith, less) in
          let left_zero : left_at old key ≡ 0 = ap (left (old key)) zero_events ∙ left_none (old key) in
          let stop_zero : stop_at old new key ≡ 0 = ap (for_stop (old key) (new key)) zero_events ∙ stop_none (old key).stopped (new key).stopped in
          let all = sum_within f (left_at old) (stop_at old new) (keys_of h) (λ x. elim (cases_key x) [
            | inl same ↦ subst (λ y. f y ≤ left_at old y + stop_at old new y) same (omega (arith, none zero_events))
            | inr other ↦ each x other
          ]) in
          omega (arith, one, none zero_events, left_zero, stop_zero, all)
    ]
      where
        cases_key : (x : Item) → (key ≡ x) ⊎ (x ≢ key)
        cases_key x = by (item_eq key x) refl
          where
            by : (b : Bool) → item_eq key x ≡ b → (key ≡ x) ⊎ (x ≢ key)
            by true e = inl ((Decides-item_eq key x).0 e)
            by false e = inr (λ same. false≢true (sym e ∙ (Decides-item_eq key x).1 (sym same)))

    pub IsSpentIn-all : (before after : ℕ) → IsSpentIn h (Object key) old new before after → IsSpentIn h Whole old new before after
    IsSpentIn-all before after spent =
        one_of_all (left_at new) after before others_left (λ none. ap (left (new key)) none ∙ left_none (new key)) spent

    pub IsSpentAtMostIn-all : (before after : ℕ) → IsSpentAtMostIn h (Object key) old new before after → IsSpentAtMostIn h Whole old new before after
    IsSpentAtMostIn-all before after spent =
        let all = one_of_all (λ x. 0) after before (λ x other. omega arith) (λ none. refl) (omega (arith, spent)) in
        omega (arith, all)

  -- one after the other
  stops_then : (old mid new : Item → Mark) → ((key : Item) → (old key).stopped ≡ true → (mid key).stopped ≡ true) → ((key : Item) → (mid key).stopped ≡ true → (new key).stopped ≡ true)
      → sum_by (stop_at old mid) (keys_of h) + sum_by (stop_at mid new) (keys_of h) ≤ sum_by (stop_at old new) (keys_of h)
  stops_then old mid new first second =
      sum_both (stop_at old mid) (stop_at mid new) (stop_at old new) (keys_of h) (λ key. stop_then (old key).stopped (mid key).stopped (new key).stopped (length (part key h)) (first key) (second key))

  pub IsSpentIn-then : (old mid new : Item → Mark) (before between after : ℕ) → ((key : Item) → (old key).stopped ≡ true → (mid key).stopped ≡ true) → ((key : Item) → (mid key).stopped ≡ true → (new key).stopped ≡ true)
      → IsSpentIn h Whole old mid before between → IsSpentIn h Whole mid new between after → IsSpentIn h Whole old new before after
  IsSpentIn-then old mid new before between after stop stop_too first second = omega (arith, first, second, stops_then old mid new stop stop_too)

  pub IsSpentAtMostIn-then : (old mid new : Item → Mark) (before between after : ℕ) → ((key : Item) → (old key).stopped ≡ true → (mid key).stopped ≡ true) → ((key : Item) → (mid key).stopped ≡ true → (new key).stopped ≡ true)
      → IsSpentIn h Whole old mid before between → IsSpentAtMostIn h Whole mid new between after → IsSpentAtMostIn h Whole old new before after
  IsSpentAtMostIn-then old mid new before between after stop stop_too first second = omega (arith, first, second, stops_then old mid new stop stop_too)

-- what is spent to the end is no more than what is spent at most
pub IsSpentIn-most : (h : List Event) (scope : Scope) (old new : Item → Mark) (before after : ℕ) → IsSpentIn h scope old new before after → IsSpentAtMostIn h scope old new before after
IsSpentIn-most h scope old new before after spent = omega (arith, spent)

-- where the marks before are the same under another name
module _ (h : List Event) (scope : Scope) (old mid new : Item → Mark) (before after : ℕ) (same : (x : Item) → mid x ≡ old x) where
  sum_same : (f g : Item → ℕ) → ((x : Item) → f x ≡ g x) → sum_over h scope f ≡ sum_over h scope g
  sum_same f g each = by scope
    where
      by : (s : Scope) → sum_over h s f ≡ sum_over h s g
      by (Object key) = each key
      by Whole = sum_by-same f g (keys_of h) each

  left_same : left_in h scope mid ≡ left_in h scope old
  left_same = sum_same (left_at h mid) (left_at h old) (λ x. ap (λ m. left m (length (part x h))) (same x))

  stops_same : for_stops h scope mid new ≡ for_stops h scope old new
  stops_same = sum_same (stop_at h mid new) (stop_at h old new) (λ x. ap (λ m. for_stop m (new x) (length (part x h))) (same x))

  pub due_since : due_in h scope mid ≡ due_in h scope old
  due_since = sum_same (λ x. length (part x h) - (mid x).beside) (λ x. length (part x h) - (old x).beside) (λ x. ap (λ (m : Mark). length (part x h) - m.beside) (same x))

  pub IsSpentIn-since : IsSpentIn h scope mid new before after → IsSpentIn h scope old new before after
  IsSpentIn-since spent = omega (arith, spent, left_same, stops_same)

  pub IsSpentAtMostIn-since : IsSpentAtMostIn h scope mid new before after → IsSpentAtMostIn h scope old new before after
  IsSpentAtMostIn-since spent = omega (arith, spent, left_same, stops_same)

pub IsNothingDue-since : (h : List Event) (scope : Scope) (old mid : Item → Mark) → ((x : Item) → mid x ≡ old x) → IsNothingDue h scope old → IsNothingDue h scope mid
IsNothingDue-since h scope old mid same nothing = λ key asked. let known = nothing key asked in (known.0, ap (λ (m : Mark). m.told (length (part key h))) (same key) ∙ known.1)
