-- What an edit at a position makes of the marks.
use Rattle.std.proofs.Common.{◌≡◌, ◌≢◌, ◌<◌, ◌≤◌, ◌+◌, ◌-◌, ◌∷◌, [], ℕ, suc, Bool, true, false, nat_lt, List, length, length-append, take, drop, take-append-drop, slice_get, Some, refl, sym, ap, subst, ◌∙◌, arith, if◌then◌else◌}
use Rattle.std.specs.Prelude.{◌||◌}
use Rattle.std.specs.Option.{option_map_or}
use Rattle.std.proofs.lemmas.Bool.{false≢true}
use Rattle.std.proofs.lemmas.Bool.Decides.{Decides-ltb}
use Rattle.std.proofs.lemmas.List.{take-take}
use Rattle.std.proofs.lemmas.List.Elements.{filter-append}
use Rattle.lin_events.specs.declared.items.Item.{Item}
use Rattle.lin_events.specs.Sameness.{Decides-item_eq}
use Rattle.lin_events.specs.Items.{item_eq}
use Rattle.lin_events.specs.declared.events.Event.{Event}
use Rattle.lin_order.specs.Orders.{is_of_key}
use Rattle.lin_order.specs.Parts.{part}
use Rattle.lin_chain.specs.Chains.{IsMarkBefore}
use Rattle.lin_chain.specs.Work.{Mark}
use Rattle.lin_session.specs.inner.Objects.{AreTouched}
use Rattle.lin_session.specs.Known.{AreSameMarks, count_before}
use Rattle.lin_session.specs.Leaving.{IsTouched}
use Rattle.lin_lists.specs.lemmas.Lists.{take_next}
use Rattle.lin_session.proofs.Around.{part-more, part-same}
use Rattle.lin_lists.specs.lemmas.Taken.{get_of_take}
use Rattle.lin_session.proofs.Marking.{IsMarkBefore-then, IsTouched-then}

pub AreTouched-since : (key : Item) (place : ℕ) (old mid new : Item → Mark) → AreSameMarks old mid → AreTouched key place mid new → AreTouched key place old new
AreTouched-since key place old mid new same touch x = subst (λ m. IsTouched (item_eq key x) place m (new x)) (same x) (touch x)

-- the object of the event at the position
pub is_of : (h : List Event) (at : ℕ) (event : Event) → slice_get h at ≡ Some event → (x : Item) → is_of_key h x at ≡ item_eq event.key x
is_of h at event stands x = ap (λ o. option_map_or (λ (e : Event). item_eq e.key x) o false) stands

pub AreTouched-at : (h : List Event) (at : ℕ) (key : Item) (old new : Item → Mark) → AreTouched key (count_before h key at) old new → (x : Item) → IsTouched (item_eq key x) (count_before h x at) (old x) (new x)
AreTouched-at h at key old new touch x = by (item_eq key x) refl (touch x)
  where
    by : (b : Bool) → item_eq key x ≡ b → IsTouched b (count_before h key at) (old x) (new x) → IsTouched b (count_before h x at) (old x) (new x)
    by true e there = subst (λ k. IsMarkBefore (count_before h k at) (old x) (new x)) ((Decides-item_eq key x).0 e) there
    by false e same = same

pub touched_where : (h : List Event) (at : ℕ) (event : Event) (key : Item) → slice_get h at ≡ Some event → event.key ≡ key → (old new : Item → Mark)
    → AreTouched key (count_before h key at) old new → (x : Item) → IsTouched (is_of_key h x at) (count_before h x at) (old x) (new x)
touched_where h at event key stands same old new touch x =
    subst (λ b. IsTouched b (count_before h x at) (old x) (new x)) (sym (is_of h at event stands x ∙ ap (λ k. item_eq k x) same)) (AreTouched-at h at key old new touch x)

-- an event in place of another one
pub touched_twice : (h : List Event) (at : ℕ) (key : Item) (old mid new : Item → Mark) → ((x : Item) → IsTouched (is_of_key h x at) (count_before h x at) (old x) (mid x))
    → AreTouched key (count_before h key at) mid new → (x : Item) → IsTouched (item_eq key x || is_of_key h x at) (count_before h x at) (old x) (new x)
touched_twice h at key old mid new left touch x =
    IsTouched-then (is_of_key h x at) (item_eq key x) (count_before h x at) (old x) (mid x) (new x) (left x) (AreTouched-at h at key mid new touch x)

-- an object that loses no event
pub not_below : (n m : ℕ) → m ≤ n → nat_lt n m ≡ false
not_below n m less = by (nat_lt n m) refl
  where
    by : (b : Bool) → nat_lt n m ≡ b → nat_lt n m ≡ false
    by true e = let below = (Decides-ltb n m).0 e in absurd (omega (arith, below, less))
    by false e = e

pub before_all : (h : List Event) (x : Item) (n : ℕ) → count_before h x n ≤ length (part x h)
before_all h x n =
    let is = ap (λ l. length (part x l)) (take-append-drop n h) in
    let apart = ap length (filter-append (λ (e : Event). item_eq e.key x) (take n h) (drop n h)) in
    omega (arith, is, apart, length-append (part x (take n h)) (part x (drop n h)))

pub one_more : (h : List Event) (x : Item) (k : ℕ) (event : Event) → slice_get h k ≡ Some event → count_before h x (suc k) ≡ (if is_of_key h x k then count_before h x k + 1 else count_before h x k)
one_more h x k event stands =
    ap (λ l. length (part x l)) (take_next k h event stands) ∙ ap length (filter-append (λ (e : Event). item_eq e.key x) (take k h) (event ∷ [])) ∙ length-append (part x (take k h)) (part x (event ∷ []))
    ∙ by (item_eq event.key x) refl
  where
    by : (b : Bool) → item_eq event.key x ≡ b → count_before h x k + length (part x (event ∷ [])) ≡ (if is_of_key h x k then count_before h x k + 1 else count_before h x k)
    by true e =
        ap (λ l. count_before h x k + length l) (part-more x event [] ((Decides-item_eq event.key x).0 e)) ∙ sym (ap (λ b. if b then count_before h x k + 1 else count_before h x k) (is_of h k event stands x ∙ e))
    by false e =
        let other : event.key ≢ x = λ same. absurd (false≢true (sym e ∙ (Decides-item_eq event.key x).1 same)) in
        let none : length (part x (event ∷ [])) ≡ 0 = ap length (part-same x event [] other) in
        omega (arith, none, ap (λ b. if b then count_before h x k + 1 else count_before h x k) (is_of h k event stands x ∙ e))

-- the last of the first events goes
pub truncated_next : (h : List Event) (x : Item) (m : ℕ) (event : Event) (old mid new : Mark) → 0 < m → m ≤ length h → slice_get h (m - 1) ≡ Some event
    → IsTouched (nat_lt (count_before h x m) (length (part x h))) (count_before h x m) old mid
    → IsTouched (is_of_key (take m h) x (m - 1)) (count_before (take m h) x (m - 1)) mid new
    → IsTouched (nat_lt (count_before h x (m - 1)) (length (part x h))) (count_before h x (m - 1)) old new
truncated_next h x m event old mid new some within stands was now =
    by (is_of_key h x (m - 1)) refl (subst (λ b. IsTouched b (count_before h x (m - 1)) mid new) of_it (subst (λ c. IsTouched (is_of_key (take m h) x (m - 1)) c mid new) count now))
  where
    of_it : is_of_key (take m h) x (m - 1) ≡ is_of_key h x (m - 1)
    of_it = ap (λ o. option_map_or (λ (e : Event). item_eq e.key x) o false) (get_of_take m h (m - 1) (omega (arith, some)))

    count : count_before (take m h) x (m - 1) ≡ count_before h x (m - 1)
    count = ap (λ l. length (part x l)) (take-take (m - 1) m h (omega arith))

    next : count_before h x m ≡ (if is_of_key h x (m - 1) then count_before h x (m - 1) + 1 else count_before h x (m - 1))
    next = let one : m ≡ suc (m - 1) = omega (arith, some) in ap (count_before h x) one ∙ one_more h x (m - 1) event stands

    by : (b : Bool) → is_of_key h x (m - 1) ≡ b → IsTouched b (count_before h x (m - 1)) mid new → IsTouched (nat_lt (count_before h x (m - 1)) (length (part x h))) (count_before h x (m - 1)) old new
    by false e stays =
        let same : count_before h x m ≡ count_before h x (m - 1) = next ∙ ap (λ b. if b then count_before h x (m - 1) + 1 else count_before h x (m - 1)) e in
        subst (IsTouched (nat_lt (count_before h x (m - 1)) (length (part x h))) (count_before h x (m - 1)) old) (sym stays)
        (subst (λ c. IsTouched (nat_lt c (length (part x h))) c old mid) same was)
    by true e edit =
        let more : count_before h x m ≡ count_before h x (m - 1) + 1 = next ∙ ap (λ b. if b then count_before h x (m - 1) + 1 else count_before h x (m - 1)) e in
        let c = count_before h x (m - 1) in
        let below : nat_lt c (length (part x h)) ≡ true = (Decides-ltb c (length (part x h))).1 (omega (arith, more, before_all h x m)) in
        subst (λ b. IsTouched b c old new) (sym below) (twice (nat_lt (count_before h x m) (length (part x h))) more was)
      where
        twice : (b : Bool) → count_before h x m ≡ count_before h x (m - 1) + 1 → IsTouched b (count_before h x m) old mid → IsMarkBefore (count_before h x (m - 1)) old new
        twice true more first = IsMarkBefore-then (count_before h x m) (count_before h x (m - 1)) old mid new (omega (arith, more)) first edit
        twice false more same = subst (λ k. IsMarkBefore (count_before h x (m - 1)) k new) same edit
