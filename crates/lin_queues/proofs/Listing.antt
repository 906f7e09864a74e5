-- The open operations and the elements after one more event.
use Rattle.std.proofs.Common.{◌≡◌, ◌≢◌, ◌<◌, ◌≤◌, ◌+◌, suc, ℕ, Bool, List, [], ◌∷◌, ◌++◌, length, ◌⊎◌, Some, inl, inr, refl, sym, ap, ◌∙◌, subst, arith, slice_get}
use Rattle.std.proofs.lemmas.Bool.{cases_order}
use Rattle.std.specs.List.{remove}
use Rattle.std.proofs.lemmas.List.{length-append}
use Rattle.std.proofs.lemmas.Option.{slice_get_within}
use Rattle.lin_events.specs.declared.items.Item.{Item}
use Rattle.lin_events.specs.declared.events.Event.{Event}
use Rattle.lin_events.specs.declared.events.Body.TheVariants.{Invoke, Ok, Fail, Info}
use Rattle.lin_events.specs.declared.calls.Call.{Call}
use Rattle.lin_events.specs.declared.calls.Call.TheVariants.{Enqueue}
use Rattle.lin_events.specs.declared.calls.Name.{Name}
use Rattle.lin_events.specs.declared.calls.Reply.{Reply}
use Rattle.lin_events.specs.Operations.{IsOperation, IsEnd, IsOpen}
use Rattle.lin_events.specs.WellFormed.{IsWellFormed, Completes}
use Rattle.lin_events.specs.WellFormedLaws.{EndsAreUnique, WellFormedIsAlternating}
use Rattle.lin_events.specs.Alternation.{IsAlternating}
use Rattle.lin_order.specs.declared.placed.Placed.{Placed}
use Rattle.lin_order.specs.ConfigurationLaws.{with_event}
use Rattle.lin_order.specs.lemmas.Opening.{end_kept, open_kept, opens, open_back, open_beside, open_before, others_open, one_of_process}
use Rattle.lin_lists.specs.lemmas.Lists.{get_left, get_cases, get_last}
use Rattle.lin_queues.specs.Debts.{IsWhole}
use Rattle.lin_queues.specs.declared.elements.Element.{Element}
use Rattle.lin_queues.specs.declared.elements.Elements.{Elements}
use Rattle.lin_queues.specs.declared.opens.OpenCall.{OpenCall}
use Rattle.lin_queues.specs.Engines.{AreElements}
use Rattle.lin_queues.specs.Gathering.{HaveReturned}
use Rattle.lin_queues.specs.Members.{AreEnqueues}
use Rattle.lin_queues.specs.Opens.{AreOpen}
use Rattle.lin_queues.proofs.Lists.{one_there, get_remove_cases, get_removed, get_appended}

-- an invocation puts its operation last
pub open_invoked : (h : List Event) (event : Event) (xs : List OpenCall) (call : Call) (new : OpenCall) → event.body ≡ Invoke call → new ≡ record { process = event.process; place = length h; call = call } → AreOpen h xs
    → AreOpen (with_event h event) (xs ++ new ∷ [])
open_invoked h event xs call new is made listed = record {
  rising = λ j k o p before at_j at_k. elim (get_cases xs new k p at_k) [
    | inl old_k ↦ elim (get_cases xs new j o at_j) [
      | inl old_j ↦ listed.rising j k o p before old_j old_k
      | inr last ↦ (let l = slice_get_within xs k p old_k in let e = last.0 in absurd (omega arith))
    ]
    | inr last ↦ elim (get_cases xs new j o at_j) [
      | inl old_j ↦ (
          let inside = slice_get_within h o.place _ (listed.sound j o old_j).1.begins in
          let e = ap (λ (x : OpenCall). x.place) (sym last.1 ∙ made) in
          omega (arith, e, inside))
      | inr other ↦ (let e = last.0 in let f = other.0 in absurd (omega arith))
    ]
  ];
  sound = λ k o there. elim (get_cases xs new k o there) [
    | inl old ↦ (let was = listed.sound k o old in (was.0, open_beside h event call is o.place o.process was.0 o.call was.1))
    | inr last ↦ (event.key, subst (λ (x : OpenCall). IsOpen (with_event h event) x.place x.process event.key x.call) (sym made ∙ last.1) (opens h event call is))
  ];
  complete = λ place process key other is_open. elim (open_back h event place process key other is_open) [
    | inl old ↦ (let found = listed.complete place process key other old in (found.0, found.1, get_left xs new found.0 found.1 found.2, found.3))
    | inr here ↦ (length xs, new, get_last xs new, ap (λ (x : OpenCall). x.place) made ∙ sym here.0)
  ];
}

-- an info leaves them
pub open_informed : (h : List Event) (event : Event) (xs : List OpenCall) (name : Name) → event.body ≡ Info name → AreOpen h xs → AreOpen (with_event h event) xs
open_informed h event xs name is listed = record {
  rising = listed.rising;
  sound = λ k o there. (
      let was = listed.sound k o there in
      (was.0, open_kept h event o.place o.process was.0 o.call (λ _ n reply ok. no_ok n reply (sym is ∙ ok)) (λ _ n fail. no_fail n (sym is ∙ fail)) was.1));
  complete = λ place process key call is_open. elim (open_back h event place process key call is_open) [
    | inl old ↦ listed.complete place process key call old
    | inr here ↦ absurd (no_invoke call (sym is ∙ ap (λ (e : Event). e.body) here.1))
  ];
}
  where
    no_ok : (n : Name) (reply : Reply) → Info name ≡ Ok n reply → ⊥
    no_ok n reply e = cc

    no_fail : (n : Name) → Info name ≡ Fail n → ⊥
    no_fail n e = cc

    no_invoke : (call : Call) → Info name ≡ Invoke call → ⊥
    no_invoke call e = cc

-- after an ok or a fail its operation is listed no longer
pub open_returned : (alternating : WellFormedIsAlternating) (unique : EndsAreUnique) (functions : Item → Name → Bool) (h : List Event) (event : Event) (xs : List OpenCall) (name : Name) → Completes event.body name
    → ((n : Name) × (reply : Reply) × (event.body ≡ Ok n reply)) ⊎ ((n : Name) × (event.body ≡ Fail n)) → IsWellFormed functions (with_event h event) → AreOpen h xs
    → (at : ℕ) (o : OpenCall) → slice_get xs at ≡ Some o → o.process ≡ event.process → AreOpen (with_event h event) (remove xs at)
open_returned alternating unique functions h event xs name completes returned well_formed listed at o there same = record {
  rising = λ j k x y before at_j at_k.
      let a = source j x at_j in
      let b = source k y at_k in
      listed.rising a.0 b.0 x y (less j k a.0 b.0 before a.3 b.3) a.2 b.2;
  sound = λ k x at_k.
      let s = source k x at_k in
      let was = listed.sound s.0 x s.2 in
      (was.0, others_open h event unique functions alternates ended.0 ended.1 x.place x.process was.0 x.call (other s.0 x s.2 s.1) was.1);
  complete = λ n process key call is_open.
      let found = listed.complete n process key call (open_before h event unique functions alternates ended.0 ended.1 name completes n process key call is_open) in
      let left = get_removed xs at found.0 found.1 (λ e. gone n process key call is_open (sym found.3 ∙ ap (λ (x : OpenCall). x.place) (one_there xs at found.1 o (subst (λ k. slice_get xs k ≡ Some found.1) e found.2) there) ∙ is_ended)) found.2 in
      (left.0, found.1, left.1, found.3);
}
  where
    alternates : IsAlternating functions (with_event h event)
    alternates = (alternating functions (with_event h event)).0 well_formed

    ended : (i : ℕ) × IsEnd (with_event h event) i (length h) event
    ended = let found = alternates.completed (length h) event name (get_last h event) completes in (found.0, found.4)

    is_ended : o.place ≡ ended.0
    is_ended =
        let was = listed.sound at o there in
        one_of_process h event unique functions alternates ended.0 ended.1 o.place was.0 o.call (subst (λ p. IsOpen h o.place p was.0 o.call) same was.1)

    -- the indices are rising, so their operations differ
    apart : (j k : ℕ) (x y : OpenCall) → slice_get xs j ≡ Some x → slice_get xs k ≡ Some y → j ≢ k → x.place ≢ y.place
    apart j k x y at_j at_k differ = λ e. elim (cases_order j k) [
      | inl e' ↦ differ e'
      | inr either ↦ elim either [
        | inl before ↦ (let l = listed.rising j k x y before at_j at_k in absurd (omega (arith, e)))
        | inr after ↦ (let l = listed.rising k j y x after at_k at_j in absurd (omega (arith, e)))
      ]
    ]

    other : (k : ℕ) (x : OpenCall) → slice_get xs k ≡ Some x → k ≢ at → x.place ≢ ended.0
    other k x there_x differ e = apart k at x o there_x there differ (e ∙ sym is_ended)

    source : (k : ℕ) (x : OpenCall) → slice_get (remove xs at) k ≡ Some x → (s : ℕ) × (s ≢ at) × (slice_get xs s ≡ Some x) × (((k < at) × (s ≡ k)) ⊎ ((at ≤ k) × (s ≡ suc k)))
    source k x at_k = elim (get_remove_cases xs at k x at_k) [
      | inl before ↦ (k, (λ e. omega (arith, e, before.0)), before.1, inl (before.0, refl))
      | inr after ↦ (suc k, (λ e. omega (arith, e, after.0)), after.1, inr (after.0, refl))
    ]

    less : (j k s t : ℕ) → j < k → ((j < at) × (s ≡ j)) ⊎ ((at ≤ j) × (s ≡ suc j)) → ((k < at) × (t ≡ k)) ⊎ ((at ≤ k) × (t ≡ suc k)) → s < t
    less j k s t l (inl a) (inl b) = omega (arith, a.1, b.1)
    less j k s t l (inl a) (inr b) = omega (arith, a.1, b.1)
    less j k s t l (inr a) (inl b) = (let x = a.0 in let y = b.0 in absurd (omega arith))
    less j k s t l (inr a) (inr b) = omega (arith, a.1, b.1)

    gone : (n process : ℕ) (key : Item) (call : Call) → IsOpen (with_event h event) n process key call → n ≡ ended.0 → ⊥
    gone n process key call is_open e = elim returned [
      | inl ok ↦ is_open.no_ok (length h) ok.1 (event, subst (λ m. IsEnd (with_event h event) m (length h) event) (sym e) ended.1, ok.0, ok.2)
      | inr fail ↦ is_open.no_fail (length h, event, subst (λ m. IsEnd (with_event h event) m (length h) event) (sym e) ended.1, fail.0, fail.1)
    ]

-- elements stay enqueues that returned
pub enqueues_on : (h : List Event) (event : Event) (all : List Element) → AreEnqueues h all → AreEnqueues (with_event h event) all
enqueues_on h event all are = record {
  called = λ i x at. (let was = are.called i x at in (was.0, was.1, get_left h event x.place _ was.2));
  once = are.once;
}

pub returned_on : (h : List Event) (event : Event) (all : List Element) → HaveReturned h all → HaveReturned (with_event h event) all
returned_on h event all have = λ i x at. (let was = have i x at in (was.0, (was.1.0, end_kept h event x.place x.returned was.1.0 was.1.1, was.1.2, was.1.3)))

pub elements_on : (h : List Event) (event : Event) (elements : Elements) → AreElements h elements → AreElements (with_event h event) elements
elements_on h event elements are = record {
  chained = are.chained;
  enqueues = enqueues_on h event elements.all.items are.enqueues;
  returned = returned_on h event elements.all.items are.returned;
}

-- also of the whole
pub enqueues_whole : (h whole : List Event) (order : List Placed) (all : List Element) → IsWhole h whole order → AreEnqueues h all → AreEnqueues whole all
enqueues_whole h whole order all is_whole are = record {
  called = λ i x at. (
      let was = are.called i x at in
      (was.0, was.1, subst (λ l. IsOperation l x.place was.0 was.1 (Enqueue x.item)) (sym is_whole.whole_is) (get_appended h is_whole.more x.place _ was.2)));
  once = are.once;
}

pub one_longer : (h : List Event) (event : Event) (n : ℕ) → n ≡ length h → n + 1 ≡ length (with_event h event)
one_longer h event n e = let l = length-append h (event ∷ []) in omega (arith, e)
