-- The first events of a whole history: what they have of it, and what one more event makes ok.
use Rattle.std.proofs.Common.{◌≡◌, ℕ, ◌<◌, zero, suc, Bool, List, [], ◌∷◌, ◌++◌, length, length-append, append_assoc, append-nil, ◌⊎◌, inl, inr, refl, sym, ap, subst, ◌∙◌, arith, slice_get}
use Rattle.std.proofs.lemmas.Bool.{cases_order, cases_eq}
use Rattle.std.proofs.lemmas.List.Elements.{All-contains}
use Rattle.lin_events.specs.declared.items.Item.{Item}
use Rattle.lin_events.specs.declared.events.Body.TheVariants.{Invoke, Ok}
use Rattle.lin_events.specs.declared.events.Event.{Event}
use Rattle.lin_events.specs.declared.calls.Call.{Call}
use Rattle.lin_events.specs.declared.calls.Name.{Name}
use Rattle.lin_events.specs.declared.calls.Reply.{Reply}
use Rattle.lin_events.specs.Alternation.{IsAlternating}
use Rattle.lin_events.specs.Operations.{IsEvent, IsOperation, IsEnd, IsOk, IsFailed, IsOpen}
use Rattle.lin_events.specs.WellFormed.{Completes}
use Rattle.lin_objects.specs.declared.kinds.Kind.TheVariants.{Fifo}
use Rattle.lin_order.specs.declared.placed.Placed.{Placed}
use Rattle.lin_order.specs.Orders.{IsBefore, IsCall, IsOrder, Places}
use Rattle.lin_order.specs.Linearizable.{IsLegalOrderAs}
use Rattle.lin_order.specs.ConfigurationLaws.{with_event}
use Rattle.lin_lists.specs.lemmas.Lists.{get_inside, get_last}
use Rattle.lin_order.specs.lemmas.OneEnd.{one_event, one_ok}
use Rattle.lin_order.specs.lemmas.Again.{operation_of}
use Rattle.lin_events.specs.lemmas.OneMore.{one_open, end_inside, completes, alternates_before}
use Rattle.lin_queues.specs.Debts.{IsWhole, IsOkWithin, Stands}
use Rattle.lin_queues.proofs.DebtLists.{contains}
use Rattle.lin_queues.proofs.DebtsTaking.{stands_before}

pub get_within : {A : Type 0} (xs ys : List A) (k : ℕ) → k < length xs → slice_get (xs ++ ys) k ≡ slice_get xs k
get_within [] ys k inside = absurd (omega arith)
get_within (x ∷ xs) ys zero inside = refl
get_within (x ∷ xs) ys (suc k) inside = get_within xs ys k (omega arith)

pub one_longer : (h : List Event) (event : Event) → length (with_event h event) ≡ suc (length h)
one_longer h event = let long = length-append h (event ∷ []) in omega (arith, long)

pub begins_earlier : (h : List Event) (event : Event) (whole : List Event) (order : List Placed) → IsWhole (with_event h event) whole order → IsWhole h whole order
begins_earlier h event whole order is = record { more = event ∷ is.more; whole_is = is.whole_is ∙ append_assoc h (event ∷ []) is.more; legal = is.legal }

pub whole_itself : (h : List Event) (order : List Placed) → IsLegalOrderAs Fifo h order → IsWhole h h order
whole_itself h order legal = record { more = []; whole_is = sym (append-nil h); legal = legal }

-- what the first events have
module _ (g whole : List Event) (order : List Placed) (is : IsWhole g whole order) where
  same_there : (k : ℕ) → k < length g → slice_get whole k ≡ slice_get g k
  same_there k inside = ap (λ l. slice_get l k) is.whole_is ∙ get_within g is.more k inside

  pub event_on : (k : ℕ) (event : Event) → IsEvent g k event → IsEvent whole k event
  event_on k event there = same_there k (get_inside g k event there) ∙ there

  pub event_back : (k : ℕ) (event : Event) → k < length g → IsEvent whole k event → IsEvent g k event
  event_back k event inside there = sym (same_there k inside) ∙ there

  pub end_on : (at end : ℕ) (ending : Event) → IsEnd g at end ending → IsEnd whole at end ending
  end_on at end ending e =
      let inside = end_inside g at end ending e in
      record {
        process = e.process;
        key = e.key;
        call = e.call;
        begins = event_on at _ e.begins;
        later = e.later;
        ends = event_on end ending e.ends;
        same = e.same;
        least = λ k after before of_it. e.least k after before (of_it.0, event_back k of_it.0 (omega (arith, inside)) of_it.1, of_it.2);
      }

  pub ok_on : (at end : ℕ) (reply : Reply) → IsOk g at end reply → IsOk whole at end reply
  ok_on at end reply ok = (ok.0, end_on at end ok.0 ok.1, ok.2, ok.3)

  pub ok_back : (at end : ℕ) (reply : Reply) → end < length g → IsOk whole at end reply → IsOk g at end reply
  ok_back at end reply inside ok =
      let e = ok.1 in
      let later : at < end = e.later in (
        ok.0,
        record {
          process = e.process;
          key = e.key;
          call = e.call;
          begins = event_back at _ (omega arith) e.begins;
          later = e.later;
          ends = event_back end ok.0 inside e.ends;
          same = e.same;
          least = λ k after before of_it. e.least k after before (of_it.0, event_on k of_it.0 of_it.1, of_it.2);
        },
        ok.2,
        ok.3,
      )

  pub before_on : (a b : ℕ) → IsBefore g a b → IsBefore whole a b
  before_on a b before = (before.0, before.1, ok_on a before.0 before.1 before.2, before.3)

  pub call_back : (at : ℕ) (call : Call) → at < length g → IsCall whole at call → IsCall g at call
  call_back at call inside c = (c.0, c.1, event_back at _ inside c.2)

  -- what the order places and isn't ok within the first events is open after them
  pub opened : (z : ℕ) (reply : Reply) (call : Call) → Places order z reply → z < length g → (IsOkWithin whole (length g) z → ⊥) → IsCall whole z call
      → (process : ℕ) × (key : Item) × IsOpen g z process key call
  opened z reply call there inside not_ok c =
      let begins = call_back z call inside c in (
        begins.0,
        begins.1,
        record {
          begins = begins.2;
          no_ok = λ end r ok. not_ok (end, r, ok_on z end r ok, end_inside g z end ok.0 ok.1);
          no_fail = λ f. All-contains (λ p. IsFailed whole p.at → ⊥) order (record { at = z; reply = reply }) is.legal.order_of.none_failed there (f.0, f.1, end_on z f.0 f.1 f.2, f.3, f.4);
        },
      )

-- two operations don't end with one event
pub one_ends : (h : List Event) (a b n : ℕ) (x y : Event) → IsEnd h a n x → IsEnd h b n y → a ≡ b
one_ends h a b n x y e f =
    let same : e.process ≡ f.process = sym e.same ∙ ap (λ (v : Event). v.process) (one_event h n x y e.ends f.ends) ∙ f.same in
    elim (cases_order a b) [
      | inl here ↦ here
      | inr differ ↦ elim differ [
        | inl below ↦ absurd (e.least b below f.later (_, f.begins, sym same))
        | inr above ↦ absurd (f.least a above e.later (_, e.begins, same))
      ]
    ]

-- ok within the events up to one more
module _ (whole : List Event) (n : ℕ) where
  pub ok_later : (at : ℕ) → IsOkWithin whole n at → IsOkWithin whole (suc n) at
  ok_later at ok = (ok.0, ok.1, ok.2, omega (arith, ok.3))

  ok_last : (at : ℕ) → IsOkWithin whole (suc n) at → IsOkWithin whole n at ⊎ ((reply : Reply) × IsOk whole at n reply)
  ok_last at ok = elim (cases_eq ok.0 n) [
    | inl here ↦ inr (ok.1, subst (λ k. IsOk whole at k ok.1) here ok.2)
    | inr other ↦ inl (ok.0, ok.1, ok.2, by ok.3 other)
  ]
    where
      by : {k : ℕ} → k < suc n → (k ≡ n → ⊥) → k < n
      by {k} below other = elim (cases_order k n) [
        | inl same ↦ absurd (other same)
        | inr differ ↦ elim differ [
          | inl less ↦ less
          | inr more ↦ omega arith
        ]
      ]

  -- an event that is no ok makes nothing ok
  pub ok_earlier : (event : Event) → IsEvent whole n event → ((name : Name) (reply : Reply) → event.body ≡ Ok name reply → ⊥) → (at : ℕ) → IsOkWithin whole (suc n) at → IsOkWithin whole n at
  ok_earlier event there never at ok = elim (ok_last at ok) [
    | inl old ↦ old
    | inr new ↦
        let o = new.1 in
        absurd (never o.2 new.0 (ap (λ (v : Event). v.body) (one_event whole n event o.0 there o.1.ends) ∙ o.3))
  ]

  module _ (x : ℕ) (reply : Reply) (ok : IsOk whole x n reply) where
    pub ok_now : IsOkWithin whole (suc n) x
    ok_now = (n, reply, ok, omega arith)

    pub ok_cases : (at : ℕ) → IsOkWithin whole (suc n) at → IsOkWithin whole n at ⊎ (at ≡ x)
    ok_cases at within = elim (ok_last at within) [
      | inl old ↦ inl old
      | inr new ↦ inr (one_ends whole at x n new.1.0 ok.0 new.1.1 ok.1)
    ]

    pub not_yet : IsOkWithin whole n x → ⊥
    not_yet within = let same = (one_ok whole x within.0 n within.1 reply within.2 ok).0 in omega (arith, same, within.3)

    pub invoked_earlier : x < n
    invoked_earlier = ok.1.later

    -- what stands ahead of it was invoked before it was ok
    pub invoked_ahead : (order : List Placed) → IsOrder whole order → (i j z : ℕ) (r s : Reply) → Stands order i z r → Stands order j x s → i < j → z < n
    invoked_ahead order is i j z r s at_z at_x ahead = elim (cases_order z n) [
      | inl here ↦
          let op = operation_of whole order is (record { at = z; reply = r }) (contains order i _ at_z) in
          let there = subst (λ k. IsOperation whole k op.1.0 op.1.1 op.0) here op.1.2 in
          let body = ap (λ (v : Event). v.body) (one_event whole n _ ok.0 there ok.1.ends) ∙ ok.3 in
          absurd (differ body)
      | inr differ ↦ elim differ [
        | inl below ↦ below
        | inr above ↦ absurd (let later = stands_before whole order is j i x z s r at_x at_z (n, reply, ok, above) in omega (arith, later))
      ]
    ]
      where
        differ : {c : Call} {name : Name} {reply : Reply} → Invoke c ≡ Ok name reply → ⊥
        differ e = cc

-- the completion of an open operation is its end
pub ends_there : (functions : Item → Name → Bool) (h : List Event) (event : Event) (x : ℕ) (key : Item) (call : Call) (name : Name) → IsAlternating functions (with_event h event) → IsOpen h x event.process key call
    → Completes event.body name → (whole : List Event) (order : List Placed) → IsWhole (with_event h event) whole order → IsEnd whole x (length h) event
ends_there functions h event x key call name alternates is_open completing whole order is =
    let ended = completes h event functions alternates name completing in
    let same = one_open functions h (alternates_before h event functions alternates) ended.0 x event.process ended.1 key ended.2 call ended.3 is_open in
    end_on (with_event h event) whole order is x (length h) event (subst (λ k. IsEnd (with_event h event) k (length h) event) same ended.4)

pub event_now : (h : List Event) (event : Event) (whole : List Event) (order : List Placed) → IsWhole (with_event h event) whole order → IsEvent whole (length h) event
event_now h event whole order is = event_on (with_event h event) whole order is (length h) event (get_last h event)
