-- Orders over another history that has the same operations, and over one with an event more.
use Rattle.std.proofs.Common.{◌≡◌, ℕ, ◌<◌, List, [], ◌∷◌, length, Contains, ◌⊎◌, inl, inr, get_or, refl, ap, subst, arith}
use Rattle.std.proofs.lemmas.Bool.{cases_order}
use Rattle.std.proofs.lemmas.List.Elements.{All-contains, Contains-append_right, Contains-get_or}
use Rattle.lin_events.specs.declared.items.Item.{Item}
use Rattle.lin_events.specs.declared.calls.Call.{Call}
use Rattle.lin_events.specs.declared.calls.Reply.{Reply}
use Rattle.lin_events.specs.declared.events.Event.{Event}
use Rattle.lin_events.specs.Operations.{IsOk, IsFailed, IsOpen}
use Rattle.lin_order.specs.declared.placed.Placed.{Placed}
use Rattle.lin_order.specs.Orders.{IsBefore, IsCall, IsOrder, Places}
use Rattle.lin_order.specs.Linearizable.{Runs}
use Rattle.lin_order.specs.Configurations.{IsPlacedBy}
use Rattle.lin_order.specs.ConfigurationLaws.{with_event}
use Rattle.lin_order.specs.lemmas.Assembling.{operation_inside}
use Rattle.lin_lists.specs.lemmas.Elements.{all_of, first_or_rest}
use Rattle.lin_events.specs.lemmas.OneMore.{ok_kept, failed_kept, open_before}
use Rattle.lin_order.specs.lemmas.OneMore.{call_kept, call_before}

module _ (h : List Event) (o : List Placed) (is : IsOrder h o) where
  pub operation_of : (p : Placed) → Contains o p → (call : Call) × IsCall h p.at call
  operation_of p there = let op = All-contains (λ q. (call : Call) × IsCall h q.at call × Unit {0}) o p is.operations there in (op.0, op.1)

  pub never_failed : (p : Placed) → Contains o p → IsFailed h p.at → ⊥
  never_failed p there = All-contains (λ q. IsFailed h q.at → ⊥) o p is.none_failed there

  pub placed_inside : (p : Placed) → Contains o p → p.at < length h
  placed_inside p there = let op = operation_of p there in operation_inside h p.at op.0 op.1

  -- an order of the one history is an order of another
  pub order_again : (g : List Event) → ((p : Placed) (call : Call) → Contains o p → IsCall h p.at call → IsCall g p.at call) → ((p : Placed) → Contains o p → IsFailed g p.at → ⊥)
      → ((at end : ℕ) (reply : Reply) → IsOk g at end reply → Places o at reply) → ((p : Placed) (at : ℕ) → Contains o p → IsBefore g at p.at → IsBefore h at p.at) → IsOrder g o
  order_again g calls fails each earlier = record {
    operations = all_of (λ p. (call : Call) × IsCall g p.at call × Unit {0}) o (λ p there. let op = operation_of p there in (op.0, calls p op.0 there op.1, tt));
    once = is.once;
    none_failed = all_of (λ p. IsFailed g p.at → ⊥) o fails;
    each_ok = λ at end reply of_it ok. each at end reply ok;
    real_time = λ i j d before within b. is.real_time i j d before within (earlier (get_or o i d) (get_or o j d).at (Contains-get_or o i d (omega arith)) b);
  }

-- what the order places of the open operations, where the same ones are open
pub placed_again : (h g : List Event) (o : List Placed) (placed : List (ℕ × Reply)) → IsPlacedBy h o placed
    → ((at p : ℕ) (key : Item) (call : Call) (reply : Reply) → Places o at reply → IsOpen h at p key call → IsOpen g at p key call)
    → ((at p : ℕ) (key : Item) (call : Call) (reply : Reply) → Places o at reply → IsOpen g at p key call → IsOpen h at p key call) → IsPlacedBy g o placed
placed_again h g o placed is to from = record {
  rising = is.rising;
  sound = λ p r there. let s = is.sound p r there in (s.0, s.1, s.2, to s.0 p s.1 s.2 r s.4 s.3, s.4);
  complete = λ at p key call r is_open there. is.complete at p key call r (from at p key call r there is_open) there;
}

pub runs_again : {S : Type 0} (step : S → Call → S → Reply → Type 0) (h g : List Event) (o : List Placed) (s t : S)
    → ((p : Placed) (call : Call) → Contains o p → IsCall h p.at call → IsCall g p.at call) → Runs step h s o t → Runs step g s o t
runs_again step h g [] s t calls run = run
runs_again step h g (p ∷ o) s t calls run = (
  run.0,
  run.1,
  calls p run.0 (0, omega arith, refl) run.2,
  run.3,
  runs_again step h g o run.1 t (λ q call there. calls q call (Contains-append_right (p ∷ []) o q there)) run.4,
)

-- whether the order places an operation
pub is_placed : (at : ℕ) (o : List Placed) → ((r : Reply) × Places o at r) ⊎ ((r : Reply) → Places o at r → ⊥)
is_placed at [] = inr (λ r there. let inside = there.1 in omega arith)
is_placed at (p ∷ o) = elim (cases_order p.at at) [
  | inl same ↦ inl (p.reply, (0, omega arith, λ i. record { at = same i; reply = p.reply }))
  | inr other ↦ elim (is_placed at o) [
    | inl rest ↦ inl (rest.0, Contains-append_right (p ∷ []) o (record { at = at; reply = rest.0 }) rest.1)
    | inr absent ↦ inr (λ r there. elim (first_or_rest p o (record { at = at; reply = r }) there) [
      | inl here ↦ differs other (ap (λ (q : Placed). q.at) here)
      | inr later ↦ absent r later
    ])
  ]
]
  where
    differs : (p.at < at) ⊎ (at < p.at) → p.at ≡ at → ⊥
    differs (inl below) same = omega arith
    differs (inr above) same = omega arith

-- one event less, and one more
module _ (h : List Event) (event : Event) where
  -- an order without an operation at the event was one before
  pub order_before : (o : List Placed) → ((r : Reply) → Places o (length h) r → ⊥) → IsOrder (with_event h event) o → IsOrder h o
  order_before o absent is = order_again (with_event h event) o is h
      (λ p call there. call_before h event p.at call (λ e. absent p.reply (subst (λ k. Places o k p.reply) e there)))
      (λ p there failed. never_failed (with_event h event) o is p there (failed_kept h event p.at failed))
      (λ at end r ok. is.each_ok at end r tt (ok_kept h event at end r ok))
      (λ p at there b. (b.0, b.1, ok_kept h event at b.0 b.1 b.2, b.3))

  pub run_before : {S : Type 0} (step : S → Call → S → Reply → Type 0) (o : List Placed) (s t : S) → ((r : Reply) → Places o (length h) r → ⊥)
      → Runs step (with_event h event) s o t → Runs step h s o t
  run_before step o s t absent run = runs_again step (with_event h event) h o s t
      (λ p call there. call_before h event p.at call (λ e. absent p.reply (subst (λ k. Places o k p.reply) e there))) run

  pub run_kept : {S : Type 0} (step : S → Call → S → Reply → Type 0) (o : List Placed) (s t : S) → Runs step h s o t → Runs step (with_event h event) s o t
  run_kept step o s t run = runs_again step h (with_event h event) o s t (λ p call there. call_kept h event p.at call) run

  -- what an order places was open before, if it is open after the event
  pub was_open : (o : List Placed) → ((r : Reply) → Places o (length h) r → ⊥) → (at p : ℕ) (key : Item) (call : Call) (r : Reply) → Places o at r
      → IsOpen (with_event h event) at p key call → IsOpen h at p key call
  was_open o absent at p key call r there = open_before h event at p key call (λ e. absent r (subst (λ k. Places o k r) e there))

-- an order of the history has nothing at the position after it
pub none_past : (h : List Event) (o : List Placed) → IsOrder h o → (r : Reply) → Places o (length h) r → ⊥
none_past h o is r there = let inside = placed_inside h o is (record { at = length h; reply = r }) there in omega arith
