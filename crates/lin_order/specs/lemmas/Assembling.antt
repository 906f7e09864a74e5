-- An order from its conditions, and back.
use Rattle.std.proofs.Common.{◌≡◌, ◌<◌, ℕ, List, [], ◌∷◌, zero, suc, Bool, true, false, All, Contains, length, get_or, refl, sym, ap, subst, ◌∙◌, arith, inl, inr}
use Rattle.std.proofs.lemmas.Bool.{cases_order}
use Rattle.std.proofs.lemmas.Option.{slice_get_within}
use Rattle.std.proofs.lemmas.List.Elements.{All-weaker, All-contains, All-contains_itself}
use Rattle.lin_events.specs.declared.events.Event.{Event}
use Rattle.lin_events.specs.declared.calls.Call.{Call}
use Rattle.lin_events.specs.Operations.{IsFailed}
use Rattle.lin_order.specs.declared.placed.Placed.{Placed}
use Rattle.lin_order.specs.Orders.{IsCall, IsOrder, Places}
use Rattle.lin_order.specs.Tables.{IsMarked, KeepsOutcome, KeepsRealTime, MarksEachOk, NamesOnce, NamesOperations}

-- where no operation stands twice, it has one reply
pub one_reply : (order : List Placed) → NamesOnce order → (p q : Placed) → Contains order p → Contains order q → p.at ≡ q.at → p.reply ≡ q.reply
one_reply order once p q at_p at_q same = elim (cases_order at_p.0 at_q.0) [
  | inl here ↦ ap (λ (r : Placed). r.reply) (sym at_p.2 ∙ any_default order at_p.0 p q at_p.1 ∙ ap (λ k. get_or order k q) here ∙ at_q.2)
  | inr differ ↦ elim differ [
    | inl below ↦ absurd (once at_p.0 at_q.0 p below at_q.1 (place at_p.0 p at_p.2 ∙ same ∙ sym (place at_q.0 p (any_default order at_q.0 p q at_q.1 ∙ at_q.2))))
    | inr above ↦ absurd (once at_q.0 at_p.0 q above at_p.1 (place at_q.0 q at_q.2 ∙ sym same ∙ sym (place at_p.0 q (any_default order at_p.0 q p at_p.1 ∙ at_p.2))))
  ]
]
  where
    any_default : {X : Type 0} (zs : List X) (i : ℕ) (d e : X) → i < length zs → get_or zs i d ≡ get_or zs i e
    any_default [] i d e h = absurd (omega arith)
    any_default (z ∷ zs) zero d e h = refl
    any_default (z ∷ zs) (suc i) d e h = any_default zs i d e (omega arith)

    place : (k : ℕ) (d : Placed) {r : Placed} → get_or order k d ≡ r → (get_or order k d).at ≡ r.at
    place k d e = ap (λ (r : Placed). r.at) e

pub operation_inside : (h : List Event) (at : ℕ) (call : Call) → IsCall h at call → at < length h
operation_inside h at call is = slice_get_within h at _ is.2

pub operations_inside : (h : List Event) (order : List Placed) → NamesOperations h order → All (λ p. p.at < length h) order
operations_inside h order names = All-weaker (λ p. (call : Call) × IsCall h p.at call) (λ p. p.at < length h) (λ p is. operation_inside h p.at is.0 is.1) order names

module _ (h : List Event) (order : List Placed) where
  pub order_from : (marks : List Bool) → NamesOperations h order → NamesOnce order → IsMarked order marks → All (KeepsOutcome h) order → MarksEachOk h marks → KeepsRealTime h order → IsOrder h order
  order_from marks names once marked keeps each in_time = record {
    operations = All-weaker (λ p. (call : Call) × IsCall h p.at call) (λ p. (call : Call) × IsCall h p.at call × Unit {0}) (λ p is. (is.0, is.1, tt)) order names;
    once = once;
    none_failed = All-weaker (KeepsOutcome h) _ (λ p kept. kept.not_failed) order keeps;
    each_ok = λ at end reply of_it ok.
        let there = marked.sound at (each at end reply ok) in
        let kept = All-contains (KeepsOutcome h) order (record { at = at; reply = there.0 }) keeps there.1 in
        subst (Places order at) (kept.recorded end reply ok) there.1;
    real_time = in_time;
  }

  module _ (is : IsOrder h order) where
    pub order_names : NamesOperations h order
    order_names = All-weaker (λ p. (call : Call) × IsCall h p.at call × Unit {0}) (λ p. (call : Call) × IsCall h p.at call) (λ p op. (op.0, op.1)) order is.operations

    pub order_keeps : All (KeepsOutcome h) order
    order_keeps = All-weaker (Contains order) (KeepsOutcome h) (λ p there. keeps p there) order (All-contains_itself order)
      where
        keeps : (p : Placed) → Contains order p → KeepsOutcome h p
        keeps p there = record {
          not_failed = All-contains (λ q. IsFailed h q.at → ⊥) order p is.none_failed there;
          recorded = λ end reply ok. one_reply order is.once p (record { at = p.at; reply = reply }) there (is.each_ok p.at end reply tt ok) refl;
        }

    pub order_marks : (marks : List Bool) → IsMarked order marks → MarksEachOk h marks
    order_marks marks marked at end reply ok = All-contains (λ q. get_or marks q.at false ≡ true) order (record { at = at; reply = reply }) marked.complete (is.each_ok at end reply tt ok)
