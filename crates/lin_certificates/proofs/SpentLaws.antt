-- A register has no legal order where it was taken from a value more often than it can have come to it.
use Rattle.std.proofs.Common.{◌≡◌, ◌≢◌, ◌⊎◌, ◌≤◌, ◌+◌, ℕ, Bool, true, false, List, [], ◌∷◌, AllPairs, length, inl, inr, refl, sym, ap, subst, ◌∙◌, arith}
use Rattle.lin_events.specs.Items.{item_eq}
use Rattle.lin_events.specs.Sameness.{Decides-item_eq}
use Rattle.lin_events.specs.declared.calls.Call.{Call}
use Rattle.lin_events.specs.declared.calls.Call.TheVariants.{Read, Write, Cas}
use Rattle.lin_events.specs.declared.calls.Reply.{Reply}
use Rattle.lin_events.specs.declared.calls.Val.{Val}
use Rattle.lin_events.specs.declared.calls.Val.TheVariants.{Nil, Item as Held}
use Rattle.lin_events.specs.declared.events.Event.{Event}
use Rattle.lin_objects.specs.declared.kinds.Kind.{Kind}
use Rattle.lin_objects.specs.declared.kinds.Kind.TheVariants.{Register, CasRegister}
use Rattle.lin_objects.specs.declared.states.State.{State}
use Rattle.lin_objects.specs.declared.states.State.TheVariants.{Value}
use Rattle.lin_objects.specs.Steps.{Step, start}
use Rattle.lin_order.specs.declared.placed.Placed.{Placed}
use Rattle.lin_order.specs.Linearizable.{IsLegalOrderAs, Runs}
use Rattle.lin_order.specs.Orders.{IsCall}
use Rattle.lin_order.specs.lemmas.OneEnd.{one_call}
use Rattle.lin_certificates.specs.Conflicts.{IsRegister, Leaves}
use Rattle.lin_certificates.specs.lemmas.Conflicting.{found, no_other, set, wrote}
use Rattle.lin_certificates.specs.lemmas.Counting.{Chosen, chosen_empty, chosen_least, chosen_most, chosen_one, chosen_other, pairs_rest}
use Rattle.lin_certificates.specs.lemmas.Standing.{not_failed, place_of}
use Rattle.lin_certificates.specs.Words.{Spends}
use Rattle.lin_certificates.specs.Certificates.{CanLeave, IsSpent, Spent, begun}
use Rattle.lin_certificates.proofs.Numbers.{at_least, at_most}

-- two values are one, or not
same_or : (v w : Val) → (v ≡ w) ⊎ (v ≢ w)
same_or Nil Nil = inl refl
same_or Nil (Held n) = inr (λ e. cc)
same_or (Held m) Nil = inr (λ e. cc)
same_or (Held m) (Held n) = by (item_eq m n) refl
  where
    by : (b : Bool) → item_eq m n ≡ b → (Held m ≡ Held n) ⊎ (Held m ≢ Held n)
    by true is = inl (ap Held ((Decides-item_eq m n).0 is))
    by false is = inr (λ e. let same : m ≡ n = cc in differ (sym ((Decides-item_eq m n).1 same) ∙ is))
      where
        differ : true ≡ false → ⊥
        differ e = cc

-- one, where the value is this one
abbrev one_if : {v w : Val} → (v ≡ w) ⊎ (v ≢ w) → ℕ
one_if (inl same) = 1
one_if (inr differ) = 0

abbrev is_at : Val → State → ℕ
is_at v (Value w) = one_if (same_or w v)
is_at v s = 0

one_same : {v w : Val} (x : (v ≡ w) ⊎ (v ≢ w)) → v ≡ w → one_if x ≡ 1
one_same (inl same) is = refl
one_same (inr differ) is = absurd (differ is)

one_differ : {v w : Val} (x : (v ≡ w) ⊎ (v ≢ w)) → v ≢ w → one_if x ≡ 0
one_differ (inl same) not = absurd (not same)
one_differ (inr differ) not = refl

one_small : {v w : Val} (x : (v ≡ w) ⊎ (v ≢ w)) → one_if x ≤ 1
one_small (inl same) = omega arith
one_small (inr differ) = omega arith

small : (v : Val) (s : State) → is_at v s ≤ 1
small v (Value w) = one_small (same_or w v)
small v s = omega arith

held : (kind : Kind) → IsRegister kind → (s next : State) (from to : Val) (reply : Reply) → Step kind s (Cas from to) next reply → s ≡ Value from
held CasRegister is (Value x) next from to reply step = ap Value step.0
held CasRegister is s next from to reply step = absurd step
held Register is (Value x) next from to reply step = absurd step
held Register is s next from to reply step = absurd step
held kind is s next from to reply step = absurd is

-- a step comes to the value, goes from it, or does neither
abbrev IsMove : Val → State → Call → State → Type 0
IsMove v s call next = (Leaves call v × (Spends call v → ⊥) × (is_at v next ≤ 1))
    ⊎ ((Spends call v × (Leaves call v → ⊥) × (is_at v s ≡ 1) × (is_at v next ≡ 0)) ⊎ ((Leaves call v → ⊥) × (Spends call v → ⊥) × (is_at v next ≤ is_at v s)))

moves : (kind : Kind) → IsRegister kind → (v : Val) (s next : State) (call : Call) (reply : Reply) → Step kind s call next reply → IsMove v s call next
moves kind is v s next Read reply step =
    let at = found kind is s next reply step in
    let same : is_at v s ≡ is_at v next = ap (is_at v) (at.1 ∙ sym at.2) in
    inr (inr ((λ leaves. leaves), (λ spends. spends), omega (arith, same)))
moves kind is v s next (Write w) reply step = elim (same_or w v) [
  | inl same ↦ inl (same, (λ spends. spends), small v next)
  | inr differ ↦
      let none : is_at v next ≡ 0 = ap (is_at v) (wrote kind is s next w reply step) ∙ one_differ (same_or w v) differ in
      inr (inr (differ, (λ spends. spends), omega (arith, none)))
]
moves kind is v s next (Cas from to) reply step = elim (same_or to v) [
  | inl same ↦ inl (same, (λ spends. spends.1 same), small v next)
  | inr differ ↦
      let none : is_at v next ≡ 0 = ap (is_at v) (set kind is s next from to reply step) ∙ one_differ (same_or to v) differ in
      elim (same_or from v) [
        | inl was ↦ inr (inl ((was, differ), differ, ap (is_at v) (held kind is s next from to reply step) ∙ one_same (same_or from v) was, none))
        | inr other ↦ inr (inr (differ, (λ spends. other spends.0), omega (arith, none)))
      ]
]
moves kind is v s next call reply step = absurd (no_other kind is s next call reply tt step)

from_nil : (v : Val) → is_at v (Value Nil) ≡ begun v
from_nil Nil = one_same (same_or Nil Nil) refl
from_nil (Held n) = one_differ (same_or Nil (Held n)) (λ e. cc)

begins : (kind : Kind) → IsRegister kind → (v : Val) → is_at v (start kind) ≡ begun v
begins Register is v = from_nil v
begins CasRegister is v = from_nil v
begins kind is v = absurd is

module _ (kind : Kind) (is_register : IsRegister kind) (h : List Event) (v : Val) where
  -- the operation leaves the value, or takes the register from it
  abbrev Comes : Placed → Type 0
  Comes p = (call : Call) × IsCall h p.at call × Leaves call v

  abbrev Goes : Placed → Type 0
  Goes p = (call : Call) × IsCall h p.at call × Spends call v

  -- the register goes from the value no more often than it comes to it, or was at it
  counted : (s t : State) (order : List Placed) → AllPairs (λ x y. x.at ≡ y.at → ⊥) order → Runs (Step kind) h s order t
      → (comes : List ℕ) × (goes : List ℕ) × Chosen Comes order comes × Chosen Goes order goes × (is_at v t + length goes ≤ is_at v s + length comes)
  counted s t [] once run = ([], [], chosen_empty Comes, chosen_empty Goes, let same : is_at v s ≡ is_at v t = ap (is_at v) run in omega (arith, same))
  counted s t (q ∷ order) once run =
      let rest = counted run.1 t order (pairs_rest (λ x y. x.at ≡ y.at → ⊥) q order once) run.4 in
      let sum = rest.4 in
      let no_come = λ (none : Leaves run.0 v → ⊥) (is : Comes q). none (subst (λ c. Leaves c v) (one_call h q.at is.0 run.0 is.1 run.2) is.2) in
      let no_go = λ (none : Spends run.0 v → ⊥) (is : Goes q). none (subst (λ c. Spends c v) (one_call h q.at is.0 run.0 is.1 run.2) is.2) in
      elim (moves kind is_register v s run.1 run.0 q.reply run.3) [
        | inl come ↦
            let few = come.2 in
            (q.at ∷ rest.0, rest.1, chosen_one Comes q order rest.0 rest.2 once (run.0, run.2, come.0), chosen_other Goes q order rest.1 rest.3 (no_go come.1), omega (arith, few, sum))
        | inr other ↦ elim other [
          | inl go ↦
              let was = go.2 in
              let now = go.3 in
              (rest.0, q.at ∷ rest.1, chosen_other Comes q order rest.0 rest.2 (no_come go.1), chosen_one Goes q order rest.1 rest.3 once (run.0, run.2, go.0), omega (arith, was, now, sum))
          | inr neither ↦
              let less = neither.2 in
              (rest.0, rest.1, chosen_other Comes q order rest.0 rest.2 (no_come neither.0), chosen_other Goes q order rest.1 rest.3 (no_go neither.1), omega (arith, less, sum))
        ]
      ]

  pub spent : (order : List Placed) → IsLegalOrderAs kind h order → IsSpent h v → ⊥
  spent order legal is =
      let all = counted (start kind) legal.legal.0 order legal.order_of.once legal.legal.1 in
      let sum = all.4 in
      let first = begins kind is_register v in
      let few = chosen_most Comes order all.0 all.2 (CanLeave h v)
      (λ p there makes. let place = place_of order p there in (makes.0, makes.1, not_failed kind h order legal place.0 p place.1, makes.2)) is.comes (at_most (CanLeave h v) is.comes is.all_come) in
      let many = chosen_least Goes order all.1 all.3 (Spent h v)
      (λ at did. (record { at = at; reply = did.2 }, legal.order_of.each_ok at did.1 did.2 tt did.4, (did.0, did.3, did.5), refl)) is.goes (at_least (Spent h v) is.goes is.all_go) in
      let fewer = is.fewer in
      omega (arith, sum, first, few, many, fewer)
