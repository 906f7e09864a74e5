-- An order can be cut at a place of the history: ahead stand all that had returned before it, and none that was called at it or behind it.
use Rattle.std.proofs.Common.{◌≡◌, ◌≢◌, ◌⊎◌, ◌<◌, ◌≤◌, ℕ, List, [], ◌∷◌, ◌++◌, AllPairs, Contains, inl, inr, refl, sym, ap, subst, arith}
use Rattle.std.proofs.lemmas.Bool.{cases_lt}
use Rattle.std.proofs.lemmas.List.Elements.{Contains-append_cases, Contains-append_left, Contains-append_right}
use Rattle.lin_lists.specs.lemmas.Elements.{first_or_rest, nothing_in, pairs_left}
use Rattle.lin_events.specs.declared.calls.Reply.{Reply}
use Rattle.lin_events.specs.declared.events.Event.{Event}
use Rattle.lin_events.specs.Operations.{IsOk}
use Rattle.lin_objects.specs.declared.kinds.Kind.{Kind}
use Rattle.lin_objects.specs.declared.states.State.{State}
use Rattle.lin_objects.specs.Steps.{Step, start}
use Rattle.lin_order.specs.declared.placed.Placed.{Placed}
use Rattle.lin_order.specs.Linearizable.{IsLegalOrderAs, Runs}
use Rattle.lin_order.specs.Orders.{IsBefore}
use Rattle.lin_order.specs.lemmas.Running.{runs_split}
use Rattle.lin_certificates.specs.lemmas.Counting.{first_apart, pairs_rest}

pairs_right : {A : Type 0} (R : A → A → Type 0) (xs ys : List A) → AllPairs R (xs ++ ys) → AllPairs R ys
pairs_right R [] ys all = all
pairs_right R (x ∷ xs) ys all = pairs_right R xs ys (pairs_rest R x (xs ++ ys) all)

module _ (h : List Event) where
  -- no later one is before an earlier one
  abbrev InTime : Placed → Placed → Type 0
  InTime p q = IsBefore h q.at p.at → ⊥

  abbrev Nothing : List Placed → Type 0
  Nothing order = (p : Placed) → Contains order p → ⊥

  record Cut (place : ℕ) (order : List Placed) : Type 0 where
    ahead : List Placed
    behind : List Placed
    parts : order ≡ ahead ++ behind
    called : (p : Placed) → Contains ahead p → p.at < place
    still : (p : Placed) → Contains behind p → IsBefore h p.at place → ⊥
    some : (ahead ≡ []) ⊎ ((p : Placed) × Contains ahead p × IsBefore h p.at place)

  called_first : (at place : ℕ) → IsBefore h at place → at < place
  called_first at place before =
      let less = before.3 in
      let ends = before.2.1.later in
      omega (arith, less, ends)

  cut : (place : ℕ) (order : List Placed) → AllPairs InTime order → (Cut place order → ⊥) → ⊥
  cut place [] in_time never = never (record { ahead = []; behind = []; parts = refl; called = λ p there. absurd (nothing_in p there); still = λ p there before. nothing_in p there; some = inl refl })
  cut place (q ∷ order) in_time never = cut place order (pairs_rest InTime q order in_time) (λ rest. by rest (rest.some))
    where
      none_ahead : (rest : Cut place order) → rest.ahead ≡ [] → ⊥
      none_ahead rest none = over not_before
        where
          same : order ≡ rest.behind
          same = subst (λ l. order ≡ l ++ rest.behind) none rest.parts

          stays : (p : Placed) → Contains order p → IsBefore h p.at place → ⊥
          stays p there = rest.still p (subst (λ l. Contains l p) same there)

          not_before : IsBefore h q.at place → ⊥
          not_before before = never (record {
            ahead = q ∷ [];
            behind = order;
            parts = refl;
            called = λ p there. elim (first_or_rest q [] p there) [
              | inl one ↦ subst (λ (x : Placed). x.at < place) one (called_first q.at place before)
              | inr none ↦ absurd (nothing_in p none)
            ];
            still = stays;
            some = inr (q, (0, omega arith, refl), before);
          })

          over : (IsBefore h q.at place → ⊥) → ⊥
          over later = never (record {
            ahead = [];
            behind = q ∷ order;
            parts = refl;
            called = λ p there. absurd (nothing_in p there);
            still = λ p there. elim (first_or_rest q order p there) [
              | inl one ↦ subst (λ (x : Placed). IsBefore h x.at place → ⊥) one later
              | inr more ↦ stays p more
            ];
            some = inl refl;
          })

      some_ahead : (rest : Cut place order) → (p : Placed) × Contains rest.ahead p × IsBefore h p.at place → ⊥
      some_ahead rest last = elim (cases_lt q.at place) [
        | inl less ↦ never (record {
          ahead = q ∷ rest.ahead;
          behind = rest.behind;
          parts = ap (λ l. q ∷ l) rest.parts;
          called = λ p there. elim (first_or_rest q rest.ahead p there) [
            | inl one ↦ subst (λ (x : Placed). x.at < place) one less
            | inr more ↦ rest.called p more
          ];
          still = rest.still;
          some = inr (last.0, Contains-append_right (q ∷ []) rest.ahead last.0 last.1, last.2);
        })
        | inr late ↦
            let in_order = subst (λ l. Contains l last.0) (sym rest.parts) (Contains-append_left rest.ahead rest.behind last.0 last.1) in
            let ended = last.2.3 in
            first_apart InTime q order in_time last.0 in_order (last.2.0, last.2.1, last.2.2, omega (arith, late, ended))
      ]

      by : (rest : Cut place order) → (rest.ahead ≡ []) ⊎ ((p : Placed) × Contains rest.ahead p × IsBefore h p.at place) → ⊥
      by rest which = elim which [
        | inl none ↦ none_ahead rest none
        | inr last ↦ some_ahead rest last
      ]

  module _ (kind : Kind) (order : List Placed) (legal : IsLegalOrderAs kind h order) where
    -- what stands between the cuts at two places
    pub record Segment (from to : ℕ) : Type 0 where
      pub before : State
      pub after : State
      pub part : List Placed
      pub run : Runs (Step kind) h before part after
      pub once : AllPairs (λ x y. x.at ≢ y.at) part
      pub can : (p : Placed) → Contains part p → (p.at < to) × (IsBefore h p.at from → ⊥)
      pub in_order : (p : Placed) → Contains part p → Contains order p
      pub did : (at end : ℕ) (reply : Reply) → IsOk h at end reply → from ≤ at → IsBefore h at to → Contains part (record { at = at; reply = reply })
      pub begins : from ≡ 0 → before ≡ start kind

    none_ran : (from : ℕ) (s t : State) (xs : List Placed) → Runs (Step kind) h s xs t → ((p : Placed) → Contains xs p → p.at < from) → from ≡ 0 → t ≡ s
    none_ran from s t [] run called none = sym run
    none_ran from s t (q ∷ xs) run called none = let less = called q (0, omega arith, refl) in absurd (omega (arith, less, none))

    between : (from to : ℕ) (outer : Cut to order) (inner : Cut from outer.ahead) → Segment from to
    between from to outer inner =
        let whole = runs_split (Step kind) h (start kind) legal.legal.0 outer.ahead outer.behind (subst (λ l. Runs (Step kind) h (start kind) l legal.legal.0) outer.parts legal.legal.1) in
        let halves = runs_split (Step kind) h (start kind) whole.0 inner.ahead inner.behind (subst (λ l. Runs (Step kind) h (start kind) l whole.0) inner.parts whole.1) in
        record {
          before = halves.0;
          after = whole.0;
          part = inner.behind;
          run = halves.2;
          once = pairs_right (λ (x y : Placed). x.at ≢ y.at) inner.ahead inner.behind (subst (AllPairs (λ x y. x.at ≢ y.at)) inner.parts (pairs_left (λ (x y : Placed). x.at ≢ y.at) outer.ahead outer.behind (subst (AllPairs (λ x y. x.at ≢ y.at)) outer.parts legal.order_of.once)));
          can = λ p there. (outer.called p (inside p there), inner.still p there);
          in_order = λ p there. subst (λ l. Contains l p) (sym outer.parts) (Contains-append_left outer.ahead outer.behind p (inside p there));
          did = λ at end reply ok later early. elim (Contains-append_cases outer.ahead outer.behind (record { at = at; reply = reply }) (subst (λ l. Contains l (record { at = at; reply = reply })) outer.parts (legal.order_of.each_ok at end reply tt ok))) [
            | inl ahead ↦ elim (Contains-append_cases inner.ahead inner.behind (record { at = at; reply = reply }) (subst (λ l. Contains l (record { at = at; reply = reply })) inner.parts ahead)) [
              | inl first ↦ let less = inner.called (record { at = at; reply = reply }) first in absurd (omega (arith, less, later))
              | inr it ↦ it
            ]
            | inr behind ↦ absurd (outer.still (record { at = at; reply = reply }) behind early)
          ];
          begins = none_ran from (start kind) halves.0 inner.ahead halves.1 inner.called;
        }
      where
        inside : (p : Placed) → Contains inner.behind p → Contains outer.ahead p
        inside p there = subst (λ l. Contains l p) (sym inner.parts) (Contains-append_right inner.ahead inner.behind p there)

    pub segment : (from to : ℕ) → (Segment from to → ⊥) → ⊥
    segment from to never = cut to order legal.order_of.real_time (λ outer.
        cut from outer.ahead (pairs_left InTime outer.ahead outer.behind (subst (AllPairs InTime) outer.parts legal.order_of.real_time)) (λ inner. never (between from to outer inner)))
