-- Where operations stand in a legal order.
use Rattle.std.proofs.Common.{◌≡◌, ◌≢◌, ◌<◌, ℕ, zero, suc, List, [], ◌∷◌, ◌++◌, AllPairs, Contains, length, inl, inr, refl, sym, subst, ◌∙◌, arith}
use Rattle.std.proofs.lemmas.Bool.{cases_order}
use Rattle.std.proofs.lemmas.List.Elements.{All-contains, Contains-append_right}
use Rattle.lin_lists.specs.lemmas.Elements.{first_or_rest, nothing_in}
use Rattle.lin_events.specs.declared.calls.Call.{Call}
use Rattle.lin_events.specs.declared.calls.Reply.{Reply}
use Rattle.lin_events.specs.declared.events.Event.{Event}
use Rattle.lin_events.specs.Operations.{IsFailed, IsOk}
use Rattle.lin_objects.specs.declared.kinds.Kind.{Kind}
use Rattle.lin_objects.specs.declared.states.State.{State}
use Rattle.lin_objects.specs.Steps.{Step}
use Rattle.lin_order.specs.declared.placed.Placed.{Placed}
use Rattle.lin_order.specs.Linearizable.{IsLegalOrderAs, Runs}
use Rattle.lin_order.specs.Orders.{IsBefore, IsCall}
use Rattle.lin_order.specs.lemmas.Assembling.{one_reply}
use Rattle.lin_certificates.specs.lemmas.Conflicting.{across}
use Rattle.lin_certificates.specs.lemmas.Counting.{pairs_rest}

-- it stands at this place of the order, counted from 0
abbrev pub At : List Placed → ℕ → Placed → Type 0
At [] i p = ⊥
At (q ∷ order) zero p = q ≡ p
At (q ∷ order) (suc i) p = At order i p

pub place_of : (order : List Placed) (p : Placed) → Contains order p → (i : ℕ) × At order i p
place_of [] p there = absurd (nothing_in p there)
place_of (q ∷ order) p there = elim (first_or_rest q order p there) [
  | inl same ↦ (0, same)
  | inr rest ↦ let place = place_of order p rest in (suc place.0, place.1)
]

pub stands_in : (order : List Placed) (i : ℕ) (p : Placed) → At order i p → Contains order p
stands_in [] i p there = absurd there
stands_in (q ∷ order) zero p there = (0, omega arith, there)
stands_in (q ∷ order) (suc i) p there = Contains-append_right (q ∷ []) order p (stands_in order i p there)

-- the beginning of an order, and what stands behind it
pub at_left : (xs ys : List Placed) (i : ℕ) (p : Placed) → At xs i p → At (xs ++ ys) i p
at_left [] ys i p there = absurd there
at_left (x ∷ xs) ys zero p there = there
at_left (x ∷ xs) ys (suc i) p there = at_left xs ys i p there

pub left_at : (xs ys : List Placed) (i : ℕ) (p : Placed) → At (xs ++ ys) i p → i < length xs → At xs i p
left_at [] ys i p there less = absurd (omega (arith, less))
left_at (x ∷ xs) ys zero p there less = there
left_at (x ∷ xs) ys (suc i) p there less = left_at xs ys i p there (omega (arith, less))

pub at_within : (xs : List Placed) (i : ℕ) (p : Placed) → At xs i p → i < length xs
at_within [] i p there = absurd there
at_within (x ∷ xs) zero p there = omega arith
at_within (x ∷ xs) (suc i) p there = let rest = at_within xs i p there in omega (arith, rest)

pub at_here : (xs : List Placed) (y : Placed) (ys : List Placed) → At (xs ++ y ∷ ys) (length xs) y
at_here [] y ys = refl
at_here (x ∷ xs) y ys = at_here xs y ys

-- one operation stands at a place
pub one_there : (order : List Placed) (i : ℕ) (p q : Placed) → At order i p → At order i q → p ≡ q
one_there [] i p q at_p at_q = absurd at_p
one_there (x ∷ order) zero p q at_p at_q = sym at_p ∙ at_q
one_there (x ∷ order) (suc i) p q at_p at_q = one_there order i p q at_p at_q

-- what holds of each pair holds of what stands at two places
pub pair_there : (R : Placed → Placed → Type 0) (order : List Placed) (i j : ℕ) (p q : Placed) → AllPairs R order → At order i p → At order j q → i < j → R p q
pair_there R [] i j p q all at_p at_q less = absurd at_p
pair_there R (x ∷ order) i zero p q all at_p at_q less = absurd (omega (arith, less))
pair_there R (x ∷ order) zero (suc j) p q all at_p at_q less = subst (λ y. R y q) at_p (across R (x ∷ []) order x q all (0, omega arith, refl) (stands_in order j q at_q))
pair_there R (x ∷ order) (suc i) (suc j) p q all at_p at_q less = pair_there R order i j p q (pairs_rest R x order all) at_p at_q (omega (arith, less))

-- the step that the object takes there
pub step_there : (kind : Kind) (h : List Event) (s t : State) (order : List Placed) (i : ℕ) (p : Placed) → Runs (Step kind) h s order t → At order i p
    → (call : Call) × (from : State) × (next : State) × IsCall h p.at call × Step kind from call next p.reply
step_there kind h s t [] i p run there = absurd there
step_there kind h s t (q ∷ order) zero p run there = (run.0, s, run.1, subst (λ (x : Placed). IsCall h x.at run.0) there run.2, subst (λ (x : Placed). Step kind s run.0 run.1 x.reply) there run.3)
step_there kind h s t (q ∷ order) (suc i) p run there = step_there kind h run.1 t order i p run.4 there

module _ (kind : Kind) (h : List Event) (order : List Placed) (legal : IsLegalOrderAs kind h order) where
  pub not_failed : (i : ℕ) (p : Placed) → At order i p → IsFailed h p.at → ⊥
  not_failed i p there = All-contains (λ (x : Placed). IsFailed h x.at → ⊥) order p legal.order_of.none_failed (stands_in order i p there)

  -- an ok operation stands somewhere, with its reply
  pub ok_there : (at end : ℕ) (reply : Reply) → IsOk h at end reply → (i : ℕ) × At order i (record { at = at; reply = reply })
  ok_there at end reply ok = place_of order (record { at = at; reply = reply }) (legal.order_of.each_ok at end reply tt ok)

  pub reply_there : (i : ℕ) (p : Placed) → At order i p → (end : ℕ) (reply : Reply) → IsOk h p.at end reply → p.reply ≡ reply
  reply_there i p there end reply ok =
      one_reply order legal.order_of.once p (record { at = p.at; reply = reply }) (stands_in order i p there) (legal.order_of.each_ok p.at end reply tt ok) refl

  -- an operation stands at one place
  pub one_place : (i j : ℕ) (p q : Placed) → At order i p → At order j q → p.at ≡ q.at → i ≡ j
  one_place i j p q at_p at_q same = elim (cases_order i j) [
    | inl equal ↦ equal
    | inr differ ↦ elim differ [
      | inl less ↦ absurd (pair_there (λ x y. x.at ≢ y.at) order i j p q legal.order_of.once at_p at_q less same)
      | inr more ↦ absurd (pair_there (λ x y. x.at ≢ y.at) order j i q p legal.order_of.once at_q at_p more (sym same))
    ]
  ]

  -- one that is before another stands ahead of it
  pub stands_ahead : (i j : ℕ) (p q : Placed) → At order i p → At order j q → IsBefore h p.at q.at → i < j
  stands_ahead i j p q at_p at_q before = elim (cases_order i j) [
    | inl equal ↦
        let same : p ≡ q = one_there order j p q (subst (λ k. At order k p) equal at_p) at_q in
        let late : before.0 < p.at = subst (λ (x : Placed). before.0 < x.at) (sym same) before.3 in
        let ends = before.2.1.later in
        absurd (omega (arith, late, ends))
    | inr differ ↦ elim differ [
      | inl less ↦ less
      | inr more ↦ absurd (pair_there (λ x y. IsBefore h y.at x.at → ⊥) order j i q p legal.order_of.real_time at_q at_p more before)
    ]
  ]
