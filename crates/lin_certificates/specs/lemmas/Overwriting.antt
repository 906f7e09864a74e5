-- Registers have no legal order where what an operation needs is stale.
use Rattle.std.proofs.Common.{◌≡◌, ◌≢◌, ◌⊎◌, ◌<◌, ℕ, zero, suc, List, [], ◌∷◌, inl, inr, refl, sym, ap, subst, ◌∙◌, arith}
use Rattle.std.proofs.lemmas.Bool.{cases_order}
use Rattle.lin_events.specs.declared.calls.Call.{Call}
use Rattle.lin_events.specs.declared.calls.Call.TheVariants.{Read, Write, Cas}
use Rattle.lin_events.specs.declared.calls.Reply.{Reply}
use Rattle.lin_events.specs.declared.calls.Reply.TheVariants as Replied
use Rattle.lin_events.specs.declared.calls.Val.{Val}
use Rattle.lin_events.specs.declared.calls.Val.TheVariants.{Nil}
use Rattle.lin_events.specs.declared.events.Event.{Event}
use Rattle.lin_objects.specs.declared.kinds.Kind.{Kind}
use Rattle.lin_objects.specs.declared.kinds.Kind.TheVariants.{Register, CasRegister}
use Rattle.lin_objects.specs.declared.states.State.{State}
use Rattle.lin_objects.specs.declared.states.State.TheVariants.{Value}
use Rattle.lin_objects.specs.Steps.{Step, start}
use Rattle.lin_order.specs.declared.placed.Placed.{Placed}
use Rattle.lin_order.specs.Linearizable.{IsLegalOrderAs, Runs}
use Rattle.lin_order.specs.Orders.{IsBefore, IsCall}
use Rattle.lin_order.specs.lemmas.OneEnd.{one_call}
use Rattle.lin_certificates.specs.Conflicts.{IsRegister, Leaves}
use Rattle.lin_certificates.specs.Words.{Needs, Returned, Updates}
use Rattle.lin_certificates.specs.Certificates.{IsStale, OtherCanLeave}
use Rattle.lin_certificates.specs.lemmas.Conflicting.{found, no_other, set, value_is, wrote}
use Rattle.lin_certificates.specs.lemmas.Standing.{At, not_failed, ok_there, one_place, stands_ahead, one_there}

same_value : (x y : Val) → Replied.Value x ≡ Replied.Value y → x ≡ y
same_value x y e = cc

-- the register holds what the call needs
needed : (kind : Kind) → IsRegister kind → (s next : State) (call : Call) (reply : Reply) (v : Val) → Step kind s call next reply → Needs call reply v → s ≡ Value v
needed kind is s next Read (Replied.Value x) v step needs = let at = found kind is s next (Replied.Value x) step in at.1 ∙ ap Value (sym (same_value x at.0 at.3) ∙ needs)
needed CasRegister is (Value y) next (Cas from to) reply v step needs = ap Value (step.0 ∙ needs)
needed CasRegister is s next (Cas from to) reply v step needs = absurd step
needed Register is (Value y) next (Cas from to) reply v step needs = absurd step
needed Register is s next (Cas from to) reply v step needs = absurd step
needed kind is s next (Cas from to) reply v step needs = absurd is
needed kind is s next call reply v step needs = absurd needs

-- a call leaves what the register holds behind it, or leaves nothing and changes nothing
effect : (kind : Kind) → IsRegister kind → (s next : State) (call : Call) (reply : Reply) (v : Val) → Step kind s call next reply → next ≡ Value v → Leaves call v ⊎ ((s ≡ Value v) × (Updates call → ⊥))
effect kind is s next Read reply v step holds = let at = found kind is s next reply step in inr (at.1 ∙ sym at.2 ∙ holds, λ updates. updates.1)
effect kind is s next (Write w) reply v step holds = inl (value_is w v (sym (wrote kind is s next w reply step) ∙ holds))
effect kind is s next (Cas from to) reply v step holds = inl (value_is to v (sym (set kind is s next from to reply step) ∙ holds))
effect kind is s next call reply v step holds = absurd (no_other kind is s next call reply tt step)

-- it leaves one value
leaves_one : (call : Call) (v w : Val) → Leaves call v → Leaves call w → v ≡ w
leaves_one (Write x) v w left other = sym left ∙ other
leaves_one (Cas from to) v w left other = sym left ∙ other
leaves_one call v w left other = absurd left

starts_nil : (kind : Kind) → IsRegister kind → start kind ≡ Value Nil
starts_nil Register is = refl
starts_nil CasRegister is = refl
starts_nil kind is = absurd is

module _ (kind : Kind) (is_register : IsRegister kind) (h : List Event) where
  -- an operation that leaves some value stands there
  abbrev pub UpdatesAt : List Placed → ℕ → Type 0
  UpdatesAt order k = (q : Placed) × (c : Call) × At order k q × IsCall h q.at c × Updates c

  -- an operation that leaves the value stands ahead of the place, and no other update between
  abbrev pub LeftAhead : List Placed → Val → ℕ → Type 0
  LeftAhead order v i = (j : ℕ) × (q : Placed) × (c : Call) × (j < i) × At order j q × IsCall h q.at c × Leaves c v × ((k : ℕ) → j < k → k < i → UpdatesAt order k → ⊥)

  abbrev pub NoneAhead : List Placed → ℕ → Type 0
  NoneAhead order i = (k : ℕ) → k < i → UpdatesAt order k → ⊥

  -- what an operation needs was left ahead of it, or the register began with it
  pub sourced : (s t : State) (v : Val) (order : List Placed) (i : ℕ) (p : Placed) (call : Call) → Runs (Step kind) h s order t → At order i p → IsCall h p.at call → Needs call p.reply v
      → LeftAhead order v i ⊎ ((s ≡ Value v) × NoneAhead order i)
  sourced s t v [] i p call run there is needs = absurd there
  sourced s t v (x ∷ order) zero p call run there is needs =
      let at_x : IsCall h x.at call = subst (λ (y : Placed). IsCall h y.at call) (sym there) is in
      let needs_x : Needs run.0 x.reply v = subst (λ c. Needs c x.reply v) (one_call h x.at call run.0 at_x run.2) (subst (λ (y : Placed). Needs call y.reply v) (sym there) needs) in
      inr (needed kind is_register s run.1 run.0 x.reply v run.3 needs_x, λ k less updates. omega (arith, less))
  sourced s t v (x ∷ order) (suc i) p call run there is needs = elim (sourced run.1 t v order i p call run.4 there is needs) [
    | inl left ↦ inl (suc left.0, left.1, left.2, omega (arith, left.3), left.4, left.5, left.6, later left.0 left.7)
    | inr began ↦ elim (effect kind is_register s run.1 run.0 x.reply v run.3 began.0) [
      | inl leaves ↦ inl (0, x, run.0, omega arith, refl, run.2, leaves, first began.1)
      | inr kept ↦ inr (kept.0, none kept.1 began.1)
    ]
  ]
    where
      later : (j : ℕ) → ((k : ℕ) → j < k → k < i → UpdatesAt order k → ⊥) → (k : ℕ) → suc j < k → k < suc i → UpdatesAt (x ∷ order) k → ⊥
      later j between zero more less updates = omega (arith, more)
      later j between (suc k) more less updates = between k (omega (arith, more)) (omega (arith, less)) updates

      first : NoneAhead order i → (k : ℕ) → 0 < k → k < suc i → UpdatesAt (x ∷ order) k → ⊥
      first none_ahead zero more less updates = omega (arith, more)
      first none_ahead (suc k) more less updates = none_ahead k (omega (arith, less)) updates

      none : (Updates run.0 → ⊥) → NoneAhead order i → NoneAhead (x ∷ order) (suc i)
      none not_here none_ahead zero less updates =
          let at_x : IsCall h x.at updates.1 = subst (λ (y : Placed). IsCall h y.at updates.1) (sym updates.2) updates.3 in
          not_here (subst Updates (one_call h x.at updates.1 run.0 at_x run.2) updates.4)
      none not_here none_ahead (suc k) less updates = none_ahead k (omega (arith, less)) updates

  module _ (order : List Placed) (legal : IsLegalOrderAs kind h order) where
    -- the ok operation stands there, and what it needs was left ahead of it, or it is nil and nothing was
    abbrev pub Seat : Val → ℕ → Type 0
    Seat v at = (i : ℕ) × (p : Placed) × At order i p × (p.at ≡ at) × (LeftAhead order v i ⊎ ((Nil ≡ v) × NoneAhead order i))

    pub seat : (v : Val) (at : ℕ) → Returned h (λ call reply. Needs call reply v) at → Seat v at
    seat v at is =
        let p : Placed = record { at = at; reply = is.2 } in
        let place = ok_there kind h order legal at is.1 is.2 is.4 in (
          place.0,
          p,
          place.1,
          refl,
          elim (sourced (start kind) legal.legal.0 v order place.0 p is.0 legal.legal.1 place.1 is.3 is.5) [
            | inl left ↦ inl left
            | inr began ↦ inr (value_is Nil v (sym (starts_nil kind is_register) ∙ began.0), began.1)
          ],
        )

    -- what stands ahead is another operation
    pub another : (i j : ℕ) (p q : Placed) (at : ℕ) → At order i p → p.at ≡ at → At order j q → j < i → q.at ≢ at
    another i j p q at at_p is at_q less same = let equal = one_place kind h order legal i j p q at_p at_q (is ∙ sym same) in omega (arith, equal, less)

    pub updates_at : (j : ℕ) (q : Placed) (c : Call) (v : Val) → At order j q → IsCall h q.at c → Leaves c v → UpdatesAt order j
    updates_at j q c v there is leaves = (q, c, there, is, (v, leaves))

    pub one_value : (i j : ℕ) (p q : Placed) (c d : Call) (v w : Val) → i ≡ j → At order i p → At order j q → IsCall h p.at c → IsCall h q.at d → Leaves c v → Leaves d w → v ≡ w
    one_value i j p q c d v w equal at_p at_q is_c is_d leaves_v leaves_w =
        let same : p ≡ q = one_there order j p q (subst (λ k. At order k p) equal at_p) at_q in
        let call = one_call h q.at c d (subst (λ (z : Placed). IsCall h z.at c) same is_c) is_d in
        leaves_one d v w (subst (λ z. Leaves z v) call leaves_v) leaves_w

    -- each other operation that leaves the value is before the place
    abbrev ArePast : Val → ℕ → ℕ → Type 0
    ArePast v at over = (other : ℕ) → OtherCanLeave h v at other → IsBefore h other over

    -- what was left is ahead of the operation that touches another value
    left_behind : (v : Val) (at over : ℕ) → (s : Seat v at) → (left : LeftAhead order v s.0) → ArePast v at over → (k : ℕ) (p : Placed) → At order k p → p.at ≡ over → left.0 < k
    left_behind v at over s left past k p there is =
        let other : OtherCanLeave h v at left.1.at = (another s.0 left.0 s.1 left.1 at s.2 s.3 left.4 left.3, (left.2, left.5, not_failed kind h order legal left.0 left.1 left.4, left.6)) in
        stands_ahead kind h order legal left.0 k left.1 p left.4 there (subst (λ x. IsBefore h left.1.at x) (sym is) (past left.1.at other))

    -- where an update stands between, what an operation needs is not held any more
    covered : (v : Val) (at over : ℕ) → (s : Seat v at) → ArePast v at over → (k : ℕ) (p : Placed) → At order k p → p.at ≡ over → k < s.0 → UpdatesAt order k → ⊥
    covered v at over s past k p there is ahead updates = elim s.4 [
      | inl left ↦ left.7 k (left_behind v at over s left past k p there is) ahead updates
      | inr none ↦ none.1 k ahead updates
    ]

    -- nor where another value is read between
    apart : (v w : Val) (at over : ℕ) → (w ≡ v → ⊥) → (s : Seat v at) (t : Seat w over) → ArePast v at over → t.0 < s.0 → ⊥
    apart v w at over differ s t past ahead = elim s.4 [
      | inl left ↦
          let behind = left_behind v at over s left past t.0 t.1 t.2 t.3 in
          elim t.4 [
            | inl other ↦ elim (cases_order other.0 left.0) [
              | inl equal ↦ differ (one_value other.0 left.0 other.1 left.1 other.2 left.2 w v equal other.4 left.4 other.5 left.5 other.6 left.6)
              | inr unequal ↦ elim unequal [
                | inl less ↦ other.7 left.0 less behind (updates_at left.0 left.1 left.2 v left.4 left.5 left.6)
                | inr more ↦
                    let inside = other.3 in
                    left.7 other.0 more (omega (arith, inside, ahead)) (updates_at other.0 other.1 other.2 w other.4 other.5 other.6)
              ]
            ]
            | inr none ↦ none.1 left.0 behind (updates_at left.0 left.1 left.2 v left.4 left.5 left.6)
          ]
      | inr began ↦ elim t.4 [
        | inl other ↦
            let inside = other.3 in
            began.1 other.0 (omega (arith, inside, ahead)) (updates_at other.0 other.1 other.2 w other.4 other.5 other.6)
        | inr none ↦ differ (sym none.0 ∙ began.0)
      ]
    ]

    -- the operation that touches another value is before the one that needs this one, and behind all else that leaves it
    pub stale : (at over : ℕ) (v w : Val) → IsStale h at v over w → ⊥
    stale at over v w is =
        let s = seat v at is.needed in
        let t = is.touched in
        let before : IsBefore h over s.1.at = subst (IsBefore h over) (sym s.3) is.in_time in
        elim t.5 [
          | inl needs ↦
              let u = seat w over (t.0, t.1, t.2, t.3, t.4, needs) in
              apart v w at over (λ same. is.differ (sym same)) s u is.each (stands_ahead kind h order legal u.0 s.0 u.1 s.1 u.2 s.2 (subst (λ x. IsBefore h x s.1.at) (sym u.3) before))
          | inr leaves ↦
              let q : Placed = record { at = over; reply = t.2 } in
              let place = ok_there kind h order legal over t.1 t.2 t.4 in
              covered v at over s is.each place.0 q place.1 refl (stands_ahead kind h order legal place.0 s.0 q s.1 place.1 s.2 before)
              (updates_at place.0 q t.0 w place.1 t.3 leaves)
        ]
