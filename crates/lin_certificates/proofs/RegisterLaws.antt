-- Registers have no legal order of operations that a certificate holds of.
use Rattle.std.proofs.Common.{◌≡◌, ◌<◌, ◌≤◌, ℕ, List, Option, None, Some, inl, inr, refl, sym, subst, ◌∙◌, arith}
use Rattle.std.proofs.lemmas.Bool.{cases_order}
use Rattle.lin_events.specs.declared.items.Item.{Item}
use Rattle.lin_events.specs.declared.calls.Call.{Call}
use Rattle.lin_events.specs.declared.calls.Call.TheVariants.{Read}
use Rattle.lin_events.specs.declared.calls.Reply.TheVariants as Replied
use Rattle.lin_events.specs.declared.calls.Val.{Val}
use Rattle.lin_events.specs.declared.calls.Val.TheVariants.{Nil, Item as Held}
use Rattle.lin_events.specs.declared.events.Event.{Event}
use Rattle.lin_objects.specs.declared.kinds.Kind.{Kind}
use Rattle.lin_objects.specs.Steps.{Step, start}
use Rattle.lin_order.specs.declared.placed.Placed.{Placed}
use Rattle.lin_order.specs.Linearizable.{IsLegalOrderAs}
use Rattle.lin_order.specs.Orders.{IsBefore, IsCall}
use Rattle.lin_order.specs.lemmas.OneEnd.{one_call}
use Rattle.lin_certificates.specs.Conflicts.{IsRegister, Leaves}
use Rattle.lin_certificates.specs.lemmas.Conflicting.{found}
use Rattle.lin_certificates.specs.lemmas.Overwriting.{NoneAhead, Seat, UpdatesAt, another, one_value, seat, updates_at}
use Rattle.lin_certificates.specs.Words.{Gives, Needs, Returned}
use Rattle.lin_certificates.specs.Certificates.{AreCrossed, CanLeave, HasSource, IsLeftOnce, IsOverwritten, IsUnwritten, Overwrites, Touched, Touches}
use Rattle.lin_certificates.specs.declared.words.ReadSort.TheVariants as Sorted
use Rattle.lin_certificates.proofs.Numbers.{the_one}
use Rattle.lin_certificates.specs.lemmas.Standing.{At, not_failed, ok_there, one_place, stands_ahead, step_there}

nil_alone : (v : Val) (n : Item) → Nil ≡ v → v ≡ Held n → ⊥
nil_alone v n nil some = let both = nil ∙ some in apart both
  where
    apart : Nil ≡ Held n → ⊥
    apart e = cc

module _ (kind : Kind) (is_register : IsRegister kind) (h : List Event) where
  module _ (order : List Placed) (legal : IsLegalOrderAs kind h order) where
    seated : (v : Val) (at : ℕ) → Returned h (λ call reply. Needs call reply v) at → Seat kind is_register h order legal v at
    seated v at is = seat kind is_register h order legal v at is

    can_leave : (v : Val) (j : ℕ) (q : Placed) (c : Call) → At order j q → IsCall h q.at c → Leaves c v → CanLeave h v q.at
    can_leave v j q c there is leaves = (c, is, not_failed kind h order legal j q there, leaves)

    -- an item that no other operation leaves can't be needed
    pub unwritten : (at : ℕ) (n : Item) → IsUnwritten h at n → ⊥
    unwritten at n is =
        let s = seated (Held n) at is.0 in
        elim s.4 [
          | inl left ↦ is.1 left.1.at (another kind is_register h order legal s.0 left.0 s.1 left.1 at s.2 s.3 left.4 left.3, can_leave (Held n) left.0 left.1 left.2 left.4 left.5 left.6)
          | inr none ↦ nil_alone (Held n) n none.0 refl
        ]

    -- an operation that overwrites stands ahead
    over_ahead : (at i : ℕ) (p : Placed) → At order i p → p.at ≡ at → (over : ℕ) → Overwrites h at over → (k : ℕ) × (k < i) × (q : Placed) × At order k q × (q.at ≡ over) × UpdatesAt kind is_register h order k
    over_ahead at i p there is over overwrites =
        let q : Placed = record { at = over; reply = overwrites.0.2 } in
        let place = ok_there kind h order legal over overwrites.0.1 overwrites.0.2 overwrites.0.4 in
        let less = stands_ahead kind h order legal place.0 i q p place.1 there (subst (λ x. IsBefore h over x) (sym is) overwrites.1) in
        (place.0, less, q, place.1, refl, (q, overwrites.0.0, place.1, overwrites.0.3, overwrites.0.5))

    -- nor one that was overwritten
    pub overwritten : (at : ℕ) (v : Val) → IsOverwritten h at v → ⊥
    overwritten at v is =
        let s = seated v at is.needed in
        elim s.4 [
          | inl left ↦
              let over = is.each left.1.at (another kind is_register h order legal s.0 left.0 s.1 left.1 at s.2 s.3 left.4 left.3, can_leave v left.0 left.1 left.2 left.4 left.5 left.6) in
              let ahead = over_ahead at s.0 s.1 s.2 s.3 over.0 over.1 in
              let behind = stands_ahead kind h order legal left.0 ahead.0 left.1 ahead.2 left.4 ahead.3 (subst (λ x. IsBefore h left.1.at x) (sym ahead.4) over.2) in
              left.7 ahead.0 behind ahead.1 ahead.5
          | inr none ↦
              let over : (over : ℕ) × Overwrites h at over = subst (HasSource h at) (sym none.0) is.source in
              let ahead = over_ahead at s.0 s.1 s.2 s.3 over.0 over.1 in
              none.1 ahead.0 ahead.1 ahead.5
        ]

    -- the one that leaves the value stands at the first place, one that touches it at the second or there too, and no update between
    abbrev HeldThere : Val → ℕ → Type 0
    HeldThere v at = (i : ℕ) × (p : Placed) × At order i p × (p.at ≡ at) × (j : ℕ) × (q : Placed) × (c : Call) × At order j q × IsCall h q.at c × Leaves c v × (j ≤ i) × ((k : ℕ) → j < k → k < i → UpdatesAt kind is_register h order k → ⊥)

    itself : (v : Val) (at i : ℕ) (p : Placed) (c : Call) → At order i p → p.at ≡ at → IsCall h p.at c → Leaves c v → HeldThere v at
    itself v at i p c there is call leaves = (i, p, there, is, i, p, c, there, call, leaves, omega arith, λ k more less updates. omega (arith, more, less))

    touched : (n : Item) (at : ℕ) → Touched h (Held n) at → HeldThere (Held n) at
    touched n at is = elim is.5 [
      | inl needs ↦
          let s = seated (Held n) at (is.0, is.1, is.2, is.3, is.4, needs) in
          elim s.4 [
            | inl left ↦ (s.0, s.1, s.2, s.3, left.0, left.1, left.2, left.4, left.5, left.6, omega (arith, left.3), left.7)
            | inr none ↦ absurd (nil_alone (Held n) n none.0 refl)
          ]
      | inr leaves ↦
          let place = ok_there kind h order legal at is.1 is.2 is.4 in
          itself (Held n) at place.0 (record { at = at; reply = is.2 }) is.0 place.1 refl is.3 leaves
    ]

    touches : (n : Item) (at : ℕ) → IsLeftOnce h (Held n) → Touches h (Held n) at → HeldThere (Held n) at
    touches n at only is = elim is [
      | inl ok ↦ touched n at ok
      | inr still ↦
          let other = touched n still.1.0 still.1.1 in
          let same = the_one (CanLeave h (Held n)) only other.5.at at (can_leave (Held n) other.4 other.5 other.6 other.7 other.8 other.9) still.0 in
          itself (Held n) at other.4 other.5 other.6 other.7 same other.8 other.9
    ]

    -- where nothing leaves nil, no update stands ahead of one that touches it
    touches_nil : (at : ℕ) → ((other : ℕ) → CanLeave h Nil other → ⊥) → Touches h Nil at → (i : ℕ) × (p : Placed) × At order i p × (p.at ≡ at) × NoneAhead kind is_register h order i
    touches_nil at never is = elim is [
      | inl ok ↦ elim ok.5 [
        | inl needs ↦
            let s = seated Nil at (ok.0, ok.1, ok.2, ok.3, ok.4, needs) in
            elim s.4 [
              | inl left ↦ absurd (never left.1.at (can_leave Nil left.0 left.1 left.2 left.4 left.5 left.6))
              | inr none ↦ (s.0, s.1, s.2, s.3, none.1)
            ]
        | inr leaves ↦
            let place = ok_there kind h order legal at ok.1 ok.2 ok.4 in
            absurd (never at (can_leave Nil place.0 (record { at = at; reply = ok.2 }) ok.0 place.1 ok.3 leaves))
      ]
      | inr still ↦ absurd (never at still.0)
    ]

    updates : (v : Val) (at : ℕ) (x : HeldThere v at) → UpdatesAt kind is_register h order x.4
    updates v at x = updates_at kind is_register h order legal x.4 x.5 x.6 v x.7 x.8 x.9

    -- where the one was left ahead of the other, nothing that touches the other is before what touches the one
    in_turn : (v w : Val) (early late : ℕ) (a : HeldThere v late) (b : HeldThere w early) → a.4 < b.4 → IsBefore h early late → ⊥
    in_turn v w early late a b less in_time =
        let ahead = stands_ahead kind h order legal b.0 a.0 b.1 a.1 b.2 a.2 (subst (λ x. IsBefore h x a.1.at) (sym b.3) (subst (IsBefore h early) (sym a.3) in_time)) in
        let inside = b.10 in
        a.11 b.4 less (omega (arith, ahead, inside)) (updates w early b)

    pub crossed : (v : Val) (w : Item) (early late : ℕ) (back : Option (ℕ × ℕ)) → AreCrossed h v w early late back → ⊥
    crossed Nil w early late None is =
        let turn = is.in_turn in
        let b = touches w early turn.0 turn.1 in
        let a = touches_nil late is.again turn.2 in
        let ahead = stands_ahead kind h order legal b.0 a.0 b.1 a.1 b.2 a.2 (subst (λ x. IsBefore h x a.1.at) (sym b.3) (subst (IsBefore h early) (sym a.3) turn.3)) in
        let inside = b.10 in
        a.4 b.4 (omega (arith, ahead, inside)) (updates (Held w) early b)
    crossed (Held v) w early late (Some pair) is =
        let turn = is.in_turn in
        let more = is.again in
        let b = touches w early turn.0 turn.1 in
        let a = touches v late more.0 turn.2 in
        let c = touches v pair.0 more.0 more.1 in
        let e = touches w pair.1 turn.0 more.2 in
        let one_a = one_leaver v late pair.0 more.0 a c in
        let one_b = one_leaver w early pair.1 turn.0 b e in
        elim (cases_order a.4 b.4) [
          | inl equal ↦ is.differ (one_value kind is_register h order legal a.4 b.4 a.5 b.5 a.6 b.6 (Held v) (Held w) equal a.7 b.7 a.8 b.8 a.9 b.9)
          | inr differ ↦ elim differ [
            | inl less ↦ in_turn (Held v) (Held w) early late a b less turn.3
            | inr other ↦ in_turn (Held w) (Held v) pair.0 pair.1 e c (omega (arith, one_a, one_b, other)) more.3
          ]
        ]
      where
        one_leaver : (n : Item) (x y : ℕ) → IsLeftOnce h (Held n) → (p : HeldThere (Held n) x) (q : HeldThere (Held n) y) → p.4 ≡ q.4
        one_leaver n x y only p q =
            one_place kind h order legal p.4 q.4 p.5 q.5 p.7 q.7
            (the_one (CanLeave h (Held n)) only p.5.at q.5.at (can_leave (Held n) p.4 p.5 p.6 p.7 p.8 p.9) (can_leave (Held n) q.4 q.5 q.6 q.7 q.8 q.9))
    crossed Nil w early late (Some pair) is = absurd is.again
    crossed (Held v) w early late None is = absurd is.again

    -- a read of a register gives a value
    pub no_members : (at : ℕ) → Returned h (λ call reply. Gives Sorted.Members call reply) at → ⊥
    no_members at is =
        let p : Placed = record { at = at; reply = is.2 } in
        let place = ok_there kind h order legal at is.1 is.2 is.4 in
        let step = step_there kind h (start kind) legal.legal.0 order place.0 p legal.legal.1 place.1 in
        let call : step.0 ≡ Read = one_call h at step.0 is.0 step.3 is.3 ∙ is.5.0 in
        let at_read = found kind is_register step.1 step.2 is.2 (subst (λ c. Step kind step.1 c step.2 is.2) call step.4) in
        apart is.5.1.0 at_read.0 (sym is.5.1.1 ∙ at_read.3)
      where
        apart : (s : List Item) (x : Val) → Replied.Members s ≡ Replied.Value x → ⊥
        apart s x e = cc
