-- One more event: what a debtor becomes that follows a legal order.
use Rattle.std.proofs.Common.{◌≡◌, ◌≢◌, ℕ, ◌<◌, suc, List, Contains, AllPairs, ◌⊎◌, inl, inr, sym, ap, subst, ◌∙◌, arith}
use Rattle.std.proofs.lemmas.Bool.{cases_order}
use Rattle.lin_events.specs.declared.events.Body.TheVariants.{Invoke, Ok}
use Rattle.lin_events.specs.declared.events.Event.{Event}
use Rattle.lin_events.specs.declared.calls.Call.{Call}
use Rattle.lin_events.specs.declared.calls.Name.{Name}
use Rattle.lin_events.specs.declared.calls.Reply.{Reply}
use Rattle.lin_events.specs.declared.calls.Reply.TheVariants.{Done, Value}
use Rattle.lin_events.specs.declared.calls.Val.TheVariants.{Nil, Item as Held}
use Rattle.lin_events.specs.Operations.{IsEvent, IsOperation, IsOk}
use Rattle.lin_order.specs.declared.placed.Placed.{Placed}
use Rattle.lin_order.specs.Orders.{IsOrder, Places}
use Rattle.lin_order.specs.lemmas.OneEnd.{one_event}
use Rattle.lin_order.specs.lemmas.Again.{operation_of}
use Rattle.lin_queues.specs.Debts.{Debtor, Stands, Takes, IsAhead, IsOkWithin, Follows}
use Rattle.lin_queues.proofs.DebtLists.{stands, contains}
use Rattle.lin_queues.proofs.DebtsTaking.{one_said, stands_before}
use Rattle.lin_queues.proofs.Events.{ok_later, ok_earlier, ok_cases, ok_now, not_yet}

-- what an operation stands as
pub places_stands : (order : List Placed) (at : ℕ) (reply : Reply) → Places order at reply → (i : ℕ) × Stands order i at reply
places_stands order at reply there = stands order (record { at = at; reply = reply }) there

module _ (whole : List Event) (order : List Placed) (is : IsOrder whole order) where
  pub one_answer : (at : ℕ) (r s : Reply) → Places order at r → Places order at s → r ≡ s
  one_answer at r s there again =
      let i = places_stands order at r there in
      let j = places_stands order at s again in
      one_said whole order is i.0 j.0 at r s i.1 j.1

  pub takes_as : (x e : ℕ) (t : Takes order x e) → Places order x (Value (Held t.item))
  takes_as x e t = contains order t.taken _ t.dequeued

  pub taken_as : (x e : ℕ) → Takes order x e → Places order e Done
  taken_as x e t = contains order t.put _ t.enqueued

  -- what has another reply takes nothing
  pub idle_done : (x : ℕ) → Places order x Done → (e : ℕ) → Takes order x e → ⊥
  idle_done x there e t = differ (one_answer x _ _ there (takes_as x e t))
    where
      differ : Done ≡ Value (Held t.item) → ⊥
      differ e = cc

  pub idle_nil : (x : ℕ) → Places order x (Value Nil) → (e : ℕ) → Takes order x e → ⊥
  idle_nil x there e t = let same = one_answer x _ _ there (takes_as x e t) in differ same
    where
      differ : Value Nil ≡ Value (Held t.item) → ⊥
      differ e = cc

module _ (whole : List Event) (order : List Placed) (is : IsOrder whole order) (n : ℕ) (d : Debtor) (follows : Follows whole order n d) (event : Event) (there : IsEvent whole n event)
    (never : (name : Name) (reply : Reply) → event.body ≡ Ok name reply → ⊥) where
  -- an event that makes nothing ok changes nothing
  pub follows_quiet : Follows whole order (suc n) d
  follows_quiet = record {
    each = λ e placed ok. elim (follows.each e placed (earlier e ok)) [
      | inl inside ↦ inl inside
      | inr other ↦ elim other [
        | inl owed ↦ inr (inl owed)
        | inr taken ↦ inr (inr (taken.0, ok_later whole n taken.0 taken.1, taken.2))
      ]
    ];
    inside_ok = λ e inside. let was = follows.inside_ok e inside in (ok_later whole n e was.0, was.1);
    inside_left = λ e z inside ok takes. follows.inside_left e z inside (earlier z ok) takes;
    inside_free = follows.inside_free;
    debts_once = follows.debts_once;
    debts_ok = λ e t owed. ok_later whole n e (follows.debts_ok e t owed);
    debts_owed = λ e t owed. let o = follows.debts_owed e t owed in (o.0, o.1, o.2, omega (arith, o.3), λ ok. o.4 (earlier o.0 ok));
    early_taken = λ e early. let was = follows.early_taken e early in ((λ ok. was.0 (earlier e ok)), (was.1.0, ok_later whole n was.1.0 was.1.1, was.1.2));
    early_each = λ e z not_ok ok takes. follows.early_each e z (λ was. not_ok (ok_later whole n e was)) (earlier z ok) takes;
    found_nothing = λ y below placed. elim (cases_order y n) [
      | inl here ↦ inr (λ e inside. ahead e y here placed inside)
      | inr differ ↦ elim differ [
        | inl less ↦ follows.found_nothing y less placed
        | inr more ↦ absurd (omega (arith, more, below))
      ]
    ];
    returned_nothing = λ y ok placed. follows.returned_nothing y (earlier y ok) placed;
  }
    where
      earlier : (at : ℕ) → IsOkWithin whole (suc n) at → IsOkWithin whole n at
      earlier = ok_earlier whole n event there never

      ahead : (e y : ℕ) → y ≡ n → Places order y (Value Nil) → Contains d.inside e → IsAhead order e y
      ahead e y here placed inside =
          let was = follows.inside_ok e inside in
          let at_e = places_stands order e Done was.1 in
          let at_y = places_stands order y (Value Nil) placed in
          record {
            first_at = at_e.0;
            then_at = at_y.0;
            first_reply = Done;
            then_reply = Value Nil;
            first_stands = at_e.1;
            then_stands = at_y.1;
            ahead = stands_before whole order is at_e.0 at_y.0 e y Done (Value Nil) at_e.1 at_y.1 (was.0.0, was.0.1, was.0.2, omega (arith, was.0.3, here));
          }

module _ (whole : List Event) (order : List Placed) (is : IsOrder whole order) (n x : ℕ) (reply : Reply) (ok : IsOk whole x n reply) where
  -- a completion is no operation
  pub not_now : (y : ℕ) (r : Reply) → Places order y r → y < suc n → y < n
  not_now y r there below = elim (cases_order y n) [
    | inl here ↦
        let op = operation_of whole order is (record { at = y; reply = r }) there in
        let moved = subst (λ k. IsOperation whole k op.1.0 op.1.1 op.0) here op.1.2 in
        let body = ap (λ (v : Event). v.body) (one_event whole n _ ok.0 moved ok.1.ends) ∙ ok.3 in
        absurd (differ body)
    | inr other ↦ elim other [
      | inl less ↦ less
      | inr more ↦ absurd (omega (arith, more, below))
    ]
  ]
    where
      differ : {c : Call} {name : Name} {reply : Reply} → Invoke c ≡ Ok name reply → ⊥
      differ e = cc

  module _ (d next : Debtor) (follows : Follows whole order n d) where
    -- an ok of x changes what x takes, and whether x is put
    pub follows_ok : ((f : ℕ) → Contains d.inside f → Contains next.inside f ⊎ Takes order x f)
        → ((f : ℕ) → Contains next.inside f → (Contains d.inside f × (Takes order x f → ⊥)) ⊎ ((f ≡ x) × Places order x Done × (Contains d.early x → ⊥)))
        → ((f t : ℕ) → Contains d.debts (f, t) → Contains next.debts (f, t) ⊎ Takes order x f)
        → ((f t : ℕ) → Contains next.debts (f, t) → Contains d.debts (f, t) × (Takes order x f → ⊥))
        → AllPairs (λ (p : ℕ × ℕ) (q : ℕ × ℕ). p.0 ≢ q.0) next.debts
        → (Places order x Done → Contains next.inside x ⊎ Contains d.early x)
        → ((f : ℕ) → Contains d.early f → (f ≡ x → ⊥) → Contains next.early f)
        → ((f : ℕ) → Contains next.early f → (f ≡ x → ⊥) × (Contains d.early f ⊎ (Takes order x f × (IsOkWithin whole n f → ⊥))))
        → ((f : ℕ) → Takes order x f → (IsOkWithin whole n f → ⊥) → Contains next.early f)
        → ((y : ℕ) → y < n → Places order y (Value Nil) → (y < next.emptied) ⊎ ((f : ℕ) → Contains next.inside f → IsAhead order f y))
        → ((y : ℕ) → (IsOkWithin whole n y ⊎ (y ≡ x)) → Places order y (Value Nil) → y < next.emptied)
        → Follows whole order (suc n) next
    follows_ok in_to in_from debts_to debts_from once put_x early_to early_from early_new nothing returned = record {
      each = λ e placed within. elim (ok_cases whole n x reply ok e within) [
        | inl old ↦ elim (follows.each e placed old) [
          | inl inside ↦ elim (in_to e inside) [
            | inl stays ↦ inl stays
            | inr takes ↦ inr (inr (x, now, takes))
          ]
          | inr other ↦ elim other [
            | inl owed ↦ elim (debts_to e owed.0 owed.1) [
              | inl stays ↦ inr (inl (owed.0, stays))
              | inr takes ↦ inr (inr (x, now, takes))
            ]
            | inr taken ↦ inr (inr (taken.0, ok_later whole n taken.0 taken.1, taken.2))
          ]
        ]
        | inr new ↦ elim (put_x (subst (λ k. Places order k Done) new placed)) [
          | inl inside ↦ inl (subst (Contains next.inside) (sym new) inside)
          | inr early ↦
              let was = (follows.early_taken x early).1 in
              inr (inr (was.0, ok_later whole n was.0 was.1, subst (Takes order was.0) (sym new) was.2))
        ]
      ];
      inside_ok = λ e inside. elim (in_from e inside) [
        | inl old ↦ let was = follows.inside_ok e old.0 in (ok_later whole n e was.0, was.1)
        | inr new ↦ (subst (IsOkWithin whole (suc n)) (sym new.0) now, subst (λ k. Places order k Done) (sym new.0) new.1)
      ];
      inside_left = λ e z inside within takes. elim (in_from e inside) [
        | inl old ↦ elim (ok_cases whole n x reply ok z within) [
          | inl was ↦ follows.inside_left e z old.0 was takes
          | inr same ↦ old.1 (subst (λ k. Takes order k e) same takes)
        ]
        | inr new ↦ elim (ok_cases whole n x reply ok z within) [
          | inl was ↦ new.2 (follows.early_each x z (not_yet whole n x reply ok) was (subst (Takes order z) new.0 takes))
          | inr same ↦ idle_done whole order is x new.1 e (subst (λ k. Takes order k e) same takes)
        ]
      ];
      inside_free = λ e t inside owed. elim (in_from e inside) [
        | inl old ↦ follows.inside_free e t old.0 (debts_from e t owed).0
        | inr new ↦ not_yet whole n x reply ok (subst (IsOkWithin whole n) new.0 (follows.debts_ok e t (debts_from e t owed).0))
      ];
      debts_once = once;
      debts_ok = λ e t owed. ok_later whole n e (follows.debts_ok e t (debts_from e t owed).0);
      debts_owed = λ e t owed.
          let from = debts_from e t owed in
          let o = follows.debts_owed e t from.0 in (
            o.0,
            o.1,
            o.2,
            omega (arith, o.3),
            λ within. elim (ok_cases whole n x reply ok o.0 within) [
              | inl was ↦ o.4 was
              | inr same ↦ from.1 (subst (λ k. Takes order k e) same o.1)
            ],
          );
      early_taken = λ e early.
          let from = early_from e early in
          elim from.1 [
            | inl old ↦
                let was = follows.early_taken e old in
                (still e was.0 from.0, (was.1.0, ok_later whole n was.1.0 was.1.1, was.1.2))
            | inr new ↦ (still e new.1 from.0, (x, now, new.0))
          ];
      early_each = λ e z not_ok within takes. elim (ok_cases whole n x reply ok z within) [
        | inl was ↦ early_to e (follows.early_each e z (λ k. not_ok (ok_later whole n e k)) was takes) (λ same. not_ok (subst (IsOkWithin whole (suc n)) (sym same) now))
        | inr same ↦ early_new e (subst (λ k. Takes order k e) same takes) (λ k. not_ok (ok_later whole n e k))
      ];
      found_nothing = λ y below placed. nothing y (not_now y (Value Nil) placed below) placed;
      returned_nothing = λ y within placed. returned y (ok_cases whole n x reply ok y within) placed;
    }
      where
        now : IsOkWithin whole (suc n) x
        now = ok_now whole n x reply ok

        still : (e : ℕ) → (IsOkWithin whole n e → ⊥) → (e ≡ x → ⊥) → IsOkWithin whole (suc n) e → ⊥
        still e never other within = elim (ok_cases whole n x reply ok e within) [
          | inl was ↦ never was
          | inr same ↦ other same
        ]
