-- One operation tried at one configuration.
use Rattle.std.proofs.Common.{◌≡◌, ◌≢◌, ℕ, ◌+◌, ◌≤◌, Bool, false, AllPairs, List, [], ◌∷◌, ◌++◌, length, length-append, Contains, inl, inr, refl, sym, ap, subst, arith}
use Rattle.lin_events.specs.declared.calls.Call.{Call}
use Rattle.lin_events.specs.declared.calls.Reply.{Reply}
use Rattle.lin_objects.specs.Overwriting.{IsOverwriting}
use Rattle.lin_order.specs.declared.placed.Placed.{Placed}
use Rattle.lin_frontier.specs.declared.pending.Open.{Open}
use Rattle.lin_frontier.specs.Placing.{insert_pair, IsAbsent, PlacesOne, IsTried}
use Rattle.lin_frontier.specs.lemmas.Trying.{IsTrying, trying_end}

-- one more outcome, and one step less to turn into one
pub counted_step : {A C : Type 0} (more rest : List A) (x : A) (now then' : List C) (y : C) (total : ℕ) → more ≡ rest ++ x ∷ [] → then' ≡ now ++ y ∷ [] → length now + length more ≡ total → length then' + length rest ≡ total
counted_step more rest x now then' y total popped pushed counted = omega (arith, ap length popped, ap length pushed, length-append rest (x ∷ []), length-append now (y ∷ []), counted)

module _ {S : Type 0} (step : S → Call → S → Reply → Type 0) (o : Open) (c : S × List (ℕ × Reply)) where
  pub tried_end : (old : List ((S × List (ℕ × Reply)) × Placed)) (rest : List (S × Reply)) (now : List ((S × List (ℕ × Reply)) × Placed))
      → IsAbsent o.process c.1 → length rest ≡ 0
      → IsTrying (λ a. step c.0 o.call a.0 a.1) (λ a. ((a.0, insert_pair o.process a.1 c.1), (record { at = o.at; reply = a.1 }))) old rest now → IsTried (PlacesOne step o c) old now
  tried_end old rest now absent none h = record {
    kept = h.kept;
    sound = λ x there. elim (h.sound x there) [
      | inl before ↦ inl before
      | inr s ↦ inr (subst (λ (y : (S × List (ℕ × Reply)) × Placed). PlacesOne step o c y.1 y.0) (sym s.2) (record { absent = absent; at = refl; steps = s.1; placed = refl }))
    ];
    complete = λ l t p. subst (Contains now) (λ i. ((t.0, sym p.placed i), (record { at = sym p.at i; reply = l.reply })))
        (trying_end (λ (a : S × Reply). step c.0 o.call a.0 a.1) (λ (a : S × Reply). ((a.0, insert_pair o.process a.1 c.1), (record { at = o.at; reply = a.1 }))) old rest now none h (t.0, l.reply) p.steps);
  }

-- of steps that are all the same and that stand once there is one at most
pub only_one : {A : Type 0} (xs : List A) → AllPairs (λ x y. x ≢ y) xs → ((x y : A) → Contains xs x → Contains xs y → x ≡ y) → length xs ≤ 1
only_one [] once same = omega arith
only_one (x ∷ []) once same = omega arith
only_one (x ∷ y ∷ ys) once same = absurd (once 0 1 x (omega arith) (omega arith) (same x y (0, omega arith, refl) (1, omega arith, refl)))

-- where the object is overwritten, a call that isn't treated as an observer has one step at most
pub one_step : {S : Type 0} {start : S} (step : S → Call → S → Reply → Type 0) (observes : Call → Bool) (state : S) (call : Call) (steps : List (S × Reply)) → IsOverwriting start step observes → observes call ≡ false
    → ((next : S) (reply : Reply) → Contains steps (next, reply) → step state call next reply) → AllPairs (λ x y. x ≢ y) steps → length steps ≤ 1
one_step step observes state call steps overwritten update sound once = only_one steps once (λ x y in_x in_y.
    let only = (overwritten call update state state x.0 x.1 (sound x.0 x.1 in_x)).1 y.0 y.1 (sound y.0 y.1 in_y) in
    sym (λ i. (only.0 i, only.1 i)))
