-- What is added to offers: the replies of a list of steps, and those of one operation after the other.
use Rattle.std.proofs.Common.{◌≡◌, ℕ, ◌+◌, ◌<◌, ◌≤◌, List, [], ◌∷◌, ◌++◌, length, Contains, inl, inr, sym, ap, subst, arith, get_or, take, Option, Some, None, IfSome, OnOk, true, true≢false}
use Rattle.std.proofs.lemmas.List.{take_all, take_more}
use Rattle.std.proofs.lemmas.List.Elements.{All-contains, Contains-push, Contains-push_cases, Contains-append_left}
use Rattle.std.specs.Option.{is_some}
use Rattle.std.specs.declared.result.Result.{Result}
use Rattle.std.specs.declared.result.Result.TheVariants.{Ok, Err}
use Rattle.lin_events.specs.declared.calls.Call.{Call}
use Rattle.lin_events.specs.declared.calls.Reply.{Reply}
use Rattle.lin_frontier.specs.declared.pending.Open.{Open}
use Rattle.lin_members.specs.Searching.{Gives, IsOffering}
use Rattle.lin_members.specs.inner.Searching.{AreSteps, Told}

-- where there is nothing to offer
pub offering_nothing : (Q : ℕ × Reply → Type 0) (round : ℕ) (now : List (ℕ × (ℕ × Reply))) → ((x : ℕ × Reply) → Q x → ⊥) → IsOffering Q round now now
offering_nothing Q round now never = record { kept = λ x there. there; sound = λ x there. inl there; complete = λ x q. absurd (never x q) }

-- where nothing was on offer either
pub offering_empty : (Q : ℕ × Reply → Type 0) (round : ℕ) (old now : List (ℕ × (ℕ × Reply))) → now ≡ [] → ((x : ℕ × (ℕ × Reply)) → Contains old x → ⊥) → ((x : ℕ × Reply) → Q x → ⊥) → IsOffering Q round old now
offering_empty Q round old now empty none never =
    subst (IsOffering Q round old) (sym empty) (record { kept = λ x there. absurd (none x there); sound = λ x there. absurd (let inside = there.1 in omega arith); complete = λ x q. absurd (never x q) })

-- where it is on offer already
pub offering_there : (pair : ℕ × Reply) (round : ℕ) (now : List (ℕ × (ℕ × Reply))) (found : Option ℕ) → is_some found ≡ true → IfSome found (λ k. Contains now (k, pair)) → IsOffering (λ x. x ≡ pair) round now now
offering_there pair round now None some there = absurd (true≢false (sym some))
offering_there pair round now (Some k) some there = record { kept = λ x here. here; sound = λ x here. inl here; complete = λ x same. (k, subst (λ y. Contains now (k, y)) (sym same) there) }

-- where it is put last
pub offering_last : (pair : ℕ × Reply) (round : ℕ) (old now : List (ℕ × (ℕ × Reply))) → now ≡ old ++ (round, pair) ∷ [] → IsOffering (λ x. x ≡ pair) round old now
offering_last pair round old now put = subst (IsOffering (λ x. x ≡ pair) round old) (sym put) (record {
  kept = λ x there. Contains-append_left old ((round, pair) ∷ []) x there;
  sound = λ x there. elim (Contains-push_cases old (round, pair) x there) [
    | inl before ↦ inl before
    | inr same ↦ inr (sym (ap (λ (y : ℕ × (ℕ × Reply)). y.0) same), sym (ap (λ (y : ℕ × (ℕ × Reply)). y.1) same))
  ];
  complete = λ x same. (round, subst (λ y. Contains (old ++ (round, pair) ∷ []) (round, y)) (sym same) (Contains-push old (round, pair)));
})

-- and that where the call that puts it there may be refused
pub offering_put : {X E : Type 0} (r : Result X E) (pair : ℕ × Reply) (round : ℕ) (old now : List (ℕ × (ℕ × Reply))) → OnOk r (now ≡ old ++ (round, pair) ∷ []) → OnOk r (IsOffering (λ x. x ≡ pair) round old now)
offering_put (Ok x) pair round old now put = offering_last pair round old now put
offering_put (Err e) pair round old now put = put

-- of one of the operations
abbrev pub IsOver : {A X : Type 0} → (A → X → Type 0) → List A → X → Type 0
IsOver {A} Q xs x = (o : A) × Contains xs o × Q o x

module _ {A : Type 0} (Q : A → ℕ × Reply → Type 0) (round : ℕ) (old : List (ℕ × (ℕ × Reply))) where
  pub offering_none : IsOffering (IsOver Q []) round old old
  offering_none = record {
    kept = λ x there. there;
    sound = λ x there. inl there;
    complete = λ x over. absurd (let inside = over.1.1 in omega arith);
  }

  pub offering_push : (xs : List A) (o : A) (now then' : List (ℕ × (ℕ × Reply))) → IsOffering (Q o) round now then' → IsOffering (IsOver Q xs) round old now → IsOffering (IsOver Q (xs ++ o ∷ [])) round old then'
  offering_push xs o now then' one all = record {
    kept = λ x there. one.kept x (all.kept x there);
    sound = λ x there. elim (one.sound x there) [
      | inl before ↦ elim (all.sound x before) [
        | inl first ↦ inl first
        | inr over ↦ inr (over.0, (over.1.0, Contains-append_left xs (o ∷ []) over.1.0 over.1.1, over.1.2))
      ]
      | inr new ↦ inr (new.0, (o, Contains-push xs o, new.1))
    ];
    complete = λ x over. elim (Contains-push_cases xs o over.0 over.1) [
      | inl before ↦ let there = all.complete x (over.0, before, over.2) in (there.0, one.kept (there.0, x) there.1)
      | inr same ↦ one.complete x (subst (λ p. Q p x) (sym same) over.2)
    ];
  }

  pub offering_more : (xs : List A) (i : ℕ) (d : A) (now then' : List (ℕ × (ℕ × Reply))) → i < length xs → IsOffering (Q (get_or xs i d)) round now then'
      → IsOffering (IsOver Q (take i xs)) round old now → IsOffering (IsOver Q (take (i + 1) xs)) round old then'
  offering_more xs i d now then' inside one all =
      subst (λ l. IsOffering (IsOver Q l) round old then') (sym (take_more xs i d inside)) (offering_push (take i xs) (get_or xs i d) now then' one all)

-- where two say the same, what is offered by the one is by the other
pub offering_same : (R Q : ℕ × Reply → Type 0) (round : ℕ) (old now : List (ℕ × (ℕ × Reply))) → ((x : ℕ × Reply) → R x → Q x) → ((x : ℕ × Reply) → Q x → R x) → IsOffering R round old now → IsOffering Q round old now
offering_same R Q round old now to from h = record {
  kept = h.kept;
  sound = λ x there. elim (h.sound x there) [
    | inl before ↦ inl before
    | inr new ↦ inr (new.0, to x.1 new.1)
  ];
  complete = λ x q. h.complete x (from x q);
}

-- the replies of all steps are offered
pub offering_told : {S : Type 0} (process round : ℕ) (old : List (ℕ × (ℕ × Reply))) (steps : List (S × Reply)) (i : ℕ) (now : List (ℕ × (ℕ × Reply))) → length steps ≤ i
    → IsOffering (IsOver (λ a x. x ≡ (process, a.1)) (take i steps)) round old now → IsOffering (Told process steps) round old now
offering_told {S} process round old steps i now past h =
    offering_same (IsOver (λ (a : S × Reply) (x : ℕ × Reply). x ≡ (process, a.1)) steps) (Told process steps) round old now
    (λ x over. (ap (λ (y : ℕ × Reply). y.0) over.2, over.0.0, subst (λ r. Contains steps (over.0.0, r)) (sym (ap (λ (y : ℕ × Reply). y.1) over.2)) over.1))
    (λ x told. ((told.1, x.1), told.2, ap (λ q. (q, x.1)) told.0))
    (subst (λ l. IsOffering (IsOver (λ (a : S × Reply) (x : ℕ × Reply). x ≡ (process, a.1)) l) round old now) (take_all i steps past) h)

-- what the steps by the operation's call tell its process the state gives to the operation
pub offering_steps : {S : Type 0} (step : S → Call → S → Reply → Type 0) (state : S) (o : Open) (round : ℕ) (old : List (ℕ × (ℕ × Reply))) (steps : List (S × Reply)) (now : List (ℕ × (ℕ × Reply)))
    → AreSteps step state o.call steps → IsOffering (Told o.process steps) round old now → IsOffering (Gives step state o) round old now
offering_steps step state o round old steps now are h =
    offering_same (Told o.process steps) (Gives step state o) round old now
    (λ x told. (told.0, told.1, All-contains (λ a. step state o.call a.0 a.1) steps (told.1, x.1) are.sound told.2))
    (λ x gives. (gives.0, gives.1, are.complete (gives.1, x.1) gives.2)) h
