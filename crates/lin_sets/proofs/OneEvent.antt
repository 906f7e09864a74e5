-- One more event: what was known stays, and what it makes known.
use Rattle.std.proofs.Common.{◌≡◌, ◌<◌, ◌⊎◌, ◌∷◌, ◌++◌, [], ℕ, List, length, inl, inr, sym, ap, subst, ◌∙◌, arith}
use Rattle.std.proofs.lemmas.Bool.{cases_order}
use Rattle.lin_events.specs.declared.items.Item.{Item}
use Rattle.lin_events.specs.declared.calls.Call.{Call}
use Rattle.lin_events.specs.declared.calls.Call.TheVariants.{Read}
use Rattle.lin_events.specs.declared.calls.Name.{Name}
use Rattle.lin_events.specs.declared.calls.Reply.{Reply}
use Rattle.lin_events.specs.declared.calls.Reply.TheVariants as Replied
use Rattle.lin_events.specs.declared.events.Event.{Event}
use Rattle.lin_events.specs.declared.events.Body.TheVariants.{Invoke, Ok}
use Rattle.lin_events.specs.Operations.{IsEnd, IsOk}
use Rattle.lin_events.specs.lemmas.OneMore.{operation_kept, operation_before, end_cases, ok_kept, ok_before, end_inside}
use Rattle.lin_events.specs.lemmas.StatusLemmas.{one_event}
use Rattle.lin_lists.specs.lemmas.Lists.{get_last}
use Rattle.lin_order.specs.Orders.{IsCall}
use Rattle.lin_order.specs.lemmas.OneEnd.{one_call as of_one}
use Rattle.lin_certificates.specs.SetConflicts.{Has, HadAt}
use Rattle.lin_sets.specs.Parts.{IsFound}
use Rattle.lin_sets.specs.Steps.{ReturnsNext}

one_reply : {a b : Name} {r s : Reply} → Ok a r ≡ Ok b s → r ≡ s
one_reply e = cc

-- an event ends one operation
pub one_start : (h : List Event) (a b end : ℕ) (x y : Event) → IsEnd h a end x → IsEnd h b end y → a ≡ b
one_start h a b end x y e f = elim (cases_order a b) [
  | inl same ↦ same
  | inr differ ↦ elim differ [
    | inl below ↦ absurd (never h a b end x y e f below)
    | inr above ↦ absurd (never h b a end y x f e above)
  ]
]
  where
    never : (h : List Event) (a b end : ℕ) (x y : Event) → IsEnd h a end x → IsEnd h b end y → a < b → ⊥
    never h a b end x y e f below =
        let one : x ≡ y = one_event h end x y e.ends f.ends in
        let process : f.process ≡ e.process = sym f.same ∙ ap (λ (z : Event). z.process) (sym one) ∙ e.same in
        e.least b below f.later (record { process = f.process; key = f.key; body = Invoke f.call }, f.begins, process)

module _ (h : List Event) (event : Event) where
  pub call_kept : (at : ℕ) (call : Call) → IsCall h at call → IsCall (h ++ event ∷ []) at call
  call_kept at call is = (is.0, is.1, operation_kept h event at is.0 is.1 call is.2)

  pub call_before : (at : ℕ) (call : Call) → (at ≡ length h → ⊥) → IsCall (h ++ event ∷ []) at call → IsCall h at call
  call_before at call other is = (is.0, is.1, operation_before h event at is.0 is.1 call other is.2)

  pub call_at : (at : ℕ) (call : Call) → at < length h → IsCall (h ++ event ∷ []) at call → IsCall h at call
  call_at at call inside is = call_before at call (λ same. let no : ⊥ = omega (arith, same, inside) in no) is

  -- an operation that is ok or failed was invoked inside the history
  pub begun_inside : (at end : ℕ) (ending : Event) → IsEnd h at end ending → at < length h
  begun_inside at end ending e = let later = e.later in let inside = end_inside h at end ending e in omega (arith, later, inside)

  -- where the event is no invocation, none begins there
  pub not_begun : ((call : Call) → event.body ≡ Invoke call → ⊥) → (at : ℕ) (call : Call) → IsCall (h ++ event ∷ []) at call → (at ≡ length h) → ⊥
  not_begun other at call is same =
      let here = subst (λ n. IsCall (h ++ event ∷ []) n call) same is in
      other call (ap (λ (x : Event). x.body) (one_event (h ++ event ∷ []) (length h) event _ (get_last h event) here.2))

  pub had_kept : (at : ℕ) (item : Item) (end : ℕ) → HadAt h at item end → HadAt (h ++ event ∷ []) at item end
  had_kept at item end had = (had.0, had.1, call_kept at had.0 had.2, ok_kept h event at end had.1 had.3, had.4)

  pub found_kept : (at end : ℕ) (s : List Item) → IsFound h at end s → IsFound (h ++ event ∷ []) at end s
  found_kept at end s found = (call_kept at Read found.0, ok_kept h event at end (Replied.Members s) found.1)

  ok_inside : (at end : ℕ) (reply : Reply) → IsOk h at end reply → at < length h
  ok_inside at end reply ok = begun_inside at end ok.0 ok.1

  -- where the event is no ok, nothing becomes known
  module _ (no_ok : (name : Name) (reply : Reply) → event.body ≡ Ok name reply → ⊥) where
    pub had_before : (at : ℕ) (item : Item) (end : ℕ) → HadAt (h ++ event ∷ []) at item end → HadAt h at item end
    had_before at item end had =
        let was = ok_before h event no_ok at end had.1 had.3 in
        (had.0, had.1, call_at at had.0 (ok_inside at end had.1 was) had.2, was, had.4)

    pub found_before : (at end : ℕ) (s : List Item) → IsFound (h ++ event ∷ []) at end s → IsFound h at end s
    found_before at end s found =
        let was = ok_before h event no_ok at end (Replied.Members s) found.1 in
        (call_at at Read (ok_inside at end (Replied.Members s) was) found.0, was)

  -- where it is the ok of an operation, this is what becomes known
  module _ (p : ℕ) (call : Call) (reply : Reply) (returns : ReturnsNext h event p call reply) where
    pub new_ok : IsOk (h ++ event ∷ []) p (length h) reply
    new_ok = (event, returns.0.ends, returns.1.0, returns.1.1)

    pub ok_cases : (at end : ℕ) (other : Reply) → IsOk (h ++ event ∷ []) at end other → IsOk h at end other ⊎ ((at ≡ p) × (end ≡ length h) × (other ≡ reply))
    ok_cases at end other ok = elim (end_cases h event at end ok.0 ok.1) [
      | inl old ↦ inl (ok.0, old, ok.2, ok.3)
      | inr new ↦
          let ends = subst (λ n. IsEnd (h ++ event ∷ []) at n ok.0) new.0 ok.1 in
          inr (
            one_start (h ++ event ∷ []) at p (length h) ok.0 event ends returns.0.ends,
            new.0,
            one_reply (sym ok.3 ∙ ap (λ (x : Event). x.body) (sym new.1) ∙ returns.1.1),
          )
    ]

    one_call : (other : Call) → IsCall (h ++ event ∷ []) p other → other ≡ call
    one_call other is = of_one (h ++ event ∷ []) p other call is returns.0.called

    pub had_cases : (at : ℕ) (item : Item) (end : ℕ) → HadAt (h ++ event ∷ []) at item end → HadAt h at item end ⊎ ((at ≡ p) × (end ≡ length h) × Has call reply item)
    had_cases at item end had = elim (ok_cases at end had.1 had.3) [
      | inl old ↦ inl (had.0, had.1, call_at at had.0 (ok_inside at end had.1 old) had.2, old, had.4)
      | inr new ↦
          let same = one_call had.0 (subst (λ n. IsCall (h ++ event ∷ []) n had.0) new.0 had.2) in
          inr (new.0, new.1, subst (λ c. Has c reply item) same (subst (λ r. Has had.0 r item) new.2 had.4))
    ]

    pub found_cases : (at end : ℕ) (s : List Item) → IsFound (h ++ event ∷ []) at end s → IsFound h at end s ⊎ ((at ≡ p) × (end ≡ length h) × (call ≡ Read) × (reply ≡ Replied.Members s))
    found_cases at end s found = elim (ok_cases at end (Replied.Members s) found.1) [
      | inl old ↦ inl (call_at at Read (ok_inside at end (Replied.Members s) old) found.0, old)
      | inr new ↦
          let same = one_call Read (subst (λ n. IsCall (h ++ event ∷ []) n Read) new.0 found.0) in
          inr (new.0, new.1, sym same, sym new.2)
    ]

    pub new_had : (item : Item) → Has call reply item → HadAt (h ++ event ∷ []) p item (length h)
    new_had item has = (call, reply, returns.0.called, new_ok, has)
