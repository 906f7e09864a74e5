-- The event with which legal orders end.
use Rattle.std.proofs.Common.{◌≡◌, ◌≢◌, ◌+◌, ◌-◌, ◌<◌, ℕ, Bool, true, false, suc, List, [], ◌∷◌, ◌++◌, length, length-append, append-nil, take, refl, sym, ap, subst, ◌∙◌, arith, inl, inr}
use Rattle.std.proofs.lemmas.Bool.{cases_order, false≢true}
use Rattle.std.proofs.lemmas.List.{take_all}
use Rattle.lin_events.specs.declared.items.Item.{Item}
use Rattle.lin_events.specs.Sameness.{Decides-item_eq}
use Rattle.lin_events.specs.Items.{item_eq}
use Rattle.lin_events.specs.declared.calls.Call.{Call}
use Rattle.lin_events.specs.declared.calls.Name.{Name}
use Rattle.lin_events.specs.declared.calls.Reply.{Reply}
use Rattle.lin_events.specs.declared.events.Body.{Body}
use Rattle.lin_events.specs.declared.events.Body.TheVariants.{Invoke, Ok, Fail, Info}
use Rattle.lin_events.specs.declared.events.Event.{Event}
use Rattle.lin_events.specs.WellFormed.{Completes, IsWellFormed}
use Rattle.lin_events.specs.WellFormedLaws.{BeginningsAreWellFormed, WellFormedIsAlternating}
use Rattle.lin_events.specs.Alternation.{IsAlternating, IsReturn}
use Rattle.lin_events.specs.Operations.{IsCrashed, IsEnd, IsEvent, IsOperation}
use Rattle.lin_events.specs.lemmas.OneMore.{end_inside, end_kept, operation_kept}
use Rattle.lin_lists.specs.lemmas.Lists.{get_last, take_next}
use Rattle.lin_lists.specs.lemmas.Taken.{take_ahead}
use Rattle.lin_objects.specs.declared.kinds.Kind.{Kind}
use Rattle.lin_objects.specs.declared.states.State.{State}
use Rattle.lin_objects.specs.Kinds.{functions_of}
use Rattle.lin_objects.specs.Steps.{Step, start}
use Rattle.lin_order.specs.declared.placed.Placed.{Placed}
use Rattle.lin_order.specs.ConfigurationLaws.{InfoLaw, InvocationLaw, LegalOrdersEnd}
use Rattle.lin_order.specs.Configurations.{EndsIn}
use Rattle.lin_order.specs.Linearizable.{IsLinearizable, IsLinearizableAs, IsLinearizableFor}
use Rattle.lin_order.specs.Merging.{IsLocal}
use Rattle.lin_possibilities.specs.Outcomes.{HasNotCrashed}
use Rattle.lin_order.specs.lemmas.OneEnd.{one_end, one_process}
use Rattle.lin_order.specs.PartLaws.{LinearizableByPart, PartsAreWellFormed, PartsGrow}
use Rattle.lin_order.specs.Parts.{part}
use Rattle.lin_tables.specs.lemmas.Standing.{crashed_never}
use Rattle.lin_explain.specs.inner.Laws.{FailuresEnd, IsFailure, IsLegalHistory}
use Rattle.lin_explain.specs.Own.{without_last}

module _ (alternates : WellFormedIsAlternating) (kind : Kind) (invoked : InvocationLaw (start kind) (Step kind)) (informed : InfoLaw (start kind) (Step kind))
    (ended : LegalOrdersEnd (start kind) (Step kind)) (functions : Item → Name → Bool) (ahead : List Event) (ending : Event)
    (fine : IsWellFormed functions (ahead ++ ending ∷ [])) (begins : BeginningsAreWellFormed) (before : IsLinearizableAs kind ahead)
    (fails : IsLinearizableAs kind (ahead ++ ending ∷ []) → ⊥) where
  ahead_taken : take (length ahead) (ahead ++ ending ∷ []) ≡ ahead
  ahead_taken = take_ahead (length ahead) ahead (ending ∷ []) [] (omega arith) ∙ ap (take (length ahead)) (append-nil ahead) ∙ take_all (length ahead) ahead (omega arith)

  is_ahead : without_last (ahead ++ ending ∷ []) ≡ ahead
  is_ahead =
      let count : length (ahead ++ ending ∷ []) - 1 ≡ length ahead = omega (arith, length-append ahead (ending ∷ [])) in
      ap (λ n. take n (ahead ++ ending ∷ [])) count ∙ ahead_taken

  fine_ahead : IsWellFormed functions ahead
  fine_ahead = subst (IsWellFormed functions) ahead_taken (begins functions (ahead ++ ending ∷ []) (length ahead) fine)

  -- an order that ends in a configuration is legal
  legal_since : (order : List Placed) (c : State × List (ℕ × Reply)) → EndsIn (start kind) (Step kind) (ahead ++ ending ∷ []) order c → IsLinearizableAs kind (ahead ++ ending ∷ [])
  legal_since order c e = (order, record { order_of = e.order_of; legal = (c.0, e.runs) })

  alternating : IsAlternating functions (ahead ++ ending ∷ [])
  alternating = (alternates functions (ahead ++ ending ∷ [])).0 fine

  -- the operation that the event ends
  ended_call : (name : Name) → Completes ending.body name → (call : ℕ) × (called : Call) × IsOperation (ahead ++ ending ∷ []) call ending.process ending.key called
      × IsEnd (ahead ++ ending ∷ []) call (length ahead) ending
  ended_call name is = let done = alternating.completed (length ahead) ending name (get_last ahead ending) is in (done.0, done.1, done.2, done.4)

  last : suc (length ahead) ≡ length (ahead ++ ending ∷ [])
  last = omega (arith, length-append ahead (ending ∷ []))

  -- no operation of its process crashed
  none_crashed : (call : ℕ) (called : Call) → IsOperation (ahead ++ ending ∷ []) call ending.process ending.key called → IsEnd (ahead ++ ending ∷ []) call (length ahead) ending
      → (at : ℕ) (key : Item) (other : Call) → IsOperation ahead at ending.process key other → IsCrashed ahead at → ⊥
  none_crashed call called begun is_end at key other crashing crashed = elim (cases_order at call) [
    | inl same ↦
        let again = subst (λ k. IsEnd (ahead ++ ending ∷ []) k crashed.0 crashed.1) same over in
        let one = one_end (ahead ++ ending ∷ []) call crashed.0 (length ahead) crashed.1 ending again is_end in
        omega (arith, one, inside)
    | inr differ ↦ elim differ [
      | inl below ↦
          let back = alternating.returned at call ending.process key ending.key other called below there begun in
          crashed_never (ahead ++ ending ∷ []) at crashed.0 crashed.1 crashed.3 over crashed.4 back.0 back.2
      | inr above ↦ is_end.least at above (omega (arith, inside, before_end)) (_, there, sym (one_process (ahead ++ ending ∷ []) call is_end.process ending.process (_, is_end.begins, refl) (_, begun, refl)))
    ]
  ]
    where
      there : IsOperation (ahead ++ ending ∷ []) at ending.process key other
      there = operation_kept ahead ending at ending.process key other crashing

      over : IsEnd (ahead ++ ending ∷ []) at crashed.0 crashed.1
      over = end_kept ahead ending at crashed.0 crashed.1 crashed.2

      inside : crashed.0 < length ahead
      inside = end_inside ahead at crashed.0 crashed.1 crashed.2

      before_end : at < crashed.0
      before_end = crashed.2.later

  failure_since : (name : Name) → Completes ending.body name → ((call : ℕ) → IsEnd (ahead ++ ending ∷ []) call (length ahead) ending → IsReturn (ahead ++ ending ∷ []) call (length ahead))
      → IsFailure kind (ahead ++ ending ∷ []) ending
  failure_since name is returns =
      let done = ended_call name is in
      record {
        fails = fails;
        before = subst (IsLegalHistory kind) (sym is_ahead) (record { well_formed = (functions, fine_ahead); legal = before });
        failing = (done.0, (length ahead, returns done.0 done.3, last));
        ends = ap (λ l. l ++ ending ∷ []) (sym is_ahead);
        well_formed = (functions, fine);
        uncrashed = subst (λ l. HasNotCrashed l ending.process) (sym is_ahead) (none_crashed done.0 done.1 done.2 done.3);
      }

  by_body : (body : Body) → ending.body ≡ body → IsFailure kind (ahead ++ ending ∷ []) ending
  by_body (Invoke call) is =
      let c = ended functions ahead before.0 fine_ahead before.1 in
      absurd (fails (legal_since before.0 c.0 ((invoked functions ahead ending call is fine).stays before.0 c.0 c.1)))
  by_body (Info name) is =
      let c = ended functions ahead before.0 fine_ahead before.1 in
      absurd (fails (legal_since before.0 c.0 ((informed functions ahead ending name is fine before.0 c.0).1 c.1)))
  by_body (Ok name reply) is = failure_since name (subst (λ b. Completes b name) (sym is) refl) (λ call e. inl (reply, (ending, e, name, is)))
  by_body (Fail name) is = failure_since name (subst (λ b. Completes b name) (sym is) refl) (λ call e. inr (ending, e, name, is))

  pub is_failure : IsFailure kind (ahead ++ ending ∷ []) ending
  is_failure = by_body ending.body refl

module _ (begins : BeginningsAreWellFormed) (fine_parts : PartsAreWellFormed) (linear : LinearizableByPart) (grow : PartsGrow) (local : IsLocal)
    (kinds : Item → Kind) (h : List Event) (fine : IsWellFormed (functions_of kinds) h) (at : ℕ) (ending : Event) (is : IsEvent h at ending) where
  longer : take (at + 1) h ≡ take at h ++ ending ∷ []
  longer = let next : at + 1 ≡ suc at = omega arith in ap (λ n. take n h) next ∙ take_next at h ending is

  -- the part of the object is legal together with the history
  by_part : (key : Item) (n : ℕ) → (IsLinearizableFor kinds key (take n h) → IsLinearizableAs (kinds key) (part key (take n h)))
      × (IsLinearizableAs (kinds key) (part key (take n h)) → IsLinearizableFor kinds key (take n h))
  by_part key n = let both = linear (functions_of kinds) kinds key (take n h) (begins (functions_of kinds) h n fine) in (both.0, both.1)

  -- an event of another key changes nothing
  other_stays : (key : Item) → ending.key ≢ key → IsLinearizableFor kinds key (take at h) → IsLinearizableFor kinds key (take (at + 1) h)
  other_stays key differ lin =
      let same : part key (take at h) ≡ part key (take (at + 1) h) = sym ((grow key (take at h) ending).same differ) ∙ sym (ap (part key) longer) in
      (by_part key (at + 1)).1 (subst (IsLinearizableAs (kinds key)) same ((by_part key at).0 lin))

  -- so an object fails with an event of its own
  pub object_same : (key : Item) → IsLinearizableFor kinds key (take at h) → (IsLinearizableFor kinds key (take (at + 1) h) → ⊥) → ending.key ≡ key
  object_same key lin fails = by (item_eq ending.key key) refl
    where
      by : (b : Bool) → item_eq ending.key key ≡ b → ending.key ≡ key
      by true e = (Decides-item_eq ending.key key).0 e
      by false e = absurd (fails (other_stays key (λ same. false≢true (sym e ∙ (Decides-item_eq ending.key key).1 same)) lin))

  module _ (end_so : FailuresEnd (kinds ending.key)) where
    own_fails : IsLinearizableFor kinds ending.key (take at h) → (IsLinearizableFor kinds ending.key (take (at + 1) h) → ⊥)
        → IsFailure (kinds ending.key) (part ending.key (take (at + 1) h)) ending
    own_fails lin fails =
        let key = ending.key in
        let whole : part key (take (at + 1) h) ≡ part key (take at h) ++ ending ∷ [] = ap (part key) longer ∙ (grow key (take at h) ending).more refl in
        let fine_part = fine_parts (functions_of kinds) key (take (at + 1) h) (begins (functions_of kinds) h (at + 1) fine) in
        subst (λ l. IsFailure (kinds key) l ending) (sym whole)
        (end_so (functions_of kinds) (part key (take at h)) ending (subst (IsWellFormed (functions_of kinds)) whole fine_part) ((by_part key at).0 lin)
        (λ legal. fails ((by_part key (at + 1)).1 (subst (IsLinearizableAs (kinds key)) (sym whole) legal))))

    pub object_fails : (key : Item) → IsLinearizableFor kinds key (take at h) → (IsLinearizableFor kinds key (take (at + 1) h) → ⊥)
        → IsFailure (kinds ending.key) (part ending.key (take (at + 1) h)) ending
    object_fails key lin fails =
        let same = object_same key lin fails in
        own_fails (subst (λ k. IsLinearizableFor kinds k (take at h)) (sym same) lin) (λ own. fails (subst (λ k. IsLinearizableFor kinds k (take (at + 1) h)) same own))

    pub whole_fails : IsLinearizable kinds (take at h) → (IsLinearizable kinds (take (at + 1) h) → ⊥)
        → IsFailure (kinds ending.key) (part ending.key (take (at + 1) h)) ending
    whole_fails lin fails = own_fails ((local kinds (take at h)).0 lin ending.key) (λ own. fails ((local kinds (take (at + 1) h)).1 (λ key. by own key (item_eq ending.key key) refl)))
      where
        by : IsLinearizableFor kinds ending.key (take (at + 1) h) → (key : Item) (b : Bool) → item_eq ending.key key ≡ b → IsLinearizableFor kinds key (take (at + 1) h)
        by own key true e = subst (λ k. IsLinearizableFor kinds k (take (at + 1) h)) ((Decides-item_eq ending.key key).0 e) own
        by own key false e = other_stays key (λ same. false≢true (sym e ∙ (Decides-item_eq ending.key key).1 same)) ((local kinds (take at h)).0 lin key)
