-- One more event: which operations begin, end and are open as before.
use Rattle.std.proofs.Common.{◌≡◌, ℕ, ◌<◌, Bool, List, [], ◌∷◌, ◌++◌, length, length-append, Some, ◌⊎◌, inl, inr, sym, ap, subst, ◌∙◌, arith}
use Rattle.std.proofs.lemmas.Bool.{cases_order}
use Rattle.std.proofs.lemmas.Option.{slice_get_within}
use Rattle.lin_events.specs.declared.items.Item.{Item}
use Rattle.lin_events.specs.declared.calls.Call.{Call}
use Rattle.lin_events.specs.declared.calls.Name.{Name}
use Rattle.lin_events.specs.declared.calls.Reply.{Reply}
use Rattle.lin_events.specs.declared.events.Body.TheVariants.{Invoke, Ok, Fail}
use Rattle.lin_events.specs.declared.events.Event.{Event}
use Rattle.lin_events.specs.Alternation.{IsReturn, IsAlternating}
use Rattle.lin_events.specs.Operations.{IsOperation, IsEnd, IsOk, IsFailed, IsOpen}
use Rattle.lin_events.specs.WellFormed.{Completes}
use Rattle.lin_events.specs.lemmas.Alternating.{one_end}
use Rattle.lin_lists.specs.lemmas.Lists.{get_left, get_cases, get_last}
use Rattle.lin_events.specs.lemmas.StatusLemmas.{one_event}

one_invoked : {a b : Call} → Invoke a ≡ Invoke b → a ≡ b
one_invoked e = cc

-- an operation has one process and one call
pub one_caller : (h : List Event) (at p q : ℕ) (key other : Item) (call again : Call) → IsOperation h at p key call → IsOperation h at q other again → p ≡ q
one_caller h at p q key other call again a b = ap (λ (e : Event). e.process) (one_event h at _ _ a b)

pub one_call : (h : List Event) (at p q : ℕ) (key other : Item) (call again : Call) → IsOperation h at p key call → IsOperation h at q other again → call ≡ again
one_call h at p q key other call again a b = one_invoked (ap (λ (e : Event). e.body) (one_event h at _ _ a b))

-- where operations alternate, a process has one open operation
pub one_open : (functions : Item → Name → Bool) (h : List Event) → IsAlternating functions h → (i j process : ℕ) (key other : Item) (c d : Call)
    → IsOpen h i process key c → IsOpen h j process other d → i ≡ j
one_open functions h alternates i j process key other c d open_i open_j = elim (cases_order i j) [
  | inl same ↦ same
  | inr differ ↦ elim differ [
    | inl below ↦ absurd (never i j key other c d open_i open_j below)
    | inr above ↦ absurd (never j i other key d c open_j open_i above)
  ]
]
  where
    returned : (i end : ℕ) (key : Item) (c : Call) → IsOpen h i process key c → IsReturn h i end → ⊥
    returned i end key c open_i (inl ok) = open_i.no_ok end ok.0 ok.1
    returned i end key c open_i (inr failed) = open_i.no_fail (end, failed.0, failed.1, failed.2, failed.3)

    never : (i j : ℕ) (key other : Item) (c d : Call) → IsOpen h i process key c → IsOpen h j process other d → i < j → ⊥
    never i j key other c d open_i open_j below =
        let ended = alternates.returned i j process key other c d below open_i.begins open_j.begins in
        returned i ended.0 key c open_i ended.2

pub end_inside : (h : List Event) (at end : ℕ) (ending : Event) → IsEnd h at end ending → end < length h
end_inside h at end ending e = slice_get_within h end ending e.ends

module _ (h : List Event) (event : Event) where
  pub operation_kept : (at p : ℕ) (key : Item) (call : Call) → IsOperation h at p key call → IsOperation (h ++ event ∷ []) at p key call
  operation_kept at p key call is = get_left h event at _ is

  pub operation_before : (at p : ℕ) (key : Item) (call : Call) → (at ≡ length h → ⊥) → IsOperation (h ++ event ∷ []) at p key call → IsOperation h at p key call
  operation_before at p key call other is = elim (get_cases h event at _ is) [
    | inl old ↦ old
    | inr new ↦ absurd (other new.0)
  ]

  pub end_kept : (at end : ℕ) (ending : Event) → IsEnd h at end ending → IsEnd (h ++ event ∷ []) at end ending
  end_kept at end ending e =
      let inside = end_inside h at end ending e in
      record {
        process = e.process;
        key = e.key;
        call = e.call;
        begins = get_left h event at _ e.begins;
        later = e.later;
        ends = get_left h event end _ e.ends;
        same = e.same;
        least = λ k after before of_it.
            elim (get_cases h event k of_it.0 of_it.1) [
              | inl old ↦ e.least k after before (of_it.0, old, of_it.2)
              | inr new ↦ let place : k ≡ length h = new.0 in omega arith
            ];
      }

  -- an end is one from before, or the new event
  pub end_cases : (at end : ℕ) (ending : Event) → IsEnd (h ++ event ∷ []) at end ending → IsEnd h at end ending ⊎ ((end ≡ length h) × (event ≡ ending))
  end_cases at end ending e = elim (get_cases h event end _ e.ends) [
    | inl old ↦
        let inside = slice_get_within h end _ old in
        let later : at < end = e.later in
        inl (record {
          process = e.process;
          key = e.key;
          call = e.call;
          begins = operation_before at e.process e.key e.call (λ same. omega arith) e.begins;
          later = e.later;
          ends = old;
          same = e.same;
          least = λ k after before of_it. e.least k after before (of_it.0, get_left h event k of_it.0 of_it.1, of_it.2);
        })
    | inr new ↦ inr new
  ]

  -- what ends below the event ended before it
  pub end_before : (at end : ℕ) (ending : Event) → end < length h → IsEnd (h ++ event ∷ []) at end ending → IsEnd h at end ending
  end_before at end ending inside e = elim (end_cases at end ending e) [
    | inl old ↦ old
    | inr new ↦ absurd (omega (arith, new.0))
  ]

  pub ok_kept : (at end : ℕ) (reply : Reply) → IsOk h at end reply → IsOk (h ++ event ∷ []) at end reply
  ok_kept at end reply ok = (ok.0, end_kept at end _ ok.1, ok.2, ok.3)

  pub failed_kept : (at : ℕ) → IsFailed h at → IsFailed (h ++ event ∷ []) at
  failed_kept at f = (f.0, f.1, end_kept at f.0 _ f.2, f.3, f.4)

  -- an event that is no ok makes no operation ok
  pub ok_before : ((name : Name) (reply : Reply) → event.body ≡ Ok name reply → ⊥) → (at end : ℕ) (reply : Reply) → IsOk (h ++ event ∷ []) at end reply → IsOk h at end reply
  ok_before other at end reply ok = elim (end_cases at end _ ok.1) [
    | inl old ↦ (ok.0, old, ok.2, ok.3)
    | inr new ↦ absurd (other ok.2 reply (ap (λ (x : Event). x.body) new.1 ∙ ok.3))
  ]

  pub failed_before : ((name : Name) → event.body ≡ Fail name → ⊥) → (at : ℕ) → IsFailed (h ++ event ∷ []) at → IsFailed h at
  failed_before other at f = elim (end_cases at f.0 _ f.2) [
    | inl old ↦ (f.0, f.1, old, f.3, f.4)
    | inr new ↦ absurd (other f.3 (ap (λ (x : Event). x.body) new.1 ∙ f.4))
  ]

  pub open_before : (at p : ℕ) (key : Item) (call : Call) → (at ≡ length h → ⊥) → IsOpen (h ++ event ∷ []) at p key call → IsOpen h at p key call
  open_before at p key call other o = record {
    begins = operation_before at p key call other o.begins;
    no_ok = λ end reply ok. o.no_ok end reply (ok_kept at end reply ok);
    no_fail = λ f. o.no_fail (failed_kept at f);
  }

  -- what was open stays so, if the event is no ok and no fail
  pub open_kept : ((name : Name) (reply : Reply) → event.body ≡ Ok name reply → ⊥) → ((name : Name) → event.body ≡ Fail name → ⊥)
      → (at p : ℕ) (key : Item) (call : Call) → IsOpen h at p key call → IsOpen (h ++ event ∷ []) at p key call
  open_kept no_ok no_fail at p key call o = record {
    begins = operation_kept at p key call o.begins;
    no_ok = λ end reply ok. o.no_ok end reply (ok_before no_ok at end reply ok);
    no_fail = λ f. o.no_fail (failed_before no_fail at f);
  }

  -- or if it is of another process
  pub open_other : (at p : ℕ) (key : Item) (call : Call) → (p ≡ event.process → ⊥) → IsOpen h at p key call → IsOpen (h ++ event ∷ []) at p key call
  open_other at p key call other o = record {
    begins = operation_kept at p key call o.begins;
    no_ok = λ end reply ok. elim (end_cases at end _ ok.1) [
      | inl old ↦ o.no_ok end reply (ok.0, old, ok.2, ok.3)
      | inr new ↦ other (of_it end ok.0 ok.1 new.1)
    ];
    no_fail = λ f. elim (end_cases at f.0 _ f.2) [
      | inl old ↦ o.no_fail (f.0, f.1, old, f.3, f.4)
      | inr new ↦ other (of_it f.0 f.1 f.2 new.1)
    ];
  }
    where
      of_it : (end : ℕ) (ending : Event) → IsEnd (h ++ event ∷ []) at end ending → event ≡ ending → p ≡ event.process
      of_it end ending e is =
          one_caller _ at p e.process key e.key call e.call (operation_kept at p key call o.begins) e.begins ∙ sym (ap (λ (x : Event). x.process) is ∙ e.same)

  -- an operation that ends at the event was open before it
  pub open_until : (at : ℕ) → (e : IsEnd (h ++ event ∷ []) at (length h) event) → IsOpen h at event.process e.key e.call
  open_until at e =
      let later : at < length h = e.later in
      record {
        begins = operation_before at event.process e.key e.call (λ same. omega arith) (subst (λ q. IsOperation (h ++ event ∷ []) at q e.key e.call) (sym e.same) e.begins);
        no_ok = λ end reply ok. no_end end ok.0 ok.1;
        no_fail = λ f. no_end f.0 f.1 f.2;
      }
    where
      no_end : (end : ℕ) (ending : Event) → IsEnd h at end ending → ⊥
      no_end end ending f =
          let same = (one_end (h ++ event ∷ []) at (length h) end event ending e (end_kept at end ending f)).0 in
          let inside = end_inside h at end ending f in
          omega arith

  -- a completion that was added ends an operation that was open
  pub completes : (functions : Item → Name → Bool) → IsAlternating functions (h ++ event ∷ []) → (name : Name) → Completes event.body name
      → (at : ℕ) × (key : Item) × (call : Call) × IsOpen h at event.process key call × IsEnd (h ++ event ∷ []) at (length h) event
  completes functions alternates name is =
      let ended = alternates.completed (length h) event name (get_last h event) is in
      let e = ended.4 in
      (ended.0, e.key, e.call, open_until ended.0 e, e)

  -- an invocation that was added is open
  pub invoked : (call : Call) → event.body ≡ Invoke call → IsOpen (h ++ event ∷ []) (length h) event.process event.key call
  invoked call is = record {
    begins = get_last h event ∙ ap (λ b. Some (record event { body = b })) is;
    no_ok = λ end reply ok. never end ok.0 ok.1;
    no_fail = λ f. never f.0 f.1 f.2;
  }
    where
      never : (end : ℕ) (ending : Event) → IsEnd (h ++ event ∷ []) (length h) end ending → ⊥
      never end ending e =
          let inside = end_inside (h ++ event ∷ []) (length h) end ending e in
          let later : length h < end = e.later in
          let many = length-append h (event ∷ []) in
          omega arith

  pub alternates_before : (functions : Item → Name → Bool) → IsAlternating functions (h ++ event ∷ []) → IsAlternating functions h
  alternates_before functions alternates = record {
    allowed = λ at p key call is. alternates.allowed at p key call (operation_kept at p key call is);
    returned = λ at later p key other call again below is then.
        let inside = slice_get_within h later _ then in
        let ended = alternates.returned at later p key other call again below (operation_kept at p key call is) (operation_kept later p other again then) in
        (ended.0, ended.1, return_before at ended.0 (omega (arith, ended.1)) ended.2);
    completed = λ end ending name there is.
        let inside = slice_get_within h end _ there in
        let ended = alternates.completed end ending name (get_left h event end _ there) is in
        let e = end_before ended.0 end ending inside ended.4 in
        let later : ended.0 < end = e.later in
        (ended.0, ended.1, operation_before ended.0 ending.process ending.key ended.1 (λ same. omega arith) ended.2, ended.3, e);
  }
    where
      return_before : (at end : ℕ) → end < length h → IsReturn (h ++ event ∷ []) at end → IsReturn h at end
      return_before at end inside (inl ok) = inl (ok.0, (ok.1.0, end_before at end _ inside ok.1.1, ok.1.2, ok.1.3))
      return_before at end inside (inr failed) = inr (failed.0, end_before at end _ inside failed.1, failed.2, failed.3)
