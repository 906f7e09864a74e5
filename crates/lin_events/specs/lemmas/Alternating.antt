-- Looking back from each position, and looking at operations: both say the same of a history.
use Rattle.std.proofs.Common.{◌≡◌, ℕ, ◌<◌, ◌≤◌, Bool, true, List, take, ◌⊎◌, inl, inr, refl, sym, ap, ◌∙◌, subst, arith, slice_get}
use Rattle.std.proofs.lemmas.Bool.{cases_lt, cases_order, cases_Bool}
use Rattle.lin_events.specs.declared.items.Item.{Item}
use Rattle.lin_events.specs.declared.calls.Call.{Call}
use Rattle.lin_events.specs.declared.calls.Name.{Name}
use Rattle.lin_events.specs.declared.events.Body.{Body}
use Rattle.lin_events.specs.declared.events.Body.TheVariants.{Invoke, Ok, Fail, Info}
use Rattle.lin_events.specs.declared.events.Event.{Event}
use Rattle.lin_events.specs.Names.{name_of}
use Rattle.lin_events.specs.Operations.{IsEvent, IsOf, IsOperation, IsEnd}
use Rattle.lin_events.specs.declared.shapes.Cause.{Cause}
use Rattle.lin_events.specs.declared.shapes.Cause.TheVariants.{RetiredProcess, BusyProcess, NotOfKind, NoInvocation, OtherCall, OtherKey}
use Rattle.lin_events.specs.declared.shapes.ProcessStatus.{ProcessStatus}
use Rattle.lin_events.specs.declared.shapes.ProcessStatus.TheVariants.{Idle, Busy, Retired}
use Rattle.lin_events.specs.WellFormed.{Completes, left_by, IsLast, IsStatus, Holds, IsFirstCause, IsWellFormed}
use Rattle.lin_events.specs.Alternation.{IsReturn, IsAlternating}
use Rattle.lin_lists.specs.lemmas.Lists.{get_taken, get_begun}
use Rattle.lin_events.specs.lemmas.StatusLemmas.{one_event, status_here}
use Rattle.lin_events.specs.lemmas.Causes.{retired_first, busy_first, function_first, idle_first, call_first, key_first, one_busy, one_key}
use Rattle.lin_events.specs.lemmas.ShapeLemmas.{bad_longer}
use Rattle.lin_events.specs.lemmas.Deciding.{name_cases, key_cases, last_below, next_of}

-- an operation has at most one end
pub one_end : (h : List Event) (at a b : ℕ) (x y : Event) → IsEnd h at a x → IsEnd h at b y → (a ≡ b) × (x ≡ y)
one_end h at a b x y e f = (place, one_event h a x y e.ends (ap (λ k. slice_get h k) place ∙ f.ends))
  where
    process : e.process ≡ f.process
    process = ap (λ (v : Event). v.process) (one_event h at (record { process = e.process; key = e.key; body = Invoke e.call }) (record { process = f.process; key = f.key; body = Invoke f.call }) e.begins f.begins)

    place : a ≡ b
    place = elim (cases_order a b) [
      | inl same ↦ same
      | inr differ ↦ elim differ [
        | inl below ↦ absurd (f.least a e.later below (x, e.ends, e.same ∙ process))
        | inr above ↦ absurd (e.least b f.later above (y, f.ends, f.same ∙ sym process))
      ]
    ]

-- each process is something after any events
status_of : (h : List Event) (process n : ℕ) → (status : ProcessStatus) × IsStatus (take n h) process status
status_of h process n = elim (last_below h process n) [
  | inl none ↦ (Idle, inl (λ k of_it. let there = get_taken n h k of_it.0 of_it.1 in none k there.0 (of_it.0, there.1, of_it.2), refl))
  | inr found ↦ (
    left_by found.2.0,
    status_here (take n h) process found.0 found.2.0 (left_by found.2.0) (get_begun n h found.0 found.2.0 found.1 found.2.1) found.2.2 refl
        (λ k past of_it. let there = get_taken n h k of_it.0 of_it.1 in found.3 k past there.0 (of_it.0, there.1, of_it.2)),
  )
]

-- what an event left its process as, until the next one
status_until : (h : List Event) (process at n : ℕ) (event : Event) → IsEvent h at event → event.process ≡ process → at < n → ((k : ℕ) → at < k → k < n → IsOf h process k → ⊥) → IsStatus (take n h) process (left_by event)
status_until h process at n event stands same below none = status_here (take n h) process at event (left_by event) (get_begun n h at event below stands) same refl
    (λ k past of_it. let there = get_taken n h k of_it.0 of_it.1 in none k past there.0 (of_it.0, there.1, of_it.2))

-- an event is what its parts say
event_is : (event : Event) (process : ℕ) (key : Item) (body : Body) → event.process ≡ process → event.key ≡ key → event.body ≡ body → event ≡ (record { process = process; key = key; body = body })
event_is event process key body p k b = λ i. record { process = p i; key = k i; body = b i }

-- only an invocation leaves its process busy
left_busy : (process : ℕ) (at : Item) (body : Body) (called : Name) (key : Item) → Busy called key ≡ left_by (record { process = process; key = at; body = body })
    → (call : Call) × (body ≡ Invoke call) × (name_of call ≡ called) × (at ≡ key)
left_busy process at (Invoke call) called key e = (call, refl, cc, cc)
left_busy process at (Ok name reply) called key e = cc
left_busy process at (Fail name) called key e = cc
left_busy process at (Info name) called key e = cc

module _ (functions : Item → Name → Bool) (h : List Event) (well : IsWellFormed functions h) where
  -- no cause is the first that holds
  no_cause : (at : ℕ) (event : Event) (status : ProcessStatus) → IsEvent h at event → IsStatus (take at h) event.process status → (cause : Cause) → IsFirstCause functions status event cause → ⊥
  no_cause at event status stands found cause caused = well at cause (record { event = event; stands = stands; status = status; found = found; caused = caused })

  invoked : (at process : ℕ) (key : Item) (call : Call) → IsOperation h at process key call → functions key (name_of call) ≡ true
  invoked at process key call begins = let found = status_of h process at in by found.0 found.1
    where
      by : (status : ProcessStatus) → IsStatus (take at h) process status → functions key (name_of call) ≡ true
      by Retired found = absurd (no_cause at (record { process = process; key = key; body = Invoke call }) Retired begins found RetiredProcess (retired_first functions Retired (record { process = process; key = key; body = Invoke call }) refl))
      by (Busy called other) found = absurd (no_cause at (record { process = process; key = key; body = Invoke call }) (Busy called other) begins found BusyProcess (busy_first functions (Busy called other) (record { process = process; key = key; body = Invoke call }) call called other refl refl))
      by Idle found = elim (cases_Bool (functions key (name_of call))) [
        | inl allowed ↦ allowed
        | inr refused ↦ absurd (no_cause at (record { process = process; key = key; body = Invoke call }) Idle begins found NotOfKind (function_first functions Idle (record { process = process; key = key; body = Invoke call }) call refl refl refused))
      ]

  -- a completion ends what was invoked last
  ended : (end : ℕ) (ending : Event) (name : Name) → IsEvent h end ending → Completes ending.body name → (status : ProcessStatus) → IsStatus (take end h) ending.process status
      → (at : ℕ) × (call : Call) × IsOperation h at ending.process ending.key call × (name_of call ≡ name) × IsEnd h at end ending
  ended end ending name stands completes Retired found = absurd (no_cause end ending Retired stands found RetiredProcess (retired_first functions Retired ending refl))
  ended end ending name stands completes Idle found = absurd (no_cause end ending Idle stands found NoInvocation (idle_first functions Idle ending name refl completes))
  ended end ending name stands completes (Busy called key) (inl none) = absurd (not_idle none.1)
    where
      not_idle : Busy called key ≡ Idle → ⊥
      not_idle e = cc
  ended end ending name stands completes (Busy called key) (inr found) = elim (name_cases called name) [
    | inr differ ↦ absurd (no_cause end ending (Busy called key) stands (inr found) OtherCall (call_first functions (Busy called key) ending name called key refl completes differ))
    | inl named ↦ elim (key_cases key ending.key) [
      | inr differ ↦ absurd (no_cause end ending (Busy called key) stands (inr found) OtherKey (key_first functions (Busy called key) ending name key (ap (λ n. Busy n key) named) completes differ))
      | inl same ↦ (
        found.0,
        invocation.0,
        begins same,
        invocation.2 ∙ named,
        record {
          process = ending.process;
          key = ending.key;
          call = invocation.0;
          begins = begins same;
          later = there.0;
          ends = stands;
          same = refl;
          least = λ k past before of_it. found.2.last k past (of_it.0, get_begun end h k of_it.0 before of_it.1, of_it.2);
        },
      )
    ]
  ]
    where
      there : (found.0 < end) × IsEvent h found.0 found.1
      there = get_taken end h found.0 found.1 found.2.stands

      invocation : (call : Call) × (found.1.body ≡ Invoke call) × (name_of call ≡ called) × (found.1.key ≡ key)
      invocation = left_busy found.1.process found.1.key found.1.body called key found.3

      begins : key ≡ ending.key → IsOperation h found.0 ending.process ending.key invocation.0
      begins same = subst (λ e. IsEvent h found.0 e) (event_is found.1 ending.process ending.key (Invoke invocation.0) found.2.same (invocation.3 ∙ same) invocation.1) there.1

  completed : (end : ℕ) (ending : Event) (name : Name) → IsEvent h end ending → Completes ending.body name
      → (at : ℕ) × (call : Call) × IsOperation h at ending.process ending.key call × (name_of call ≡ name) × IsEnd h at end ending
  completed end ending name stands completes = let found = status_of h ending.process end in ended end ending name stands completes found.0 found.1

  -- a process that is called again has returned
  module _ (at later process : ℕ) (key other : Item) (call again : Call) (past : at < later) (begins : IsOperation h at process key call) (calls : IsOperation h later process other again) where
    returned_by : (end : ℕ) (ending : Event) → at < end → end ≤ later → IsEvent h end ending → ending.process ≡ process → ((k : ℕ) → at < k → k < end → IsOf h process k → ⊥)
        → (body : Body) → ending.body ≡ body → (end : ℕ) × (end < later) × IsReturn h at end
    returned_by end ending after upto stands same least body is = by body is
      where
        is_end : IsEnd h at end ending
        is_end = record { process = process; key = key; call = call; begins = begins; later = after; ends = stands; same = same; least = least }

        busy : IsStatus (take end h) ending.process (Busy (name_of call) key)
        busy = subst (λ p. IsStatus (take end h) p (Busy (name_of call) key)) (sym same) (status_until h process at end (record { process = process; key = key; body = Invoke call }) begins refl after least)

        -- a completion stands before the call
        below : (ending.body ≡ Invoke again → ⊥) → end < later
        below completion = elim (cases_lt end later) [
          | inl before ↦ before
          | inr from ↦
              let here : end ≡ later = omega arith in
              absurd (completion (ap (λ (e : Event). e.body) (one_event h end ending (record { process = process; key = other; body = Invoke again }) stands (ap (λ k. slice_get h k) here ∙ calls))))
        ]

        by : (body : Body) → ending.body ≡ body → (end : ℕ) × (end < later) × IsReturn h at end
        by (Invoke more) is = absurd (no_cause end ending (Busy (name_of call) key) stands busy BusyProcess (busy_first functions (Busy (name_of call) key) ending more (name_of call) key refl is))
        by (Ok name reply) is = (end, below (λ e. let no = sym is ∙ e in cc), inl (reply, (ending, is_end, name, is)))
        by (Fail name) is = (end, below (λ e. let no = sym is ∙ e in cc), inr (ending, is_end, name, is))
        by (Info name) is =
            let more = next_of h process end later (below (λ e. let no = sym is ∙ e in cc)) (record { process = process; key = other; body = Invoke again }, calls, refl) in
            let left : left_by ending ≡ Retired = ap left_by (event_is ending ending.process ending.key (Info name) refl refl is) in
            let found = subst (λ s. IsStatus (take more.0 h) process s) left (status_until h process end more.0 ending stands same more.1 more.4) in
            absurd (no_cause more.0 more.3.0 Retired more.3.1 (subst (λ p. IsStatus (take more.0 h) p Retired) (sym more.3.2) found) RetiredProcess (retired_first functions Retired more.3.0 refl))

  returned : (at later process : ℕ) (key other : Item) (call again : Call) → at < later → IsOperation h at process key call → IsOperation h later process other again
      → (end : ℕ) × (end < later) × IsReturn h at end
  returned at later process key other call again past begins calls =
      let next = next_of h process at later past (record { process = process; key = other; body = Invoke again }, calls, refl) in
      returned_by at later process key other call again past begins calls next.0 next.3.0 next.1 next.2 next.3.1 next.3.2 next.4 next.3.0.body refl

pub alternates : (functions : Item → Name → Bool) (h : List Event) → IsWellFormed functions h → IsAlternating functions h
alternates functions h well = record { allowed = invoked functions h well; returned = returned functions h well; completed = completed functions h well }

-- only an info leaves its process retired
left_retired : (process : ℕ) (key : Item) (body : Body) → Retired ≡ left_by (record { process = process; key = key; body = body }) → (name : Name) × (body ≡ Info name)
left_retired process key (Invoke call) e = cc
left_retired process key (Ok name reply) e = cc
left_retired process key (Fail name) e = cc
left_retired process key (Info name) e = (name, refl)

-- an event is an invocation or a completion
body_cases : (body : Body) → ((call : Call) × (body ≡ Invoke call)) ⊎ ((name : Name) × Completes body name)
body_cases (Invoke call) = inl (call, refl)
body_cases (Ok name reply) = inr (name, refl)
body_cases (Fail name) = inr (name, refl)
body_cases (Info name) = inr (name, refl)

info_completes : (body : Body) (name : Name) → body ≡ Info name → Completes body name
info_completes body name is = subst (λ b. Completes b name) (sym is) refl

module _ (functions : Item → Name → Bool) (h : List Event) (alternating : IsAlternating functions h) where
  -- an operation that ends with an info does not return
  no_return : (at end other : ℕ) (ending : Event) (name : Name) → IsEnd h at end ending → ending.body ≡ Info name → IsReturn h at other → ⊥
  no_return at end other ending name is_end is (inl ok) = let same = ap (λ (e : Event). e.body) (one_end h at end other ending ok.1.0 is_end ok.1.1).1 in no (sym is ∙ same ∙ ok.1.3)
    where
      no : Info name ≡ Ok ok.1.2 ok.0 → ⊥
      no e = cc
  no_return at end other ending name is_end is (inr failed) = let same = ap (λ (e : Event). e.body) (one_end h at end other ending failed.0 is_end failed.1).1 in no (sym is ∙ same ∙ failed.3)
    where
      no : Info name ≡ Fail failed.2 → ⊥
      no e = cc

  -- no event of the process follows an info
  not_retired : (k at : ℕ) (event ending : Event) (name : Name) → IsEvent h k event → IsEvent h at ending → ending.process ≡ event.process → at < k → ending.body ≡ Info name → ⊥
  not_retired k at event ending name stands ends same below is = elim (body_cases event.body) [
    | inl call ↦
        called k event.process event.key call.0 below refl (subst (λ e. IsEvent h k e) (event_is event event.process event.key (Invoke call.0) refl refl call.1) stands)
    | inr completion ↦
        let operation = alternating.completed k event completion.0 stands completion.1 in
        elim (cases_order operation.0 at) [
          | inl here ↦ not_here operation.1 (ap (λ (e : Event). e.body) (one_event h at (record { process = event.process; key = event.key; body = Invoke operation.1 }) ending
              (ap (λ n. slice_get h n) (sym here) ∙ operation.2) ends) ∙ is)
          | inr differ ↦ elim differ [
            | inl before ↦ no_event_between operation.0 operation.4 before
            | inr past ↦ called operation.0 event.process event.key operation.1 past refl operation.2
          ]
        ]
  ]
    where
      not_here : (call : Call) → Invoke call ≡ Info name → ⊥
      not_here call e = cc

      first : (i : ℕ) × (call : Call) × IsOperation h i ending.process ending.key call × (name_of call ≡ name) × IsEnd h i at ending
      first = alternating.completed at ending name ends (info_completes ending.body name is)

      called : (later process : ℕ) (key : Item) (again : Call) → at < later → process ≡ event.process → IsOperation h later process key again → ⊥
      called later process key again past of_it calls =
          let begins : IsOperation h first.0 process ending.key first.1 = subst (λ p. IsOperation h first.0 p ending.key first.1) (same ∙ sym of_it) first.2 in
          let inside : first.0 < at = first.4.later in
          let returns = alternating.returned first.0 later process ending.key key first.1 again (omega arith) begins calls in
          no_return first.0 at returns.0 ending name first.4 is returns.2

      no_event_between : (i : ℕ) → IsEnd h i k event → i < at → ⊥
      no_event_between i is_end before = is_end.least at before below (ending, ends, same ∙ is_end.same)

  -- the operation that a completion ends is its process's last event before it
  last_called : (k at i : ℕ) (event latest : Event) → IsLast (take k h) event.process at latest → IsEnd h i k event → i ≡ at
  last_called k at i event latest last is_end = elim (cases_order i at) [
    | inl here ↦ here
    | inr differ ↦ elim differ [
      | inl before ↦ let there = get_taken k h at latest last.stands in absurd (is_end.least at before there.0 (latest, there.1, last.same ∙ is_end.same))
      | inr past ↦ absurd (last.last i past (record { process = is_end.process; key = is_end.key; body = Invoke is_end.call }, get_begun k h i _ is_end.later is_end.begins, sym is_end.same))
    ]
  ]

  -- so before a completion its process is busy with that operation
  busy_before : (k : ℕ) (event : Event) (status : ProcessStatus) → IsEvent h k event → ((at : ℕ) × (latest : Event) × IsLast (take k h) event.process at latest × (status ≡ left_by latest))
      → (name : Name) → Completes event.body name → status ≡ Busy name event.key
  busy_before k event status stands found name completes =
      found.3 ∙ ap left_by (one_event h found.0 found.1 (record { process = event.process; key = event.key; body = Invoke operation.1 }) there.1 (ap (λ n. slice_get h n) (sym here) ∙ operation.2))
      ∙ ap (λ n. Busy n event.key) operation.3
    where
      there : (found.0 < k) × IsEvent h found.0 found.1
      there = get_taken k h found.0 found.1 found.2.stands

      operation : (at : ℕ) × (call : Call) × IsOperation h at event.process event.key call × (name_of call ≡ name) × IsEnd h at k event
      operation = alternating.completed k event name stands completes

      here : operation.0 ≡ found.0
      here = last_called k found.0 operation.0 event found.1 found.2 operation.4

  -- what was called last has not returned
  no_event_since : (k : ℕ) (event : Event) (at : ℕ) (latest : Event) (process : ℕ) → IsLast (take k h) process at latest → (end : ℕ) → end < k → (key : Item) (call : Call) → IsOperation h at process key call → IsReturn h at end → ⊥
  no_event_since k event at latest process last end below key call begins returns = by returns
    where
      ends : (ending : Event) → IsEnd h at end ending → ⊥
      ends ending is_end =
          let same = ap (λ (e : Event). e.process) (one_event h at (record { process = is_end.process; key = is_end.key; body = Invoke is_end.call }) (record { process = process; key = key; body = Invoke call }) is_end.begins begins) in
          last.last end is_end.later (ending, get_begun k h end ending below is_end.ends, is_end.same ∙ same)

      by : IsReturn h at end → ⊥
      by (inl ok) = ends ok.1.0 ok.1.1
      by (inr failed) = ends failed.0 failed.1

  none_holds : (k : ℕ) (event : Event) (status : ProcessStatus) → IsEvent h k event → IsStatus (take k h) event.process status → (cause : Cause) → Holds functions status event cause → ⊥
  none_holds k event status stands found NotOfKind holds =
      let begins = subst (λ e. IsEvent h k e) (event_is event event.process event.key (Invoke holds.0) refl refl holds.1) stands in
      let allowed = alternating.allowed k event.process event.key holds.0 begins in
      cc
  none_holds k event status stands (inl none) RetiredProcess holds = let idle = none.1 in cc
  none_holds k event status stands (inl none) BusyProcess holds = let idle = none.1 in let busy = holds.4 in cc
  none_holds k event status stands (inl none) NoInvocation holds =
      let operation = alternating.completed k event holds.0 stands holds.1 in
      let inside : operation.0 < k = operation.4.later in
      none.0 operation.0 (record { process = event.process; key = event.key; body = Invoke operation.1 }, get_begun k h operation.0 _ inside operation.2, refl)
  none_holds k event status stands (inl none) OtherCall holds = let idle = none.1 in let busy = holds.4 in cc
  none_holds k event status stands (inl none) OtherKey holds = let idle = none.1 in let busy = holds.4 in cc
  none_holds k event status stands (inr found) RetiredProcess holds =
      let there = get_taken k h found.0 found.1 found.2.stands in
      let info = left_retired found.1.process found.1.key found.1.body (sym holds ∙ found.3) in
      not_retired k found.0 event found.1 info.0 stands there.1 found.2.same there.0 info.1
  none_holds k event status stands (inr found) BusyProcess holds =
      let there = get_taken k h found.0 found.1 found.2.stands in
      let invocation = left_busy found.1.process found.1.key found.1.body holds.2 holds.3 (sym holds.4 ∙ found.3) in
      let begins = subst (λ e. IsEvent h found.0 e) (event_is found.1 event.process found.1.key (Invoke invocation.0) found.2.same refl invocation.1) there.1 in
      let calls = subst (λ e. IsEvent h k e) (event_is event event.process event.key (Invoke holds.0) refl refl holds.1) stands in
      let returns = alternating.returned found.0 k event.process found.1.key event.key invocation.0 holds.0 there.0 begins calls in
      no_event_since k event found.0 found.1 event.process found.2 returns.0 returns.1 found.1.key invocation.0 begins returns.2
  none_holds k event status stands (inr found) NoInvocation holds = let idle = holds.2 in let busy = busy_before k event status stands found holds.0 holds.1 in cc
  none_holds k event status stands (inr found) OtherCall holds = holds.5 (one_busy holds.2 holds.0 holds.3 event.key (sym holds.4 ∙ busy_before k event status stands found holds.0 holds.1))
  none_holds k event status stands (inr found) OtherKey holds = holds.5 (one_key holds.2 holds.0 holds.3 event.key (sym holds.4 ∙ busy_before k event status stands found holds.0 holds.1))

pub well_formed_again : (functions : Item → Name → Bool) (h : List Event) → IsAlternating functions h → IsWellFormed functions h
well_formed_again functions h alternating k cause bad = none_holds functions h alternating k bad.event bad.status bad.stands bad.found cause bad.caused.holds

pub beginning_is_well_formed : (functions : Item → Name → Bool) (h : List Event) (n : ℕ) → IsWellFormed functions h → IsWellFormed functions (take n h)
beginning_is_well_formed functions h n well = λ k cause bad. well k cause (bad_longer functions h n k cause bad)
