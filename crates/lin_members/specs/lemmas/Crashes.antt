-- Crashed processes, and what one more event keeps.
use Rattle.std.proofs.Common.{◌≡◌, ℕ, zero, suc, ◌<◌, Bool, List, [], ◌∷◌, length, ◌⊎◌, inl, inr, refl, sym, ap, subst, ◌∙◌, arith, Some}
use Rattle.std.proofs.lemmas.Bool.{cases_eq}
use Rattle.lin_events.specs.declared.items.Item.{Item}
use Rattle.lin_events.specs.declared.calls.Name.{Name}
use Rattle.lin_events.specs.declared.calls.Call.{Call}
use Rattle.lin_events.specs.declared.calls.Reply.{Reply}
use Rattle.lin_events.specs.declared.events.Body.{Body}
use Rattle.lin_events.specs.declared.events.Body.TheVariants.{Invoke, Ok, Fail, Info}
use Rattle.lin_events.specs.declared.events.Event.{Event}
use Rattle.lin_events.specs.Alternation.{IsAlternating}
use Rattle.lin_events.specs.Operations.{IsEvent, IsOperation, IsEnd, IsCrashed, IsOpen}
use Rattle.lin_events.specs.WellFormed.{Completes}
use Rattle.lin_events.specs.WellFormedLaws.{EndsAreUnique, WellFormedIsAlternating}
use Rattle.lin_lists.specs.lemmas.Lists.{get_last}
use Rattle.lin_events.specs.lemmas.OneMore.{alternates_before, completes, end_cases, end_inside, end_kept, one_caller, one_open, open_before, open_kept, open_other, operation_before, operation_kept}
use Rattle.lin_order.specs.ConfigurationLaws.{with_event}
use Rattle.lin_members.specs.Covers.{HasCrashed}
use Rattle.lin_members.specs.Members.{IsWatching}
use Rattle.lin_members.specs.MemberLaws.{CrashedLaw}
use Rattle.lin_members.specs.lemmas.Following.{Passes}

-- the event is an info of the process
abbrev pub IsInfoOf : ℕ → Event → Type 0
IsInfoOf process event = (event.process ≡ process) × (name : Name) × (event.body ≡ Info name)

body_info : (b : Body) → ((name : Name) × (b ≡ Info name)) ⊎ ((name : Name) → b ≡ Info name → ⊥)
body_info (Invoke call) = inr (λ name e. cc)
body_info (Ok other reply) = inr (λ name e. cc)
body_info (Fail other) = inr (λ name e. cc)
body_info (Info name) = inl (name, refl)

pub invoke_no_ok : {body : Body} {call : Call} → body ≡ Invoke call → (name : Name) (reply : Reply) → body ≡ Ok name reply → ⊥
invoke_no_ok {body} {call} is name reply e = differ (sym is ∙ e)
  where
    differ : Invoke call ≡ Ok name reply → ⊥
    differ p = cc

pub invoke_no_fail : {body : Body} {call : Call} → body ≡ Invoke call → (name : Name) → body ≡ Fail name → ⊥
invoke_no_fail {body} {call} is name e = differ (sym is ∙ e)
  where
    differ : Invoke call ≡ Fail name → ⊥
    differ p = cc

pub info_no_ok : {body : Body} {named : Name} → body ≡ Info named → (name : Name) (reply : Reply) → body ≡ Ok name reply → ⊥
info_no_ok {body} {named} is name reply e = differ (sym is ∙ e)
  where
    differ : Info named ≡ Ok name reply → ⊥
    differ p = cc

pub info_no_fail : {body : Body} {named : Name} → body ≡ Info named → (name : Name) → body ≡ Fail name → ⊥
info_no_fail {body} {named} is name e = differ (sym is ∙ e)
  where
    differ : Info named ≡ Fail name → ⊥
    differ p = cc

pub invoke_no_info : {body : Body} {call : Call} → body ≡ Invoke call → (name : Name) → body ≡ Info name → ⊥
invoke_no_info {body} {call} is name e = differ (sym is ∙ e)
  where
    differ : Invoke call ≡ Info name → ⊥
    differ p = cc

pub ok_no_info : {body : Body} {named : Name} {reply : Reply} → body ≡ Ok named reply → (name : Name) → body ≡ Info name → ⊥
ok_no_info {body} {named} {reply} is name e = differ (sym is ∙ e)
  where
    differ : Ok named reply ≡ Info name → ⊥
    differ p = cc

pub fail_no_info : {body : Body} {named : Name} → body ≡ Fail named → (name : Name) → body ≡ Info name → ⊥
fail_no_info {body} {named} is name e = differ (sym is ∙ e)
  where
    differ : Fail named ≡ Info name → ⊥
    differ p = cc

-- whether a process has an info
info_or : (h : List Event) (process : ℕ) → ((at : ℕ) × (event : Event) × IsEvent h at event × IsInfoOf process event) ⊎ ((at : ℕ) (event : Event) → IsEvent h at event → IsInfoOf process event → ⊥)
info_or [] process = inr (λ at event is info. cc)
info_or (e ∷ es) process = elim (info_or es process) [
  | inl later ↦ inl (suc later.0, later.1, later.2, later.3)
  | inr none ↦ elim (cases_eq e.process process) [
    | inl same ↦ elim (body_info e.body) [
      | inl info ↦ inl (0, e, refl, (same, info.0, info.1))
      | inr other ↦ inr (λ at event is info. by at event is info none (λ f. other f.1 f.2))
    ]
    | inr other ↦ inr (λ at event is info. by at event is info none (λ f. other f.0))
  ]
]
  where
    some_same : {a b : Event} → Some a ≡ Some b → a ≡ b
    some_same p = cc

    by : (at : ℕ) (event : Event) → IsEvent (e ∷ es) at event → IsInfoOf process event → ((at : ℕ) (event : Event) → IsEvent es at event → IsInfoOf process event → ⊥) → (IsInfoOf process e → ⊥) → ⊥
    by zero event is info none differs = differs (subst (IsInfoOf process) (sym (some_same is)) info)
    by (suc at) event is info none differs = none at event is info

-- an operation that ends with an info is open
info_open : EndsAreUnique → (h : List Event) (at end process : ℕ) (ending : Event) (key : Item) (call : Call) (name : Name) → IsOperation h at process key call → IsEnd h at end ending → ending.body ≡ Info name
    → IsOpen h at process key call
info_open unique h at end process ending key call name begins e info = record {
  begins = begins;
  no_ok = λ other reply ok. info_no_ok info ok.2 reply (ap (λ (x : Event). x.body) (unique h at end other ending ok.0 e ok.1).1 ∙ ok.3);
  no_fail = λ f. info_no_fail info f.3 (ap (λ (x : Event). x.body) (unique h at end f.0 ending f.1 e f.2).1 ∙ f.4);
}

-- whether a process has crashed
pub crash_or : (functions : Item → Name → Bool) (h : List Event) → IsAlternating functions h → (process : ℕ) → HasCrashed h process ⊎ (HasCrashed h process → ⊥)
crash_or functions h alternates process = elim (info_or h process) [
  | inl some ↦ inl (found some.0 some.1 some.2 some.3)
  | inr none ↦ inr (λ c. none c.4.0 c.4.1 c.4.2.ends (c.4.2.same ∙ one_caller h c.0 c.4.2.process process c.4.2.key c.1 c.4.2.call c.2 c.4.2.begins c.3, c.4.3, c.4.4))
]
  where
    found : (end : ℕ) (event : Event) → IsEvent h end event → IsInfoOf process event → HasCrashed h process
    found end event there info =
        let ended = alternates.completed end event info.1 there (subst (λ b. Completes b info.1) (sym info.2) refl) in
        (ended.0, event.key, ended.1, subst (λ p. IsOperation h ended.0 p event.key ended.1) info.0 ended.2, (end, event, ended.4, info.1, info.2))

-- a crashed operation is open
pub crashed_open : EndsAreUnique → (h : List Event) (process : ℕ) → (c : HasCrashed h process) → IsOpen h c.0 process c.1 c.2
crashed_open unique h process c = info_open unique h c.0 c.4.0 process c.4.1 c.1 c.2 c.4.3 c.3 c.4.2 c.4.4

pub crashed_law : EndsAreUnique → WellFormedIsAlternating → CrashedLaw
crashed_law unique alternating functions h well_formed at process key call is_open = (
  λ c. subst (IsCrashed h) (one_open functions h ((alternating functions h).0 well_formed) c.0 at process c.1 key c.2 call (crashed_open unique h process c) is_open) c.4,
  λ c. (at, key, call, is_open.begins, c),
)

module _ (h : List Event) (event : Event) where
  pub crash_kept : (q : ℕ) → HasCrashed h q → HasCrashed (with_event h event) q
  crash_kept q c = (c.0, c.1, c.2, operation_kept h event c.0 q c.1 c.2 c.3, (c.4.0, c.4.1, end_kept h event c.0 c.4.0 c.4.1 c.4.2, c.4.3, c.4.4))

  -- a crashed process had crashed, or crashes just now
  pub crash_before : (q : ℕ) → HasCrashed (with_event h event) q → HasCrashed h q ⊎ IsInfoOf q event
  crash_before q c = elim (end_cases h event c.0 c.4.0 c.4.1 c.4.2) [
    | inl old ↦
        let inside = end_inside h c.0 c.4.0 c.4.1 old in
        let later : c.0 < c.4.0 = old.later in
        inl (c.0, c.1, c.2, operation_before h event c.0 q c.1 c.2 (λ same. omega arith) c.3, (c.4.0, c.4.1, old, c.4.3, c.4.4))
    | inr new ↦ inr (
      ap (λ (x : Event). x.process) new.1 ∙ c.4.2.same ∙ one_caller (with_event h event) c.0 c.4.2.process q c.4.2.key c.1 c.4.2.call c.2 c.4.2.begins c.3,
      c.4.3,
      ap (λ (x : Event). x.body) new.1 ∙ c.4.4,
    )
  ]

  -- an open observer stays one, unless it ends or crashes
  pub watching_kept : (observes : Call → Bool) (q : ℕ) → (w : IsWatching observes h q) → IsOpen (with_event h event) w.at q w.key w.call
      → (IsInfoOf q event → ⊥) → IsWatching observes (with_event h event) q
  watching_kept observes q w is_open other = record {
    at = w.at;
    key = w.key;
    call = w.call;
    is_open = is_open;
    observer = w.observer;
    alive = λ c. elim (crash_before q c) [
      | inl old ↦ w.alive old
      | inr new ↦ other new
    ];
  }

  pub passes_invoke : (observes : Call → Bool) (call : Call) → event.body ≡ Invoke call → Passes observes h (with_event h event) (λ q. ⊥)
  passes_invoke observes call is = record {
    crashes = crash_kept;
    opens = λ at q key c none is_open. kept at q key c is_open;
    watches = λ q none w. inl (watching_kept observes q w (kept w.at q w.key w.call w.is_open) (λ info. invoke_no_info is info.1 info.2));
    shut = λ at q key c none is_open. none;
  }
    where
      kept : (at q : ℕ) (key : Item) (c : Call) → IsOpen h at q key c → IsOpen (with_event h event) at q key c
      kept at q key c o = open_kept h event (λ name reply. invoke_no_ok is name reply) (λ name. invoke_no_fail is name) at q key c o

  module _ (functions : Item → Name → Bool) (alternates : IsAlternating functions (with_event h event)) where
    completed : (name : Name) → Completes event.body name → (at : ℕ) × (key : Item) × (call : Call) × IsOpen h at event.process key call × IsEnd (with_event h event) at (length h) event
    completed name is = completes h event functions alternates name is

    -- an info: its process has crashed now
    pub crashes_now : (name : Name) → event.body ≡ Info name → HasCrashed (with_event h event) event.process
    crashes_now name is =
        let i = completed name (subst (λ b. Completes b name) (sym is) refl) in
        (i.0, i.1, i.2, operation_kept h event i.0 event.process i.1 i.2 i.3.begins, (length h, event, i.4, name, is))

    pub passes_info : (observes : Call → Bool) (name : Name) → event.body ≡ Info name → Passes observes h (with_event h event) (λ q. ⊥)
    passes_info observes name is = record {
      crashes = crash_kept;
      opens = λ at q key c none is_open. kept at q key c is_open;
      watches = λ q none w. elim (cases_eq event.process q) [
        | inl same ↦ inr (subst (HasCrashed (with_event h event)) same (crashes_now name is))
        | inr other ↦ inl (watching_kept observes q w (kept w.at q w.key w.call w.is_open) (λ info. other info.0))
      ];
      shut = λ at q key c none is_open. none;
    }
      where
        kept : (at q : ℕ) (key : Item) (c : Call) → IsOpen h at q key c → IsOpen (with_event h event) at q key c
        kept at q key c o = open_kept h event (λ name reply. info_no_ok is name reply) (λ name. info_no_fail is name) at q key c o

    -- the open operation of the process ends at the event
    pub open_ends : (name : Name) → Completes event.body name → (at : ℕ) (key : Item) (call : Call) → IsOpen h at event.process key call → IsEnd (with_event h event) at (length h) event
    open_ends name is at key call o =
        let i = completed name is in
        subst (λ k. IsEnd (with_event h event) k (length h) event) (one_open functions h (alternates_before h event functions alternates) i.0 at event.process i.1 key i.2 call i.3 o) i.4

    -- a process that returns has not crashed
    pub never_crashed : EndsAreUnique → (name : Name) → Completes event.body name → ((other : Name) → event.body ≡ Info other → ⊥) → HasCrashed h event.process → ⊥
    never_crashed unique name is no_info c =
        let e = open_ends name is c.0 c.1 c.2 (crashed_open unique h event.process c) in
        no_info c.4.3 (ap (λ (x : Event). x.body) (unique (with_event h event) c.0 (length h) c.4.0 event c.4.1 e (end_kept h event c.0 c.4.0 c.4.1 c.4.2)).1 ∙ c.4.4)

    -- after a return: what is open and crashed is as before, but for the process
    pub passes_return : (observes : Call → Bool) (name : Name) → Completes event.body name → ((other : Name) → event.body ≡ Info other → ⊥)
        → ((at : ℕ) (key : Item) (call : Call) → IsEnd (with_event h event) at (length h) event → IsOpen (with_event h event) at event.process key call → ⊥)
        → Passes observes h (with_event h event) (λ q. q ≡ event.process)
    passes_return observes name is no_info closes = record {
      crashes = crash_kept;
      opens = λ at q key c other is_open. open_other h event at q key c other is_open;
      watches = λ q other w. inl (watching_kept observes q w (open_other h event w.at q w.key w.call other w.is_open) (λ info. no_info info.1 info.2));
      shut = λ at q key c same is_open.
          let o = subst (λ p. IsOpen (with_event h event) at p key c) same is_open in
          closes at key c (open_ends name is at key c (open_before h event at event.process key c (λ e. not_last at key c e o) o)) o;
    }
      where
        not_last : (at : ℕ) (key : Item) (c : Call) → at ≡ length h → IsOpen (with_event h event) at event.process key c → ⊥
        not_last at key c e o = never event.body (ap (λ (x : Event). x.body) (some_same (sym (get_last h event) ∙ subst (λ k. IsEvent (with_event h event) k (record { process = event.process; key = key; body = Invoke c })) e o.begins))) is
          where
            some_same : {a b : Event} → Some a ≡ Some b → a ≡ b
            some_same p = cc

            never : (body : Body) → body ≡ Invoke c → Completes body name → ⊥
            never body f done = subst (λ b. Completes b name) f done

    pub passes_ok : (observes : Call → Bool) (name : Name) (reply : Reply) → event.body ≡ Ok name reply → Passes observes h (with_event h event) (λ q. q ≡ event.process)
    passes_ok observes name reply is = passes_return observes name (subst (λ b. Completes b name) (sym is) refl) (λ other. ok_no_info is other)
        (λ at key c e o. o.no_ok (length h) reply (event, e, name, is))

    pub passes_fail : (observes : Call → Bool) (name : Name) → event.body ≡ Fail name → Passes observes h (with_event h event) (λ q. q ≡ event.process)
    passes_fail observes name is = passes_return observes name (subst (λ b. Completes b name) (sym is) refl) (λ other. fail_no_info is other)
        (λ at key c e o. o.no_fail (length h, event, e, name, is))
