-- The table of causes, row by row: which is the first that holds.
use Rattle.std.proofs.Common.{◌≡◌, ◌≢◌, Bool, ◌<◌, false, inl, inr, refl, sym, ◌∙◌, subst, arith}
use Rattle.std.proofs.lemmas.Bool.{cases_order}
use Rattle.lin_events.specs.declared.items.Item.{Item}
use Rattle.lin_events.specs.declared.calls.Call.{Call}
use Rattle.lin_events.specs.declared.calls.Name.{Name}
use Rattle.lin_events.specs.declared.events.Body.{Body}
use Rattle.lin_events.specs.declared.events.Body.TheVariants.{Invoke, Ok, Fail, Info}
use Rattle.lin_events.specs.declared.events.Event.{Event}
use Rattle.lin_events.specs.Names.{name_of}
use Rattle.lin_events.specs.declared.shapes.Cause.{Cause}
use Rattle.lin_events.specs.declared.shapes.Cause.TheVariants.{RetiredProcess, BusyProcess, NotOfKind, NoInvocation, OtherCall, OtherKey}
use Rattle.lin_events.specs.declared.shapes.ProcessStatus.{ProcessStatus}
use Rattle.lin_events.specs.declared.shapes.ProcessStatus.TheVariants.{Idle, Busy, Retired}
use Rattle.lin_events.specs.WellFormed.{Completes, Holds, number, IsFirstCause}

-- an invocation is no completion
pub no_completion : (body : Body) (call : Call) (name : Name) → body ≡ Invoke call → Completes body name → ⊥
no_completion body call name is completes = subst (λ b. Completes b name) is completes

-- a completion names one function
pub one_completion : (body : Body) (a b : Name) → Completes body a → Completes body b → a ≡ b
one_completion (Invoke call) a b at_a at_b = absurd at_a
one_completion (Ok name reply) a b at_a at_b = sym at_a ∙ at_b
one_completion (Fail name) a b at_a at_b = sym at_a ∙ at_b
one_completion (Info name) a b at_a at_b = sym at_a ∙ at_b

pub one_busy : (a b : Name) (x y : Item) → Busy a x ≡ Busy b y → a ≡ b
one_busy a b x y e = cc

pub one_key : (a b : Name) (x y : Item) → Busy a x ≡ Busy b y → x ≡ y
one_key a b x y e = cc

module _ (functions : Item → Name → Bool) (status : ProcessStatus) (event : Event) where
  pub retired_first : status ≡ Retired → IsFirstCause functions status event RetiredProcess
  retired_first retired = record { holds = retired; first = first }
    where
      first : (other : Cause) → number other < 1 → Holds functions status event other → ⊥
      first RetiredProcess below h = omega arith
      first BusyProcess below h = omega arith
      first _ below h = omega arith

  pub busy_first : (call : Call) (called : Name) (key : Item) → status ≡ Busy called key → event.body ≡ Invoke call → IsFirstCause functions status event BusyProcess
  busy_first call called key busy invokes = record { holds = (call, invokes, called, key, busy); first = first }
    where
      first : (other : Cause) → number other < 2 → Holds functions status event other → ⊥
      first RetiredProcess below h = cc
      first _ below h = omega arith

  pub function_first : (call : Call) → status ≡ Idle → event.body ≡ Invoke call → functions event.key (name_of call) ≡ false → IsFirstCause functions status event NotOfKind
  function_first call idle invokes refused = record { holds = (call, invokes, refused); first = first }
    where
      first : (other : Cause) → number other < 3 → Holds functions status event other → ⊥
      first RetiredProcess below h = cc
      first BusyProcess below h = let busy = h.4 in cc
      first _ below h = omega arith

  pub idle_first : (name : Name) → status ≡ Idle → Completes event.body name → IsFirstCause functions status event NoInvocation
  idle_first name idle completes = record { holds = (name, completes, idle); first = first }
    where
      first : (other : Cause) → number other < 4 → Holds functions status event other → ⊥
      first RetiredProcess below h = cc
      first BusyProcess below h = no_completion event.body h.0 name h.1 completes
      first NotOfKind below h = no_completion event.body h.0 name h.1 completes
      first _ below h = omega arith

  pub call_first : (name called : Name) (key : Item) → status ≡ Busy called key → Completes event.body name → called ≢ name → IsFirstCause functions status event OtherCall
  call_first name called key busy completes differ = record { holds = (name, completes, called, key, busy, differ); first = first }
    where
      first : (other : Cause) → number other < 5 → Holds functions status event other → ⊥
      first RetiredProcess below h = cc
      first BusyProcess below h = no_completion event.body h.0 name h.1 completes
      first NotOfKind below h = no_completion event.body h.0 name h.1 completes
      first NoInvocation below h = let idle = h.2 in cc
      first _ below h = omega arith

  pub key_first : (name : Name) (key : Item) → status ≡ Busy name key → Completes event.body name → key ≢ event.key → IsFirstCause functions status event OtherKey
  key_first name key busy completes differ = record { holds = (name, completes, name, key, busy, differ); first = first }
    where
      first : (other : Cause) → number other < 6 → Holds functions status event other → ⊥
      first RetiredProcess below h = cc
      first BusyProcess below h = no_completion event.body h.0 name h.1 completes
      first NotOfKind below h = no_completion event.body h.0 name h.1 completes
      first NoInvocation below h = let idle = h.2 in cc
      first OtherCall below h =
          let named : h.0 ≡ name = one_completion event.body h.0 name h.1 completes in
          let called : h.2 ≡ name = one_busy h.2 name h.3 key (sym h.4 ∙ busy) in
          h.5 (called ∙ sym named)
      first OtherKey below h = omega arith

-- causes have different numbers
one_number : (a b : Cause) → number a ≡ number b → a ≡ b
one_number RetiredProcess RetiredProcess e = refl
one_number RetiredProcess BusyProcess e = absurd (omega (arith, e))
one_number RetiredProcess NotOfKind e = absurd (omega (arith, e))
one_number RetiredProcess NoInvocation e = absurd (omega (arith, e))
one_number RetiredProcess OtherCall e = absurd (omega (arith, e))
one_number RetiredProcess OtherKey e = absurd (omega (arith, e))
one_number BusyProcess RetiredProcess e = absurd (omega (arith, e))
one_number BusyProcess BusyProcess e = refl
one_number BusyProcess NotOfKind e = absurd (omega (arith, e))
one_number BusyProcess NoInvocation e = absurd (omega (arith, e))
one_number BusyProcess OtherCall e = absurd (omega (arith, e))
one_number BusyProcess OtherKey e = absurd (omega (arith, e))
one_number NotOfKind RetiredProcess e = absurd (omega (arith, e))
one_number NotOfKind BusyProcess e = absurd (omega (arith, e))
one_number NotOfKind NotOfKind e = refl
one_number NotOfKind NoInvocation e = absurd (omega (arith, e))
one_number NotOfKind OtherCall e = absurd (omega (arith, e))
one_number NotOfKind OtherKey e = absurd (omega (arith, e))
one_number NoInvocation RetiredProcess e = absurd (omega (arith, e))
one_number NoInvocation BusyProcess e = absurd (omega (arith, e))
one_number NoInvocation NotOfKind e = absurd (omega (arith, e))
one_number NoInvocation NoInvocation e = refl
one_number NoInvocation OtherCall e = absurd (omega (arith, e))
one_number NoInvocation OtherKey e = absurd (omega (arith, e))
one_number OtherCall RetiredProcess e = absurd (omega (arith, e))
one_number OtherCall BusyProcess e = absurd (omega (arith, e))
one_number OtherCall NotOfKind e = absurd (omega (arith, e))
one_number OtherCall NoInvocation e = absurd (omega (arith, e))
one_number OtherCall OtherCall e = refl
one_number OtherCall OtherKey e = absurd (omega (arith, e))
one_number OtherKey RetiredProcess e = absurd (omega (arith, e))
one_number OtherKey BusyProcess e = absurd (omega (arith, e))
one_number OtherKey NotOfKind e = absurd (omega (arith, e))
one_number OtherKey NoInvocation e = absurd (omega (arith, e))
one_number OtherKey OtherCall e = absurd (omega (arith, e))
one_number OtherKey OtherKey e = refl

-- one cause is the first that holds
pub one_first : (functions : Item → Name → Bool) (status : ProcessStatus) (event : Event) (a b : Cause) → IsFirstCause functions status event a → IsFirstCause functions status event b → a ≡ b
one_first functions status event a b is_a is_b = elim (cases_order (number a) (number b)) [
  | inl same ↦ one_number a b same
  | inr differ ↦ elim differ [
    | inl below ↦ absurd (is_b.first a below is_a.holds)
    | inr above ↦ absurd (is_a.first b above is_b.holds)
  ]
]
