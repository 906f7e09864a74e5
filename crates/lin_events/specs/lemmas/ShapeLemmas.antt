-- Bad positions: only what stands up to a position makes it bad.
use Rattle.std.proofs.Common.{◌≡◌, ◌↔◌, ℕ, Bool, ◌<◌, suc, List, length, take, inl, inr, refl, sym, ap, ◌∙◌, subst, arith, slice_get}
use Rattle.std.proofs.lemmas.Bool.{cases_order}
use Rattle.lin_events.specs.declared.items.Item.{Item}
use Rattle.lin_events.specs.lemmas.Causes.{one_first}
use Rattle.std.proofs.lemmas.List.{take-take}
use Rattle.lin_events.specs.declared.events.Event.{Event}
use Rattle.lin_events.specs.declared.calls.Name.{Name}
use Rattle.lin_events.specs.Operations.{IsEvent}
use Rattle.lin_events.specs.Names.{name_of}
use Rattle.lin_events.specs.declared.shapes.Cause.{Cause}
use Rattle.lin_events.specs.declared.shapes.Cause.TheVariants.{RetiredProcess, BusyProcess, NotOfKind, NoInvocation, OtherCall, OtherKey}
use Rattle.lin_events.specs.declared.shapes.Shape.{Shape}
use Rattle.lin_events.specs.declared.shapes.Shape.TheVariants.{Good, Bad}
use Rattle.lin_events.specs.declared.shapes.ProcessStatus.{ProcessStatus}
use Rattle.lin_events.specs.WellFormed.{IsStatus, Holds, IsFirstCause, IsBad, IsShape}
use Rattle.lin_lists.specs.lemmas.Lists.{get_taken, get_begun, get_inside}
use Rattle.lin_events.specs.lemmas.StatusLemmas.{one_event, one_status}

-- where no cause holds, the position is not bad
pub not_bad : (functions : Item → Name → Bool) (h : List Event) (at : ℕ) (event : Event) (status : ProcessStatus) → IsEvent h at event → IsStatus (take at h) event.process status
    → ((cause : Cause) → Holds functions status event cause → ⊥) → (cause : Cause) → IsBad functions h at cause → ⊥
not_bad functions h at event status stands found none cause bad =
    let same : bad.event ≡ event = one_event h at bad.event event bad.stands stands in
    let holds : Holds functions bad.status event cause = subst (λ e. Holds functions bad.status e cause) same bad.caused.holds in
    let was : IsStatus (take at h) event.process bad.status = subst (λ (e : Event). IsStatus (take at h) e.process bad.status) same bad.found in
    none cause (subst (λ s. Holds functions s event cause) (one_status (take at h) event.process bad.status status was found) holds)

-- a cause holds alike where the objects agree on the key
holds_alike : (functions other : Item → Name → Bool) (status : ProcessStatus) (event : Event) → functions event.key ≡ other event.key → (cause : Cause) → Holds functions status event cause → Holds other status event cause
holds_alike functions other status event same RetiredProcess h = h
holds_alike functions other status event same BusyProcess h = h
holds_alike functions other status event same NotOfKind h = (h.0, h.1, sym (ap (λ has. has (name_of h.0)) same) ∙ h.2)
holds_alike functions other status event same NoInvocation h = h
holds_alike functions other status event same OtherCall h = h
holds_alike functions other status event same OtherKey h = h

-- a position is bad in each history that is the same up to it, where the objects agree on its key
pub bad_alike : (functions other : Item → Name → Bool) (h g : List Event) (at : ℕ) (cause : Cause) → take (suc at) h ≡ take (suc at) g → (bad : IsBad functions h at cause) → functions bad.event.key ≡ other bad.event.key → IsBad other g at cause
bad_alike functions other h g at cause same bad key = record {
  event = bad.event;
  stands = (get_taken (suc at) g at bad.event (ap (λ l. slice_get l at) (sym same) ∙ get_begun (suc at) h at bad.event (omega arith) bad.stands)).1;
  status = bad.status;
  found = subst (λ l. IsStatus l bad.event.process bad.status) before bad.found;
  caused = record {
    holds = holds_alike functions other bad.status bad.event key cause bad.caused.holds;
    first = λ earlier below held. bad.caused.first earlier below (holds_alike other functions bad.status bad.event (sym key) earlier held);
  };
}
  where
    before : take at h ≡ take at g
    before = sym (take-take at (suc at) h (omega arith)) ∙ ap (λ l. take at l) same ∙ take-take at (suc at) g (omega arith)

-- what is bad in a beginning is bad
pub bad_longer : (functions : Item → Name → Bool) (h : List Event) (n at : ℕ) (cause : Cause) → IsBad functions (take n h) at cause → IsBad functions h at cause
bad_longer functions h n at cause bad =
    let below : at < n = (get_taken n h at bad.event bad.stands).0 in
    bad_alike functions functions (take n h) h at cause (take-take (suc at) n h (omega arith)) bad refl

-- and what is bad inside a beginning is bad in it
pub bad_shorter : (functions : Item → Name → Bool) (h : List Event) (n at : ℕ) (cause : Cause) → at < n → IsBad functions h at cause → IsBad functions (take n h) at cause
bad_shorter functions h n at cause below bad = bad_alike functions functions h (take n h) at cause (sym (take-take (suc at) n h (omega arith))) bad refl

-- a bad position stands inside the history
pub bad_inside : (functions : Item → Name → Bool) (h : List Event) (at : ℕ) (cause : Cause) → IsBad functions h at cause → at < length h
bad_inside functions h at cause bad = get_inside h at bad.event bad.stands

-- a shape is that of each history that is the same, where the objects agree on its keys
pub shape_alike : (functions other : Item → Name → Bool) (h : List Event) (shape : Shape) → ((k : ℕ) (event : Event) → IsEvent h k event → functions event.key ≡ other event.key) → IsShape functions h shape → IsShape other h shape
shape_alike functions other h Good alike shaped = λ k cause bad. shaped k cause (bad_alike other functions h h k cause refl bad (sym (alike k bad.event bad.stands)))
shape_alike functions other h (Bad at cause) alike shaped = (
  bad_alike functions other h h at cause refl shaped.0 (alike at shaped.0.event shaped.0.stands),
  λ k other_cause below bad. shaped.1 k other_cause below (bad_alike other functions h h k other_cause refl bad (sym (alike k bad.event bad.stands))),
)

pub bad_within : (functions : Item → Name → Bool) (h : List Event) (n at : ℕ) (cause : Cause) → IsBad functions (take n h) at cause ↔ ((at < n) × IsBad functions h at cause)
bad_within functions h n at cause = (
  λ bad. ((get_taken n h at bad.event bad.stands).0, bad_longer functions h n at cause bad),
  λ is. bad_shorter functions h n at cause is.0 is.1,
)

-- a bad position has one first cause
one_cause : (functions : Item → Name → Bool) (h : List Event) (at : ℕ) (a b : Cause) → IsBad functions h at a → IsBad functions h at b → a ≡ b
one_cause functions h at a b is_a is_b =
    let same : is_b.event ≡ is_a.event = one_event h at is_b.event is_a.event is_b.stands is_a.stands in
    let found : IsStatus (take at h) is_a.event.process is_b.status = subst (λ (e : Event). IsStatus (take at h) e.process is_b.status) same is_b.found in
    let status : is_b.status ≡ is_a.status = one_status (take at h) is_a.event.process is_b.status is_a.status found is_a.found in
    one_first functions is_a.status is_a.event a b is_a.caused
    (subst (λ s. IsFirstCause functions s is_a.event b) status (subst (λ e. IsFirstCause functions is_b.status e b) same is_b.caused))

-- a history has one shape
pub one_shape : (functions : Item → Name → Bool) (h : List Event) (shape other : Shape) → IsShape functions h shape → IsShape functions h other → shape ≡ other
one_shape functions h Good Good is too = refl
one_shape functions h Good (Bad at cause) is too = absurd (is at cause too.0)
one_shape functions h (Bad at cause) Good is too = absurd (too at cause is.0)
one_shape functions h (Bad at cause) (Bad place other) is too = elim (cases_order at place) [
  | inl same ↦
      let causes : cause ≡ other = one_cause functions h place cause other (subst (λ n. IsBad functions h n cause) same is.0) too.0 in
      ap (λ n. Bad n cause) same ∙ ap (λ c. Bad place c) causes
  | inr differ ↦ elim differ [
    | inl below ↦ absurd (too.1 at cause below is.0)
    | inr above ↦ absurd (is.1 place other above too.0)
  ]
]
