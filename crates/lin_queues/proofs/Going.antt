-- What the engine knows after one more event.
use Rattle.std.proofs.Common.{◌≡◌, ◌≢◌, ◌<◌, ℕ, Bool, false, List, [], ◌∷◌, ◌++◌, length, ◌⊎◌, Some, inl, inr, refl, sym, ap, ◌∙◌, subst, arith, slice_get, get_or, Contains}
use Rattle.std.specs.List.{remove}
use Rattle.std.proofs.lemmas.Bool.{false≢true}
use Rattle.std.proofs.lemmas.Option.{get_or_from_slice_get}
use Rattle.lin_events.specs.declared.items.Item.{Item}
use Rattle.lin_events.specs.declared.events.Event.{Event}
use Rattle.lin_events.specs.declared.events.Body.TheVariants.{Invoke, Ok, Fail, Info}
use Rattle.lin_events.specs.declared.calls.Call.{Call}
use Rattle.lin_events.specs.declared.calls.Call.TheVariants.{Enqueue}
use Rattle.lin_events.specs.declared.calls.Name.{Name}
use Rattle.lin_events.specs.declared.calls.Reply.{Reply}
use Rattle.lin_events.specs.Operations.{IsOperation, IsEnd, IsOk, IsOpen}
use Rattle.lin_events.specs.WellFormed.{IsWellFormed}
use Rattle.lin_events.specs.WellFormed as formed
use Rattle.lin_events.specs.WellFormedLaws.{EndsAreUnique, WellFormedIsAlternating}
use Rattle.lin_events.specs.Alternation.{IsAlternating}
use Rattle.lin_objects.specs.declared.kinds.Kind.TheVariants.{Fifo}
use Rattle.lin_order.specs.declared.placed.Placed.{Placed}
use Rattle.lin_order.specs.Linearizable.{IsLinearizableAs}
use Rattle.lin_order.specs.ConfigurationLaws.{with_event}
use Rattle.lin_order.specs.lemmas.Opening.{one_of_process, was_open}
use Rattle.lin_lists.specs.lemmas.Lists.{get_left, get_cases, get_last}
use Rattle.lin_queues.specs.Debts.{IsWhole}
use Rattle.lin_queues.specs.Laws.{BeginningLaw, Completes, FailLaw, InfoLaw, InvocationLaw, NoneLaw}
use Rattle.lin_queues.specs.declared.debts.Debts.{Debts}
use Rattle.lin_queues.specs.declared.elements.Element.{Element}
use Rattle.lin_queues.specs.declared.members.QueueMember.{QueueMember}
use Rattle.lin_queues.specs.declared.opens.OpenCall.{OpenCall}
use Rattle.lin_queues.specs.Engines.{AreDebtsOf, AreElements, IsCompleting}
use Rattle.lin_queues.specs.Gathering.{HaveReturned, IsCovered, IsReturning}
use Rattle.lin_queues.specs.Members.{AreEnqueues, Told, view_of}
use Rattle.lin_queues.specs.Opens.{AreOpen}
use Rattle.lin_queues.specs.Reaching.{Reached}
use Rattle.lin_queues.proofs.Listing.{enqueues_on, returned_on, enqueues_whole, open_returned}
use Rattle.lin_queues.proofs.Lists.{one_there}
use Rattle.lin_queues.proofs.Telling.{told_on}

-- members that tell of each legal order
pub goes_on : (next : Debts) (h : List Event) (full : Bool) → full ≡ false → 0 < length next.members.items → next.reached ≡ length h → AreElements h next.elements → AreOpen h next.pending.items
    → ((whole : List Event) (order : List Placed) → IsWhole h whole order → IsCovered whole order (length h) next.elements.all.items next.members.items full)
    → ((m : QueueMember) → Contains next.members.items m → Reached h next.elements.all.items (view_of m)) → AreDebtsOf next h
goes_on next h full not_full left reached elements opened covered made = record {
  reached = reached;
  elements = elements;
  opened = opened;
  left = left;
  told = λ whole order is_whole. elim (covered whole order is_whole) [
    | inl is_full ↦ absurd (false≢true (sym not_full ∙ is_full))
    | inr found ↦ found
  ];
  made = made;
}

-- no member
pub has_failed : NoneLaw → (h : List Event) (all : List Element) (members : List QueueMember) (full : Bool) → full ≡ false → members ≡ []
    → ((whole : List Event) (order : List Placed) → IsWhole h whole order → IsCovered whole order (length h) all members full) → IsLinearizableAs Fifo h → ⊥
has_failed law h all members full not_full none covered = law h (λ whole order is_whole. elim (covered whole order is_whole) [
  | inl is_full ↦ absurd (false≢true (sym not_full ∙ is_full))
  | inr found ↦ absurd (empty found.0 (subst (λ l. Contains l found.0) none found.1))
])
  where
    empty : (m : QueueMember) → Contains [] m → ⊥
    empty m there = (let l = there.1 in omega arith)

module _ (beginning : BeginningLaw) (h : List Event) (event : Event) where
  -- a legal order is told of ahead of the event
  pub was_told : (debts : Debts) → AreDebtsOf debts h → (whole : List Event) (order : List Placed) → IsWhole (with_event h event) whole order
      → (m : QueueMember) × Contains debts.members.items m × Told whole order (length h) debts.elements.all.items (view_of m)
  was_told debts are whole order is_whole = are.told whole order (beginning h event whole order is_whole)

  pub told_invoked : InvocationLaw → (call : Call) → event.body ≡ Invoke call → (debts : Debts) → AreDebtsOf debts h → (whole : List Event) (order : List Placed) → IsWhole (with_event h event) whole order
      → (m : QueueMember) × Contains debts.members.items m × Told whole order (length (with_event h event)) debts.elements.all.items (view_of m)
  told_invoked law call is debts are whole order is_whole =
      let was = was_told debts are whole order is_whole in
      (was.0, was.1, told_on whole order (length h) debts.elements.all.items (view_of was.0) was.2 (length (with_event h event)) (law h event call whole order was.2.debtor is is_whole was.2.follows))

  pub told_informed : InfoLaw → (name : Name) → event.body ≡ Info name → (debts : Debts) → AreDebtsOf debts h → (whole : List Event) (order : List Placed) → IsWhole (with_event h event) whole order
      → (m : QueueMember) × Contains debts.members.items m × Told whole order (length (with_event h event)) debts.elements.all.items (view_of m)
  told_informed law name is debts are whole order is_whole =
      let was = was_told debts are whole order is_whole in
      (was.0, was.1, told_on whole order (length h) debts.elements.all.items (view_of was.0) was.2 (length (with_event h event)) (law h event name whole order was.2.debtor is is_whole was.2.follows))

  pub told_failed : FailLaw → (functions : Item → Name → Bool) (place : ℕ) (call : Call) (name : Name) → Completes functions h event place call → event.body ≡ Fail name → (debts : Debts) → AreDebtsOf debts h
      → (whole : List Event) (order : List Placed) → IsWhole (with_event h event) whole order
      → (m : QueueMember) × Contains debts.members.items m × (Contains (view_of m).early place → ⊥) × Told whole order (length (with_event h event)) debts.elements.all.items (view_of m)
  told_failed law functions place call name completes is debts are whole order is_whole =
      let was = was_told debts are whole order is_whole in
      let now = law functions h event place call name whole order was.2.debtor completes is is_whole was.2.follows in
      (was.0, was.1, (λ early. now.1 (subst (λ l. Contains l place) (sym was.2.early) early)), told_on whole order (length h) debts.elements.all.items (view_of was.0) was.2 (length (with_event h event)) now.0)

-- the operation that the event completes
pub completing : (h : List Event) (event : Event) (functions : Item → Name → Bool) → IsWellFormed functions (with_event h event) → (pending : List OpenCall) → AreOpen h pending → (at : ℕ) (o : OpenCall) → slice_get pending at ≡ Some o
    → o.process ≡ event.process → Completes functions h event o.place o.call
completing h event functions well_formed pending opened at o there same =
    let was = opened.sound at o there in
    record { well_formed = well_formed; key = was.0; is_open = subst (λ p. IsOpen h o.place p was.0 o.call) same was.1 }

-- and the list without it
pub taken_off : WellFormedIsAlternating → EndsAreUnique → (functions : Item → Name → Bool) (h : List Event) (event : Event) (name : Name) → formed.Completes event.body name
    → ((n : Name) × (reply : Reply) × (event.body ≡ Ok n reply)) ⊎ ((n : Name) × (event.body ≡ Fail n)) → IsWellFormed functions (with_event h event) → (pending : List OpenCall) → AreOpen h pending → (at : ℕ) (o : OpenCall) → slice_get pending at ≡ Some o
    → o.process ≡ event.process → (rest : List OpenCall) → rest ≡ remove pending at → (taken : OpenCall) → taken ≡ get_or pending at taken → AreOpen (with_event h event) rest × Completes functions h event taken.place taken.call
taken_off alternating unique functions h event name completes returned well_formed pending opened at o there same rest left taken is = (
  subst (AreOpen (with_event h event)) (sym left) (open_returned alternating unique functions h event pending name completes returned well_formed opened at o there same),
  subst (λ (x : OpenCall). Completes functions h event x.place x.call) (sym (is ∙ get_or_from_slice_get pending at o taken there)) (completing h event functions well_formed pending opened at o there same),
)

-- the event returns this operation
module _ (debts : Debts) (functions : Item → Name → Bool) (h : List Event) (event : Event) (place : ℕ) (call : Call) (reply : Reply) (completing' : IsCompleting debts functions h event place call reply) where
  pub is_returning : (whole : List Event) (order : List Placed) (all : List Element) → AreEnqueues (with_event h event) all → HaveReturned (with_event h event) all → IsWhole (with_event h event) whole order
      → IsReturning functions h event place call reply whole order all
  is_returning whole order all enqueues returned is_whole = record {
    completes = completing'.completes;
    name = completing'.name;
    body = completing'.body;
    is_whole = is_whole;
    enqueues = enqueues_whole (with_event h event) whole order all is_whole enqueues;
    returned = returned;
  }

  pub old_enqueues : AreEnqueues (with_event h event) debts.elements.all.items
  old_enqueues = enqueues_on h event debts.elements.all.items completing'.elements.enqueues

  pub old_returned : HaveReturned (with_event h event) debts.elements.all.items
  old_returned = returned_on h event debts.elements.all.items completing'.elements.returned

  pub as_before : BeginningLaw → (whole : List Event) (order : List Placed) → IsWhole (with_event h event) whole order
      → (m : QueueMember) × Contains debts.members.items m × Told whole order (length h) debts.elements.all.items (view_of m)
  as_before beginning whole order is_whole = completing'.told whole order (beginning h event whole order is_whole)

  -- an element more
  module _ (unique : EndsAreUnique) (alternating : WellFormedIsAlternating) (new : Element) (named : new.place ≡ place) (put : call ≡ Enqueue new.item) (ended_at : new.returned ≡ length h) where
    alternates : IsAlternating functions (with_event h event)
    alternates = (alternating functions (with_event h event)).0 completing'.completes.well_formed

    ended : (i : ℕ) × IsEnd (with_event h event) i (length h) event
    ended =
        let completes : formed.Completes event.body completing'.name = subst (λ b. formed.Completes b completing'.name) (sym completing'.body) refl in
        let found = alternates.completed (length h) event completing'.name (get_last h event) completes in
        (found.0, found.4)

    is_ok : IsOk (with_event h event) new.place new.returned reply
    is_ok =
        let own = completing'.completes.is_open in
        let e = one_of_process h event unique functions alternates ended.0 ended.1 place completing'.completes.key call own in
        (event, subst (λ k. IsEnd (with_event h event) k new.returned event) (sym (named ∙ e)) (subst (λ n. IsEnd (with_event h event) ended.0 n event) (sym ended_at) ended.1), completing'.name, completing'.body)

    apart : (i : ℕ) (x : Element) → slice_get debts.elements.all.items i ≡ Some x → x.place ≢ new.place
    apart i x at same =
        let ok = completing'.elements.returned i x at in
        completing'.completes.is_open.no_ok x.returned ok.0 (subst (λ k. IsOk h k x.returned ok.0) (same ∙ named) ok.1)

    pub more_enqueues : AreEnqueues (with_event h event) (debts.elements.all.items ++ new ∷ [])
    more_enqueues = record {
      called = λ i x at. elim (get_cases debts.elements.all.items new i x at) [
        | inl old ↦ old_enqueues.called i x old
        | inr last ↦
            let own = completing'.completes.is_open.begins in
            let begins = get_left h event place _ own in (
              event.process,
              completing'.completes.key,
              subst (λ (y : Element). IsOperation (with_event h event) y.place event.process completing'.completes.key (Enqueue y.item)) last.1
                  (subst (λ k. IsOperation (with_event h event) k event.process completing'.completes.key (Enqueue new.item)) (sym named) (subst (λ c. IsOperation (with_event h event) place event.process completing'.completes.key c) put begins)),
            )
      ];
      once = λ i j x y at_i at_j same. elim (get_cases debts.elements.all.items new i x at_i) [
        | inl old_i ↦ elim (get_cases debts.elements.all.items new j y at_j) [
          | inl old_j ↦ completing'.elements.enqueues.once i j x y old_i old_j same
          | inr last ↦ absurd (apart i x old_i (same ∙ ap (λ (z : Element). z.place) (sym last.1)))
        ]
        | inr last ↦ elim (get_cases debts.elements.all.items new j y at_j) [
          | inl old_j ↦ absurd (apart j y old_j (sym same ∙ ap (λ (z : Element). z.place) (sym last.1)))
          | inr other ↦ last.0 ∙ sym other.0
        ]
      ];
    }

    pub more_returned : HaveReturned (with_event h event) (debts.elements.all.items ++ new ∷ [])
    more_returned = λ i x at. elim (get_cases debts.elements.all.items new i x at) [
      | inl old ↦ old_returned i x old
      | inr last ↦ (reply, subst (λ (y : Element). IsOk (with_event h event) y.place y.returned reply) last.1 is_ok)
    ]

-- where nothing is a legal order, whatever comes behind, the events have none
pub never : NoneLaw → (h : List Event) → ((whole : List Event) (order : List Placed) → IsWhole h whole order → ⊥) → IsLinearizableAs Fifo h → ⊥
never law h none = law h (λ whole order is_whole. absurd (none whole order is_whole))

-- an operation is of one process
one_process : (h : List Event) (at p q : ℕ) (key other : Item) (call again : Call) → IsOperation h at p key call → IsOperation h at q other again → p ≡ q
one_process h at p q key other call again first second = ap (λ (e : Event). e.process) (one_there h at _ _ first second)

-- a completion is of a process that has an operation in the list
pub some_open : (alternating : WellFormedIsAlternating) (unique : EndsAreUnique) (functions : Item → Name → Bool) (h : List Event) (event : Event) (name : Name) → formed.Completes event.body name → IsWellFormed functions (with_event h event)
    → (pending : List OpenCall) → AreOpen h pending → ((k : ℕ) (o : OpenCall) → slice_get pending k ≡ Some o → o.process ≡ event.process → ⊥) → ⊥
some_open alternating unique functions h event name completes well_formed pending opened missing =
    let alternates = (alternating functions (with_event h event)).0 well_formed in
    let ended = alternates.completed (length h) event name (get_last h event) completes in
    let own = was_open h event unique functions alternates ended.0 ended.4 in
    let found = opened.complete ended.0 event.process ended.4.key ended.4.call own in
    let listed = opened.sound found.0 found.1 found.2 in
    missing found.0 found.1 found.2
    (one_process h ended.0 found.1.process event.process listed.0 ended.4.key found.1.call ended.4.call (subst (λ n. IsOperation h n found.1.process listed.0 found.1.call) found.3 listed.1.begins) own.begins)
