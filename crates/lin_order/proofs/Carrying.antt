-- What the parts of `check_refutation` find out: members, placings, and what an event leaves.
use Rattle.std.proofs.Common.{◌≡◌, ℕ, Bool, true, cond, List, [], ◌∷◌, ◌++◌, Contains, All, ◌⊎◌, ◌↔◌, IsTrue, Some, inl, inr, refl, sym, ap, subst, ◌∙◌, take}
use Rattle.std.proofs.lemmas.Bool.{cases_Bool}
use Rattle.std.proofs.lemmas.List.Elements.{All-contains, Contains-append_left, Contains-push, Contains-push_cases}
use Rattle.lin_events.specs.declared.calls.Call.{Call}
use Rattle.lin_events.specs.declared.calls.Name.{Name}
use Rattle.lin_events.specs.declared.calls.Reply.{Reply}
use Rattle.lin_events.specs.declared.events.Body.TheVariants.{Invoke, Ok, Fail}
use Rattle.lin_events.specs.declared.events.Event.{Event}
use Rattle.lin_events.specs.Operations.{IsEvent}
use Rattle.lin_objects.specs.declared.kinds.Kind.{Kind}
use Rattle.lin_objects.specs.declared.states.State.{State}
use Rattle.lin_order.specs.Configurations.{IsAdded}
use Rattle.lin_order.specs.Refutations.{Config, HoldsLeft, IsClosed, IsLeft}
use Rattle.lin_order.specs.inner.Checking.{AreOpen, AreSame, Follows, HoldsLeftOf, HoldsPlacing, HoldsSteps, HoldsWith}
use Rattle.lin_order.specs.Sameness.{config_eq, config_Decides}
use Rattle.lin_lists.specs.lemmas.Elements.{all_of, nothing_in}
use Rattle.lin_order.specs.lemmas.OneEnd.{one_event}
use Rattle.lin_order.proofs.Pairs.{one_added, one_without}
use Rattle.lin_order.specs.lemmas.Prefixes.{get_from_take, get_of_take}

-- the members once one more is put in
pub members_more : (xs old new : List Config) (x : Config) (was is : Config → Bool) → ((c : Config) → IsTrue (was c) ↔ Contains old c) → ((c : Config) → IsTrue (is c) ↔ Contains new c)
    → ((c : Config) → is c ≡ cond (config_eq x c) true (was c)) → AreSame old xs → AreSame new (xs ++ x ∷ [])
members_more xs old new x was is had has puts same c = (
  λ there. elim (cases_Bool (config_eq x c)) [
    | inl equal ↦ subst (Contains (xs ++ x ∷ [])) ((config_Decides x c).0 equal) last
    | inr other ↦ Contains-append_left xs (x ∷ []) c ((same c).0 ((had c).0 (sym (puts c ∙ ap (λ b. cond b true (was c)) other) ∙ (has c).1 there)))
  ],
  λ there. (has c).0 (elim (Contains-push_cases xs x c there) [
    | inl earlier ↦ elim (cases_Bool (config_eq x c)) [
      | inl equal ↦ puts c ∙ ap (λ b. cond b true (was c)) equal
      | inr other ↦ puts c ∙ ap (λ b. cond b true (was c)) other ∙ (had c).1 ((same c).1 earlier)
    ]
    | inr equal ↦ puts c ∙ ap (λ b. cond b true (was c)) ((config_Decides x c).1 equal)
  ]),
)
  where
    last : Contains (xs ++ x ∷ []) x
    last = Contains-push xs x

-- the one configuration that adding a pair makes
pub with_iff : (b : Bool) (members : List Config) (placed more : List (ℕ × Reply)) (process : ℕ) (next : State) (reply : Reply) → IsAdded process reply placed more
    → IsTrue b ↔ Contains members (next, more) → IsTrue b ↔ HoldsWith members placed process (next, reply)
with_iff b members placed more process next reply is iff = (
  λ yes' other added. subst (λ l. Contains members (next, l)) (one_added process reply placed more other is added) (iff.0 yes'),
  λ all. iff.1 (all more is),
)

-- the steps that are left are steps, and each step is left or was fine
pub record IsTaken (step : State → Reply → Type 0) (fine : State × Reply → Type 0) (outcomes : List (State × Reply)) : Type 0 where
  pub sound : (next : State) (reply : Reply) → Contains outcomes (next, reply) → step next reply
  pub complete : (next : State) (reply : Reply) → step next reply → Contains outcomes (next, reply) ⊎ fine (next, reply)

module _ (step : State → Reply → Type 0) (fine : State × Reply → Type 0) (before now : List (State × Reply)) (outcome : State × Reply) (is : before ≡ now ++ outcome ∷ []) (so_far : IsTaken step fine before) where
  pub taken_fewer : fine outcome → IsTaken step fine now
  taken_fewer good = record {
    sound = λ next reply there. so_far.sound next reply (subst (λ l. Contains l (next, reply)) (sym is) (Contains-append_left now (outcome ∷ []) (next, reply) there));
    complete = λ next reply steps. elim (so_far.complete next reply steps) [
      | inl there ↦ elim (Contains-push_cases now outcome (next, reply) (subst (λ l. Contains l (next, reply)) is there)) [
        | inl left ↦ inl left
        | inr same ↦ inr (subst fine same good)
      ]
      | inr fined ↦ inr fined
    ];
  }

  pub taken_not : (fine outcome → ⊥) → ((next : State) (reply : Reply) → step next reply → fine (next, reply)) → ⊥
  taken_not never all = never (all outcome.0 outcome.1 (so_far.sound outcome.0 outcome.1 (subst (λ l. Contains l outcome) (sym is) (Contains-push now outcome))))

pub taken_all : (step : State → Reply → Type 0) (fine : State × Reply → Type 0) (now : List (State × Reply)) → now ≡ [] → IsTaken step fine now → (next : State) (reply : Reply) → step next reply → fine (next, reply)
taken_all step fine now empty is next reply steps = elim (is.complete next reply steps) [
  | inl there ↦ absurd (nothing_in (next, reply) (subst (λ l. Contains l (next, reply)) empty there))
  | inr fined ↦ fined
]

-- placing the operation of an invocation
module _ (h : List Event) (at : ℕ) (event : Event) (there : IsEvent h at event) (kind : Kind) (members : List Config) (c : Config) where
  pub placing_iff : (call : Call) → event.body ≡ Invoke call → (b : Bool) → IsTrue b ↔ HoldsSteps kind members c event.process call → IsTrue b ↔ HoldsPlacing kind h members c at
  placing_iff call is b iff = (
    λ yes' process key other op.
        let same = one_event h at event _ there op in
        let called : call ≡ other = same_call (sym is ∙ ap (λ (e : Event). e.body) same) in
        subst (λ p. HoldsSteps kind members c p other) (ap (λ (e : Event). e.process) same) (subst (λ k. HoldsSteps kind members c event.process k) called (iff.0 yes')),
    λ all. iff.1 (all event.process event.key call (there ∙ ap (λ b. Some (record event { body = b })) is)),
  )
    where
      same_call : {a b : Call} → Invoke a ≡ Invoke b → a ≡ b
      same_call e = cc

  pub no_placing : ((call : Call) → event.body ≡ Invoke call → ⊥) → HoldsPlacing kind h members c at
  no_placing never process key call op = absurd (never call (ap (λ (e : Event). e.body) (one_event h at event _ there op)))

-- closed is a set when all placings are members
module _ (kind : Kind) (h : List Event) (n : ℕ) (members set : List Config) (pending : List ℕ) (same : AreSame members set) (opened : AreOpen (take n h) pending) where
  pub closed_from : All (λ (c : Config). All (HoldsPlacing kind h members c) pending) set → IsClosed kind (take n h) set
  closed_from all c d p there placing =
      let each = All-contains (λ (c : Config). All (HoldsPlacing kind h members c) pending) set c all there in
      let one = All-contains (HoldsPlacing kind h members c) pending p.at each ((opened p.at).1 (placing.process, placing.key, placing.call, placing.is_open)) in
      (same d).0 (one placing.process placing.key placing.call (get_from_take n h p.at _ placing.is_open.begins).1 d.0 p.reply placing.steps d.1 placing.added)

  pub closed_to : IsClosed kind (take n h) set → (c : Config) → Contains set c → All (HoldsPlacing kind h members c) pending
  closed_to closed c there = all_of (HoldsPlacing kind h members c) pending (λ at listed process key call op next reply steps more added.
      let is_open = (opened at).0 listed in
      let inside = (get_from_take n h at _ is_open.3.begins).0 in
      (same (next, more)).1 (closed c (next, more) (record { at = at; reply = reply }) there (record {
        process = process;
        key = key;
        call = call;
        is_open = record { begins = get_of_take n h at inside ∙ op; no_ok = is_open.3.no_ok; no_fail = is_open.3.no_fail };
        steps = steps;
        added = added;
      })))

-- what an event leaves
module _ (event : Event) (members : List Config) (c : Config) where
  pub ok_left : (name : Name) (reply : Reply) → event.body ≡ Ok name reply → (fewer : List (ℕ × Reply)) → IsAdded event.process reply fewer c.1
      → (b : Bool) → IsTrue b ↔ Contains members (c.0, fewer) → IsTrue b ↔ HoldsLeftOf event members c
  ok_left name reply is fewer added b iff = (
    λ yes' d left.
        let l = subst (λ x. IsLeft event.process x c d) is left in
        let e = one_without event.process reply c.1 fewer d.1 added l.1 in
        subst (Contains members) (λ i. (l.0 i, e i)) (iff.0 yes'),
    λ all. iff.1 (all (c.0, fewer) (subst (λ x. IsLeft event.process x c (c.0, fewer)) (sym is) (refl, added))),
  )

  module _ (name : Name) (is : event.body ≡ Fail name) where
    pub fail_left : ((reply : Reply) → Contains c.1 (event.process, reply) → ⊥) → (b : Bool) → IsTrue b ↔ Contains members c → IsTrue b ↔ HoldsLeftOf event members c
    fail_left absent b iff = (
      λ yes' d left. subst (Contains members) (subst (λ x. IsLeft event.process x c d) is left).0 (iff.0 yes'),
      λ all. iff.1 (all c (subst (λ x. IsLeft event.process x c c) (sym is) (refl, absent))),
    )

    pub fail_none : (((reply : Reply) → Contains c.1 (event.process, reply) → ⊥) → ⊥) → HoldsLeftOf event members c
    fail_none there d left = absurd (there (subst (λ x. IsLeft event.process x c d) is left).1)

-- a set that follows another
module _ (kind : Kind) (h g : List Event) (at : ℕ) (event : Event) (there : IsEvent h at event) (before after members : List Config) (same : AreSame members after) where
  pub follows_iff : HoldsLeft event before members → (b : Bool) → IsTrue b ↔ IsClosed kind g after → IsTrue b ↔ ((e : Event) → IsEvent h at e → Follows kind g e before after)
  follows_iff held b iff = (
    λ yes' e is. subst (λ x. Follows kind g x before after) (one_event h at event e there is) (record { kept = λ c d x left. (same d).0 (held c d x left); closed = iff.0 yes' }),
    λ all. iff.1 (all event there).closed,
  )

  pub follows_not : (HoldsLeft event before members → ⊥) → ((e : Event) → IsEvent h at e → Follows kind g e before after) → ⊥
  follows_not never all = never (λ c d x left. (same d).1 ((all event there).kept c d x left))
