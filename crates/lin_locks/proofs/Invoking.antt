-- What an invocation makes of what is known of a lock, and how that is undone.
use mathlib.Core.Path.{fun_ext}
use Rattle.std.proofs.Common.{◌≡◌, ◌∷◌, ◌++◌, [], ◌⊎◌, inl, inr, ℕ, Bool, true, false, List, Option, Some, length, take, nat_eq, refl, sym, ap, subst, ◌∙◌, arith, length-append}
use Rattle.std.specs.Bool.{if◌then◌else◌}
use Rattle.std.proofs.lemmas.Bool.{cases_Bool}
use Rattle.std.proofs.lemmas.Bool.Decides.{Decides-eqb}
use Rattle.lin_events.specs.declared.items.Item.{Item}
use Rattle.lin_events.specs.declared.calls.Call.{Call}
use Rattle.lin_events.specs.declared.calls.Call.TheVariants.{Read, Write, Cas, Enqueue, Dequeue, Add, Acquire, Release}
use Rattle.lin_events.specs.declared.calls.Name.{Name}
use Rattle.lin_events.specs.declared.events.Body.TheVariants.{Invoke}
use Rattle.lin_events.specs.declared.events.Event.{Event}
use Rattle.lin_events.specs.WellFormed.{IsWellFormed}
use Rattle.lin_events.specs.WellFormedLaws.{WellFormedIsAlternating}
use Rattle.lin_order.specs.ConfigurationLaws.{with_event}
use Rattle.lin_locks.specs.declared.changes.Change.TheVariants.{Invoked}
use Rattle.lin_locks.specs.declared.latest.Running.{Running}
use Rattle.lin_locks.specs.inner.Changes.{before_invocation, invoked, joined, shorter, undone}
use Rattle.lin_locks.specs.inner.Known.{Known}
use Rattle.lin_locks.specs.inner.Latest.{recalled, with_latest, with_recalled}
use Rattle.lin_locks.specs.inner.Turns.{IsRight}
use Rattle.lin_locks.proofs.Going.{filled_beside, filled_joined, filled_round}
use Rattle.lin_locks.proofs.Knowing.{running_joined}
use Rattle.lin_locks.proofs.Siding.{round, sides_beside, sides_joined}

-- the call is one of a lock's, or changes nothing
pub record IsOther (call : Call) : Type 0 where
  pub acquires : call ≡ Acquire → ⊥
  pub releases : call ≡ Release → ⊥
  pub stays : (at : ℕ) (known : Known) → invoked call at known ≡ known
  pub back : (known : Known) → before_invocation call known ≡ known

pub call_cases : (call : Call) → (call ≡ Acquire) ⊎ ((call ≡ Release) ⊎ IsOther call)
call_cases Acquire = inl refl
call_cases Release = inr (inl refl)
call_cases Read = inr (inr (record { acquires = λ e. cc; releases = λ e. cc; stays = λ at known. refl; back = λ known. refl }))
call_cases (Write v) = inr (inr (record { acquires = λ e. cc; releases = λ e. cc; stays = λ at known. refl; back = λ known. refl }))
call_cases (Cas v w) = inr (inr (record { acquires = λ e. cc; releases = λ e. cc; stays = λ at known. refl; back = λ known. refl }))
call_cases (Enqueue i) = inr (inr (record { acquires = λ e. cc; releases = λ e. cc; stays = λ at known. refl; back = λ known. refl }))
call_cases Dequeue = inr (inr (record { acquires = λ e. cc; releases = λ e. cc; stays = λ at known. refl; back = λ known. refl }))
call_cases (Add i) = inr (inr (record { acquires = λ e. cc; releases = λ e. cc; stays = λ at known. refl; back = λ known. refl }))

module _ (law : WellFormedIsAlternating) (functions : Item → Name → Bool) (h : List Event) (event : Event) (call : Call) (body : event.body ≡ Invoke call) (formed : IsWellFormed functions (with_event h event)) (known : Known) (latest : ℕ → Option Running)
    (put : (process : ℕ) → latest process ≡ with_latest known.latest event.process (record { begin = length h; call = call }) process) (was : IsRight known h) where
  -- what is known stays right
  pub right_invoked : IsRight (invoked call (length h) (record known { latest = latest })) (with_event h event)
  right_invoked =
      let alternates = (law functions (with_event h event)).0 formed in
      let running = running_joined functions h event law formed call body known.latest latest put was.running in
      elim (call_cases call) [
        | inl acquires ↦ subst (λ c. IsRight (invoked c (length h) (record known { latest = latest })) (with_event h event)) (sym acquires) (record {
          running = running;
          sides = record {
            sides = sides_joined functions h event call body alternates true known.acquires (joined (length h) known.acquires) known.releases known.held acquires refl refl was.sides.sides;
            order = filled_joined functions h event call body alternates true known.order known.acquires (joined (length h) known.acquires) known.releases known.held acquires refl refl was.sides.sides was.sides.order;
          };
        })
        | inr others ↦ elim others [
          | inl releases ↦
              let sides = round h true known.acquires known.releases known.held was.sides.sides in
              subst (λ c. IsRight (invoked c (length h) (record known { latest = latest })) (with_event h event)) (sym releases) (record {
                running = running;
                sides = record {
                  sides = round (with_event h event) false (joined (length h) known.releases) known.acquires known.held
                      (sides_joined functions h event call body alternates false known.releases (joined (length h) known.releases) known.acquires known.held releases refl refl sides);
                  order = filled_round (with_event h event) false known.order (joined (length h) known.releases) known.acquires known.held
                      (filled_joined functions h event call body alternates false known.order known.releases (joined (length h) known.releases) known.acquires known.held releases refl refl sides
                      (filled_round h true known.order known.acquires known.releases known.held was.sides.order));
                };
              })
          | inr other ↦ subst (λ k. IsRight k (with_event h event)) (sym (other.stays (length h) (record known { latest = latest }))) (record {
            running = running;
            sides = record {
              sides = sides_beside functions h event call body alternates known.acquires known.releases known.held other.acquires other.releases was.sides.sides;
              order = filled_beside functions h event call body alternates known.order known.acquires known.releases known.held was.sides.sides was.sides.order;
            };
          })
        ]
      ]

shorter_push : {A : Type 0} (xs : List A) (x : A) → shorter (xs ++ x ∷ []) ≡ xs
shorter_push xs x = ap (λ n. take n (xs ++ x ∷ [])) (let many = length-append xs (x ∷ []) in omega (arith, many)) ∙ taken xs x
  where
    taken : {A : Type 0} (xs : List A) (x : A) → take (length xs) (xs ++ x ∷ []) ≡ xs
    taken [] x = refl
    taken (y ∷ xs) x = ap (λ l. y ∷ l) (taken xs x)

-- what a process invoked last is recalled
pub recalled_same : (old new : ℕ → Option Running) (process : ℕ) (running : Running) (before : Option Running) → before ≡ old process → ((other : ℕ) → new other ≡ with_latest old process running other)
    → (other : ℕ) → with_recalled new process before other ≡ old other
recalled_same old new process running before is put other = elim (cases_Bool (nat_eq process other)) [
  | inl same ↦
      let here : new other ≡ Some running = put other ∙ ap (λ b. if b then Some running else old other) same in
      ap (λ b. if b then recalled before (new other) else new other) same ∙ ap (recalled before) here ∙ is ∙ ap old ((Decides-eqb process other).0 same)
  | inr differs ↦ ap (λ b. if b then recalled before (new other) else new other) differs ∙ put other ∙ ap (λ b. if b then Some running else old other) differs
]

pub invocation_undone : (call : Call) (at : ℕ) (known : Known) (latest : ℕ → Option Running) (process : ℕ) (running : Running) (before : Option Running) → before ≡ known.latest process
    → ((other : ℕ) → latest other ≡ with_latest known.latest process running other) → undone (Invoked process call before) (invoked call at (record known { latest = latest })) ≡ known
invocation_undone call at known latest process running before is put =
    let recall : with_recalled latest process before ≡ known.latest = fun_ext (recalled_same known.latest latest process running before is put) in
    elim (call_cases call) [
      | inl acquires ↦ subst (λ c. undone (Invoked process c before) (invoked c at (record known { latest = latest })) ≡ known) (sym acquires)
          (ap (λ l. record known { acquires = record known.acquires { opens = shorter (known.acquires.opens ++ at ∷ []) }; latest = l }) recall ∙ ap (λ o. record known { acquires = record known.acquires { opens = o } }) (shorter_push known.acquires.opens at))
      | inr others ↦ elim others [
        | inl releases ↦ subst (λ c. undone (Invoked process c before) (invoked c at (record known { latest = latest })) ≡ known) (sym releases)
            (ap (λ l. record known { releases = record known.releases { opens = shorter (known.releases.opens ++ at ∷ []) }; latest = l }) recall ∙ ap (λ o. record known { releases = record known.releases { opens = o } }) (shorter_push known.releases.opens at))
        | inr other ↦
            ap (λ (k : Known). record (before_invocation call k) { latest = with_recalled k.latest process before }) (other.stays at (record known { latest = latest }))
            ∙ ap (λ (k : Known). record k { latest = with_recalled latest process before }) (other.back (record known { latest = latest }))
            ∙ ap (λ l. record known { latest = l }) recall
      ]
    ]

-- it keeps what is known of the processes
pub latest_stays : (call : Call) (known : Known) → (before_invocation call known).latest ≡ known.latest
latest_stays call known = elim (call_cases call) [
  | inl acquires ↦ ap (λ c. (before_invocation c known).latest) acquires
  | inr others ↦ elim others [
    | inl releases ↦ ap (λ c. (before_invocation c known).latest) releases
    | inr other ↦ ap (λ (k : Known). k.latest) (other.back known)
  ]
]

pub recalled_so : (known now : Known) (latest : ℕ → Option Running) (process : ℕ) (call : Call) (before : Option Running) → now ≡ before_invocation call known → ((other : ℕ) → latest other ≡ with_recalled now.latest process before other)
    → record now { latest = latest } ≡ undone (Invoked process call before) known
recalled_so known now latest process call before is each =
    ap (λ l. record now { latest = l }) (fun_ext each)
    ∙ ap (λ (k : Known). record k { latest = with_recalled k.latest process before }) is
    ∙ ap (λ l. record (before_invocation call known) { latest = with_recalled l process before }) (latest_stays call known)
