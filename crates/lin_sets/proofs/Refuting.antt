-- Where operations of a set conflict, no order of them is legal.
use Rattle.std.proofs.Common.{◌≡◌, ℕ, List, [], ◌∷◌, ◌++◌, ◌⊎◌, inl, inr, AllPairs, Contains, refl, sym, ap, subst, ◌∙◌, arith}
use Rattle.std.proofs.lemmas.Bool.{cases_lt}
use Rattle.std.proofs.lemmas.List.Elements.{All-contains, Contains-append_cases, Contains-append_left}
use Rattle.lin_events.specs.Items.{item_cmp}
use Rattle.lin_events.specs.declared.items.Item.{Item}
use Rattle.lin_events.specs.declared.calls.Call.{Call}
use Rattle.lin_events.specs.declared.calls.Call.TheVariants.{Read, Add}
use Rattle.lin_events.specs.declared.calls.Reply.{Reply}
use Rattle.lin_events.specs.declared.calls.Reply.TheVariants as Replied
use Rattle.lin_events.specs.declared.events.Event.{Event}
use Rattle.lin_events.specs.Operations.{IsFailed, IsOk}
use Rattle.lin_events.specs.lemmas.Rising.{rising_with, with_adds_none, with_has, with_keeps}
use Rattle.lin_lists.specs.Sets.{IsRising, with_member}
use Rattle.lin_lists.specs.lemmas.Elements.{first_or_rest, nothing_in}
use Rattle.lin_objects.specs.declared.kinds.Kind.TheVariants.{Set}
use Rattle.lin_objects.specs.declared.states.State.{State}
use Rattle.lin_objects.specs.declared.states.State.TheVariants.{Members}
use Rattle.lin_objects.specs.Steps.{Step, start}
use Rattle.lin_order.specs.declared.placed.Placed.{Placed}
use Rattle.lin_order.specs.Linearizable.{IsLegalOrderBy, IsLinearizableAs, Runs}
use Rattle.lin_order.specs.Orders.{IsBefore, IsCall}
use Rattle.lin_order.specs.lemmas.OneEnd.{one_call}
use Rattle.lin_order.specs.lemmas.Running.{runs_split}
use Rattle.lin_certificates.specs.SetConflicts.{Has, Lacks}
use Rattle.lin_certificates.specs.lemmas.Conflicting.{across, parted}
use Rattle.lin_certificates.specs.lemmas.SetConflicting.{apart, lost}
use Rattle.lin_sets.specs.Conflicts.{HasPassed, HasUnadded, HasWrongReply, IsAnswer, IsInConflict}
use Rattle.lin_sets.proofs.Acts.{not_both}
use Rattle.lin_sets.proofs.Ordered.{here, later}

-- the item is in the set
abbrev InSet : State → Item → Type 0
InSet (Members s) n = Contains s n
InSet state n = ⊥

-- the state is a set's
abbrev IsSet : State → Type 0
IsSet (Members s) = IsRising item_cmp s
IsSet state = ⊥

-- a step of a set leaves a set, and gives what some set answers
stays_set : (s next : State) (call : Call) (reply : Reply) → Step Set s call next reply → IsSet s → IsSet next × IsAnswer call reply
stays_set (Members s) next (Add x) reply step up = (subst IsSet (sym step.0) (rising_with x s up), step.1)
stays_set (Members s) next Read reply step up = (subst IsSet (sym step.0) up, subst (IsAnswer Read) (sym step.1) up)
stays_set (Members s) next call reply step up = absurd step
stays_set s next call reply step up = absurd up

-- what a set has behind a step it had, or the step adds it
came : (s next : State) (call : Call) (reply : Reply) (n : Item) → Step Set s call next reply → InSet next n → InSet s n ⊎ (call ≡ Add n)
came (Members s) next (Add x) reply n step has = elim (with_adds_none x n s (subst (λ t. InSet t n) step.0 has)) [
  | inl same ↦ inr (ap Add (sym same))
  | inr there ↦ inl there
]
came (Members s) next Read reply n step has = inl (subst (λ t. InSet t n) step.0 has)
came (Members s) next call reply n step has = absurd step
came s next call reply n step has = absurd step

-- what it has it keeps
kept : (s next : State) (call : Call) (reply : Reply) (n : Item) → Step Set s call next reply → InSet s n → InSet next n
kept (Members s) next (Add x) reply n step has = subst (λ t. InSet t n) (sym step.0) (with_keeps x n s has)
kept (Members s) next Read reply n step has = subst (λ t. InSet t n) (sym step.0) has
kept (Members s) next call reply n step has = absurd step
kept s next call reply n step has = absurd has

-- it has what it is found to have
had : (s next : State) (call : Call) (reply : Reply) (n : Item) → Step Set s call next reply → Has call reply n → InSet next n
had (Members s) next (Add x) reply n step has = subst (λ t. InSet t n) (sym step.0) (subst (Contains (with_member item_cmp x s)) has (with_has x s))
had (Members s) next Read (Replied.Members t) n step has = subst (λ u. InSet u n) (sym step.0) (subst (λ u. Contains u n) (same step.1) has)
  where
    same : {u v : List Item} → Replied.Members u ≡ Replied.Members v → u ≡ v
    same e = cc
had (Members s) next Read reply n step has = absurd has
had (Members s) next call reply n step has = absurd step
had s next call reply n step has = absurd step

-- what it has is not missed
missed : (s next : State) (call : Call) (reply : Reply) (n : Item) → Step Set s call next reply → InSet s n → Lacks call reply n → ⊥
missed (Members s) next Read (Replied.Members t) n step has lacks = lacks (subst (λ u. Contains u n) (same step.1) has)
  where
    same : {u v : List Item} → Replied.Members u ≡ Replied.Members v → v ≡ u
    same e = cc
missed (Members s) next Read reply n step has lacks = lacks
missed (Members s) next (Add x) reply n step has lacks = lacks
missed (Members s) next call reply n step has lacks = absurd step
missed s next call reply n step has lacks = absurd has

-- what a read found the set had
found_there : (s next : State) (reply : Reply) (t : List Item) (n : Item) → Step Set s Read next reply → reply ≡ Replied.Members t → Contains t n → InSet s n
found_there (Members s) next reply t n step replies inside = subst (λ u. Contains u n) (same (sym replies ∙ step.1)) inside
  where
    same : {u v : List Item} → Replied.Members u ≡ Replied.Members v → u ≡ v
    same e = cc
found_there s next reply t n step replies inside = absurd step

not_alike : (call : Call) (reply : Reply) (n : Item) → Has call reply n → Lacks call reply n → ⊥
not_alike Read (Replied.Members s) n has lacks = lacks has
not_alike call reply n has lacks = lacks

module _ (h : List Event) where
  -- each operation of a run is answered as some set does
  all_answered : (s t : State) (order : List Placed) → Runs (Step Set) h s order t → IsSet s → (p : Placed) (c : Call) → Contains order p → IsCall h p.at c → IsAnswer c p.reply
  all_answered s t [] run up p c there is = absurd (nothing_in p there)
  all_answered s t (q ∷ order) run up p c there is =
      let step = stays_set s run.1 run.0 q.reply run.3 up in
      elim (first_or_rest q order p there) [
        | inl same ↦
            let one = one_call h q.at run.0 c run.2 (subst (λ (x : Placed). IsCall h x.at c) (sym same) is) in
            subst (λ (x : Placed). IsAnswer c x.reply) same (subst (λ d. IsAnswer d q.reply) one step.1)
        | inr rest ↦ all_answered run.1 t order run.4 step.0 p c rest is
      ]

  -- what the set has behind a run it had, or one of the operations added it
  source : (s t : State) (n : Item) (order : List Placed) → Runs (Step Set) h s order t → InSet t n → InSet s n ⊎ ((p : Placed) × Contains order p × IsCall h p.at (Add n))
  source s t n [] run has = inl (subst (λ u. InSet u n) (sym run) has)
  source s t n (q ∷ order) run has = elim (source run.1 t n order run.4 has) [
    | inr found ↦ inr (found.0, later q order found.0 found.1, found.2)
    | inl before ↦ elim (came s run.1 run.0 q.reply n run.3 before) [
      | inl start ↦ inl start
      | inr adds ↦ inr (q, here q order, subst (IsCall h q.at) adds run.2)
    ]
  ]

  -- what the set has it has behind a run, and so what it had on the way
  held : (s t : State) (n : Item) (order : List Placed) → Runs (Step Set) h s order t → InSet s n → InSet t n
  held s t n [] run has = subst (λ u. InSet u n) run has
  held s t n (q ∷ order) run has = held run.1 t n order run.4 (kept s run.1 run.0 q.reply n run.3 has)

  held_since : (s t : State) (n : Item) (order : List Placed) → Runs (Step Set) h s order t → (p : Placed) (c : Call) → Contains order p → IsCall h p.at c → Has c p.reply n → InSet t n
  held_since s t n [] run p c there is has = absurd (nothing_in p there)
  held_since s t n (q ∷ order) run p c there is has = elim (first_or_rest q order p there) [
    | inl same ↦
        let one = one_call h q.at c run.0 (subst (λ (x : Placed). IsCall h x.at c) (sym same) is) run.2 in
        let at_q : Has run.0 q.reply n = subst (λ d. Has d q.reply n) one (subst (λ (x : Placed). Has c x.reply n) (sym same) has) in
        held run.1 t n order run.4 (had s run.1 run.0 q.reply n run.3 at_q)
    | inr rest ↦ held_since run.1 t n order run.4 p c rest is has
  ]

  module _ (order : List Placed) (legal : IsLegalOrderBy (start Set) (Step Set) h order) where
    none_failed : (p : Placed) → Contains order p → IsFailed h p.at → ⊥
    none_failed p there = All-contains (λ (x : Placed). IsFailed h x.at → ⊥) order p legal.order_of.none_failed there

    placed_at : (at end : ℕ) (reply : Reply) → IsOk h at end reply → Contains order (record { at = at; reply = reply })
    placed_at at end reply ok = legal.order_of.each_ok at end reply tt ok

    wrong : HasWrongReply h → ⊥
    wrong (at, end, call, reply, is, ok, differs) =
        differs (all_answered (start Set) legal.legal.0 order legal.legal.1 tt (record { at = at; reply = reply }) call (placed_at at end reply ok) is)

    -- round an operation of the order
    module _ (before after : List Placed) (q : Placed) (split : order ≡ before ++ q ∷ after) where
      run : (m : State) × Runs (Step Set) h (start Set) before m × Runs (Step Set) h m (q ∷ after) legal.legal.0
      run = runs_split (Step Set) h (start Set) legal.legal.0 before (q ∷ after) (subst (λ l. Runs (Step Set) h (start Set) l legal.legal.0) split legal.legal.1)

      real_time : AllPairs (λ x y. IsBefore h y.at x.at → ⊥) (before ++ q ∷ after)
      real_time = subst (AllPairs (λ x y. IsBefore h y.at x.at → ⊥)) split legal.order_of.real_time

      -- what a read found an operation ahead of it added
      added : (n : Item) (s : List Item) → IsCall h q.at Read → q.reply ≡ Replied.Members s → Contains s n → (p : Placed) × Contains before p × IsCall h p.at (Add n)
      added n s is replies inside =
          let one = one_call h q.at run.2.0 Read run.2.2 is in
          let step = subst (λ c. Step Set run.0 c run.2.1 q.reply) one run.2.3 in
          elim (source (start Set) run.0 n before run.1 (found_there run.0 run.2.1 q.reply s n step replies inside)) [
            | inl none ↦ absurd (nothing_in n none)
            | inr found ↦ found
          ]

      -- what an operation ahead of a read had, that finds
      found_too : (n : Item) → IsCall h q.at Read → Lacks Read q.reply n → (p : Placed) (c : Call) → Contains before p → IsCall h p.at c → Has c p.reply n → ⊥
      found_too n is lacks p c there at_p has =
          let one = one_call h q.at Read run.2.0 is run.2.2 in
          missed run.0 run.2.1 run.2.0 q.reply n run.2.3 (held_since (start Set) run.0 n before run.1 p c there at_p has) (subst (λ d. Lacks d q.reply n) one lacks)

      not_failed : (p : Placed) → Contains before p → IsFailed h p.at → ⊥
      not_failed p there = none_failed p (subst (λ l. Contains l p) (sym split) (Contains-append_left before (q ∷ after) p there))

    unadded : HasUnadded h → ⊥
    unadded (read, end, n, (call, reply, is, ok, has), none) = by call reply is ok has
      where
        by : (call : Call) (reply : Reply) → IsCall h read call → IsOk h read end reply → Has call reply n → ⊥
        by (Add x) reply is ok has = not_both h read end reply ok (none read (let late = ok.1.later in omega (arith, late)) (subst (λ y. IsCall h read (Add y)) has is))
        by Read (Replied.Members s) is ok has =
            let q : Placed = record { at = read; reply = Replied.Members s } in
            let parts = parted order q (placed_at read end (Replied.Members s) ok) in
            let adding = added parts.0 parts.1 q parts.2 n s is refl has in
            elim (cases_lt end adding.0.at) [
              | inl past ↦ across (λ x y. IsBefore h y.at x.at → ⊥) parts.0 (q ∷ parts.1) adding.0 q (real_time parts.0 parts.1 q parts.2) adding.1 (here q parts.1) (end, Replied.Members s, ok, past)
              | inr within ↦ not_failed parts.0 parts.1 q parts.2 adding.0 adding.1 (none adding.0.at within adding.2)
            ]
        by Read reply is ok has = has
        by call reply is ok has = has

    passed : HasPassed h → ⊥
    passed (earlier, end, read, n, other, (c, r, at_earlier, ok, has), (call, reply, is, (until, replied), found, lacks), none) = by call reply is replied found lacks
      where
        by : (call : Call) (reply : Reply) → IsCall h read call → IsOk h read until reply → Has call reply other → Lacks call reply n → ⊥
        by Read (Replied.Members s) is replied found lacks =
            let p : Placed = record { at = read; reply = Replied.Members s } in
            let q : Placed = record { at = earlier; reply = r } in
            let parts = parted order p (placed_at read until (Replied.Members s) replied) in
            let adding = added parts.0 parts.1 p parts.2 other s is refl found in
            elim (cases_lt end adding.0.at) [
              | inr within ↦ not_failed parts.0 parts.1 p parts.2 adding.0 adding.1 (none adding.0.at within adding.2)
              | inl past ↦ elim (Contains-append_cases parts.0 (p ∷ parts.1) q (subst (λ l. Contains l q) parts.2 (placed_at earlier end r ok))) [
                | inl ahead ↦ found_too parts.0 parts.1 p parts.2 n is lacks q c ahead at_earlier has
                | inr behind ↦ elim (first_or_rest p parts.1 q behind) [
                  | inl same ↦
                      let one = one_call h earlier c Read at_earlier (subst (λ (x : Placed). IsCall h x.at Read) same is) in
                      not_alike Read r n (subst (λ d. Has d r n) one has) (subst (λ (x : Placed). Lacks Read x.reply n) same lacks)
                  | inr rest ↦ across (λ x y. IsBefore h y.at x.at → ⊥) parts.0 (p ∷ parts.1) adding.0 q (real_time parts.0 parts.1 p parts.2) adding.1 (later p parts.1 q rest) (end, r, ok, past)
                ]
              ]
            ]
        by Read reply is replied found lacks = found
        by call reply is replied found lacks = lacks

pub conflicts_refute_lem : (h : List Event) → IsInConflict h → IsLinearizableAs Set h → ⊥
conflicts_refute_lem h conflict (order, legal) = by conflict
  where
    by : IsInConflict h → ⊥
    by (inl wrongly) = wrong h order legal wrongly
    by (inr (inl adds)) = unadded h order legal adds
    by (inr (inr (inl loses))) = lost h order legal loses.4 loses.0 loses.1 loses.2 loses.3 loses.5 loses.6 loses.7
    by (inr (inr (inr (inl passes)))) = passed h order legal passes
    by (inr (inr (inr (inr parts)))) = apart h order legal parts.2 parts.3 parts.0 parts.1 parts.4 parts.5
