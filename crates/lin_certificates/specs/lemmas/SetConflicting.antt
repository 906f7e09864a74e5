-- Sets have no legal order of operations that conflict.
use Rattle.std.proofs.Common.{◌≡◌, ◌≢◌, ◌<◌, ℕ, List, [], ◌∷◌, ◌++◌, AllPairs, Contains, inl, inr, refl, sym, ap, subst, ◌∙◌, arith, append_assoc}
use Rattle.std.proofs.lemmas.Bool.{cases_lt}
use Rattle.std.proofs.lemmas.List.Elements.{All-contains, Contains-append_cases, Contains-append_left, Contains-append_right}
use Rattle.lin_events.specs.Items.{item_cmp}
use Rattle.lin_events.specs.declared.items.Item.{Item}
use Rattle.lin_events.specs.declared.calls.Call.{Call}
use Rattle.lin_events.specs.declared.calls.Call.TheVariants.{Read, Add}
use Rattle.lin_events.specs.declared.calls.Reply.{Reply}
use Rattle.lin_events.specs.declared.calls.Reply.TheVariants as Replied
use Rattle.lin_events.specs.declared.events.Event.{Event}
use Rattle.lin_events.specs.Operations.{IsFailed}
use Rattle.lin_lists.specs.Sets.{with_member}
use Rattle.lin_events.specs.lemmas.Rising.{with_has, with_keeps, with_adds_none}
use Rattle.lin_objects.specs.declared.kinds.Kind.TheVariants.{Set}
use Rattle.lin_objects.specs.declared.states.State.{State}
use Rattle.lin_objects.specs.declared.states.State.TheVariants.{Members}
use Rattle.lin_objects.specs.Steps.{Step, start}
use Rattle.lin_order.specs.declared.placed.Placed.{Placed}
use Rattle.lin_order.specs.Linearizable.{IsLegalOrderBy, Runs}
use Rattle.lin_order.specs.Orders.{IsBefore, IsCall}
use Rattle.lin_lists.specs.lemmas.Elements.{first_or_rest, nothing_in}
use Rattle.lin_order.specs.lemmas.OneEnd.{one_call}
use Rattle.lin_order.specs.lemmas.Running.{runs_split}
use Rattle.lin_certificates.specs.Adding.{Adds, IsNotAddedBy}
use Rattle.lin_certificates.specs.SetConflicts.{Has, Lacks, HadAt, LackedAt, FoundAt}
use Rattle.lin_certificates.specs.lemmas.Conflicting.{across, parted}

-- the item is in the set
abbrev InSet : State → Item → Type 0
InSet (Members s) n = Contains s n
InSet state n = ⊥

-- a set that has the item keeps it
kept : (s next : State) (call : Call) (reply : Reply) (n : Item) → Step Set s call next reply → InSet s n → InSet next n
kept (Members s) next (Add x) reply n step has = subst (λ t. InSet t n) (sym step.0) (with_keeps x n s has)
kept (Members s) next Read reply n step has = subst (λ t. InSet t n) (sym step.0) has
kept (Members s) next call reply n step has = absurd step
kept s next call reply n step has = absurd has

-- it has what it has behind the call
had : (s next : State) (call : Call) (reply : Reply) (n : Item) → Step Set s call next reply → Has call reply n → InSet next n
had (Members s) next (Add x) reply n step has = subst (λ t. InSet t n) (sym step.0) (subst (Contains (with_member item_cmp x s)) has (with_has x s))
had (Members s) next Read (Replied.Members t) n step has = subst (λ u. InSet u n) (sym step.0) (subst (λ u. Contains u n) (same step.1) has)
  where
    same : {u v : List Item} → Replied.Members u ≡ Replied.Members v → u ≡ v
    same e = cc
had (Members s) next Read reply n step has = absurd has
had (Members s) next call reply n step has = absurd step
had s next call reply n step has = absurd step

-- what it has is found
found : (s next : State) (call : Call) (reply : Reply) (n : Item) → Step Set s call next reply → InSet s n → Lacks call reply n → ⊥
found (Members s) next Read (Replied.Members t) n step has lacks = lacks (subst (λ u. Contains u n) (same step.1) has)
  where
    same : {u v : List Item} → Replied.Members u ≡ Replied.Members v → v ≡ u
    same e = cc
found (Members s) next Read reply n step has lacks = lacks
found (Members s) next (Add x) reply n step has lacks = lacks
found (Members s) next call reply n step has lacks = absurd step
found s next call reply n step has lacks = absurd has

-- where it doesn't have the item, it takes an add to do so
stays_out : (s next : State) (call : Call) (reply : Reply) (n : Item) → Step Set s call next reply → (InSet s n → ⊥) → (Adds call n → ⊥) → (InSet next n → ⊥) × (Has call reply n → ⊥)
stays_out (Members s) next (Add x) reply n step out none = (
  λ has. elim (with_adds_none x n s (subst (λ t. InSet t n) step.0 has)) [
    | inl same ↦ none (sym same)
    | inr there ↦ out there
  ],
  none,
)
stays_out (Members s) next Read (Replied.Members t) n step out none =
    (λ has. out (subst (λ u. InSet u n) step.0 has), λ has. out (subst (λ u. Contains u n) (same step.1) has))
  where
    same : {u v : List Item} → Replied.Members u ≡ Replied.Members v → u ≡ v
    same e = cc
stays_out (Members s) next Read reply n step out none = (λ has. out (subst (λ u. InSet u n) step.0 has), λ has. has)
stays_out (Members s) next call reply n step out none = absurd step
stays_out s next call reply n step out none = absurd step

not_both : (call : Call) (reply : Reply) (n : Item) → Has call reply n → Lacks call reply n → ⊥
not_both Read (Replied.Members s) n has lacks = lacks has
not_both call reply n has lacks = lacks

module _ (h : List Event) where
  -- where no operation of an order adds an item that the set did not have, it never has it
  never_had : (s t : State) (n : Item) (order : List Placed) → Runs (Step Set) h s order t → (InSet s n → ⊥)
      → ((p : Placed) (call : Call) → Contains order p → IsCall h p.at call → Adds call n → ⊥)
      → (p : Placed) (call : Call) → Contains order p → IsCall h p.at call → Has call p.reply n → ⊥
  never_had s t n [] run out none p call there is has = nothing_in p there
  never_had s t n (q ∷ order) run out none p call there is has =
      let here : Adds run.0 n → ⊥ = none q run.0 (0, omega arith, refl) run.2 in
      let stays = stays_out s run.1 run.0 q.reply n run.3 out here in
      elim (first_or_rest q order p there) [
        | inl same ↦
            let at_q : IsCall h q.at call = subst (λ (x : Placed). IsCall h x.at call) (sym same) is in
            let one = one_call h q.at run.0 call run.2 at_q in
            stays.1 (subst (λ c. Has c q.reply n) (sym one) (subst (λ (x : Placed). Has call x.reply n) (sym same) has))
        | inr rest ↦ never_had run.1 t n order run.4 stays.0 (λ r c in_rest. none r c (Contains-append_right (q ∷ []) order r in_rest)) p call rest is has
      ]

  -- what the set has each read finds
  always_found : (s t : State) (n : Item) (order : List Placed) → Runs (Step Set) h s order t → InSet s n
      → (p : Placed) (call : Call) → Contains order p → IsCall h p.at call → Lacks call p.reply n → ⊥
  always_found s t n [] run has p call there is lacks = nothing_in p there
  always_found s t n (q ∷ order) run has p call there is lacks = elim (first_or_rest q order p there) [
    | inl same ↦
        let at_q : IsCall h q.at call = subst (λ (x : Placed). IsCall h x.at call) (sym same) is in
        let one = one_call h q.at run.0 call run.2 at_q in
        found s run.1 run.0 q.reply n run.3 has (subst (λ c. Lacks c q.reply n) (sym one) (subst (λ (x : Placed). Lacks call x.reply n) (sym same) lacks))
    | inr rest ↦ always_found run.1 t n order run.4 (kept s run.1 run.0 q.reply n run.3 has) p call rest is lacks
  ]

  -- operations that stand in the order, behind which the set has the item, and which found it without that
  abbrev HasIn : List Placed → Item → ℕ → Type 0
  HasIn order n at = (p : Placed) × (call : Call) × Contains order p × IsCall h p.at call × Has call p.reply n × (p.at ≡ at)

  abbrev LacksIn : List Placed → Item → ℕ → Type 0
  LacksIn order n at = (p : Placed) × (call : Call) × Contains order p × IsCall h p.at call × Lacks call p.reply n × (p.at ≡ at)

  module _ (order : List Placed) (legal : IsLegalOrderBy (start Set) (Step Set) h order) where
    has_in : (n : Item) (at end : ℕ) → HadAt h at n end → HasIn order n at
    has_in n at end had = (record { at = at; reply = had.1 }, had.0, legal.order_of.each_ok at end had.1 tt had.3, had.2, had.4, refl)

    lacks_in : (n : Item) (at end : ℕ) → LackedAt h at n end → LacksIn order n at
    lacks_in n at end lacked = (record { at = at; reply = lacked.1 }, lacked.0, legal.order_of.each_ok at end lacked.1 tt lacked.3, lacked.2, lacked.4, refl)

    none_failed : (p : Placed) → Contains order p → IsFailed h p.at → ⊥
    none_failed p there = All-contains (λ (x : Placed). IsFailed h x.at → ⊥) order p legal.order_of.none_failed there

    begins_out : (n : Item) → InSet (start Set) n → ⊥
    begins_out n has = nothing_in n has

    -- nothing is found that is never added, or only after the operation returned
    pub unadded : (n : Item) (at end : ℕ) → IsNotAddedBy h n end → HadAt h at n end → ⊥
    unfolding has_in
    unadded n at end never shown =
        let p = has_in n at end shown in
        let parts = parted order p.0 p.2 in
        let whole : order ≡ (parts.0 ++ p.0 ∷ []) ++ parts.1 = parts.2 ∙ sym (append_assoc parts.0 (p.0 ∷ []) parts.1) in
        let run = runs_split (Step Set) h (start Set) legal.legal.0 (parts.0 ++ p.0 ∷ []) parts.1 (subst (λ l. Runs (Step Set) h (start Set) l legal.legal.0) whole legal.legal.1) in
        let real_time = subst (AllPairs (λ x y. IsBefore h y.at x.at → ⊥)) parts.2 legal.order_of.real_time in
        never_had (start Set) run.0 n (parts.0 ++ p.0 ∷ []) run.1 (begins_out n)
        (λ q c there is adds. elim (cases_lt end q.at) [
          | inl later ↦ elim (Contains-append_cases parts.0 (p.0 ∷ []) q there) [
            | inl ahead ↦ across (λ y z. IsBefore h z.at y.at → ⊥) parts.0 (p.0 ∷ parts.1) q p.0 real_time ahead (0, omega arith, refl) (end, shown.1, shown.3, later)
            | inr itself ↦ elim (first_or_rest p.0 [] q itself) [
              | inl same ↦
                  let ended = shown.3.1.later in
                  let place : at ≡ q.at = ap (λ (x : Placed). x.at) same in
                  omega (arith, ended, later, place)
              | inr none ↦ nothing_in q none
            ]
          ]
          | inr sooner ↦
              let in_order : Contains order q = subst (λ l. Contains l q) (sym whole) (Contains-append_left (parts.0 ++ p.0 ∷ []) parts.1 q there) in
              none_failed q in_order (never q.at c (omega (arith, sooner)) is adds)
        ])
        p.0 p.1 (Contains-append_right parts.0 (p.0 ∷ []) p.0 (0, omega arith, refl)) p.3 p.4

    -- round an operation behind which the set has an item
    module _ (n : Item) (before after : List Placed) (q : Placed) (call : Call) (split : order ≡ before ++ q ∷ after) (is : IsCall h q.at call) (has : Has call q.reply n) where
      run : (m : State) × Runs (Step Set) h (start Set) before m × Runs (Step Set) h m (q ∷ after) legal.legal.0
      run = runs_split (Step Set) h (start Set) legal.legal.0 before (q ∷ after) (subst (λ l. Runs (Step Set) h (start Set) l legal.legal.0) split legal.legal.1)

      once : AllPairs (λ x y. x.at ≢ y.at) (before ++ q ∷ after)
      once = subst (AllPairs (λ x y. x.at ≢ y.at)) split legal.order_of.once

      real_time : AllPairs (λ x y. IsBefore h y.at x.at → ⊥) (before ++ q ∷ after)
      real_time = subst (AllPairs (λ x y. IsBefore h y.at x.at → ⊥)) split legal.order_of.real_time

      -- each read without it stands ahead
      ahead : (at : ℕ) (p : LacksIn order n at) → Contains before p.0
      ahead at p = elim (Contains-append_cases before (q ∷ after) p.0 (subst (λ l. Contains l p.0) split p.2)) [
        | inl there ↦ there
        | inr behind ↦
            let rest = run.2 in
            elim (first_or_rest q after p.0 behind) [
              | inl same ↦
                  let at_q : IsCall h q.at p.1 = subst (λ (x : Placed). IsCall h x.at p.1) (sym same) p.3 in
                  let one = one_call h q.at p.1 call at_q is in
                  absurd (not_both call q.reply n has (subst (λ c. Lacks c q.reply n) one (subst (λ (x : Placed). Lacks p.1 x.reply n) (sym same) p.4)))
              | inr later ↦
                  let one = one_call h q.at call rest.0 is rest.2 in
                  let in_next : InSet rest.1 n = had run.0 rest.1 rest.0 q.reply n rest.3 (subst (λ c. Has c q.reply n) one has) in
                  absurd (always_found rest.1 legal.legal.0 n after rest.4 in_next p.0 p.1 later p.3 p.4)
            ]
      ]

      -- so it wasn't invoked after that one returned
      not_later : (at end : ℕ) → LacksIn order n at → HadAt h q.at n end → end < at → ⊥
      not_later at end p shown late =
          across (λ x y. IsBefore h y.at x.at → ⊥) before (q ∷ after) p.0 q real_time (ahead at p) (0, omega arith, refl)
          (end, shown.1, shown.3, subst (λ x. end < x) (sym p.5) late)

      -- and the set doesn't have behind it what is only added after that one returned
      not_ahead : (m : Item) (at end : ℕ) (p : LacksIn order n at) → Has p.1 p.0.reply m → HadAt h q.at n end → IsNotAddedBy h m end → ⊥
      not_ahead m at end p has_m shown late =
          never_had (start Set) run.0 m before run.1 (begins_out m)
          (λ x d there at_x adds. elim (cases_lt end x.at) [
            | inl later ↦ across (λ y z. IsBefore h z.at y.at → ⊥) before (q ∷ after) x q real_time there (0, omega arith, refl) (end, shown.1, shown.3, later)
            | inr sooner ↦
                let in_order : Contains order x = subst (λ l. Contains l x) (sym split) (Contains-append_left before (q ∷ after) x there) in
                none_failed x in_order (late x.at d (omega (arith, sooner)) at_x adds)
          ])
          p.0 p.1 (ahead at p) p.3 has_m

    -- an item that was there isn't lost
    pub lost : (n : Item) (earlier end later until : ℕ) → HadAt h earlier n end → LackedAt h later n until → end < later → ⊥
    unfolding has_in
    lost n earlier end later until shown lacked late =
        let q = has_in n earlier end shown in
        let parts = parted order q.0 q.2 in
        not_later n parts.0 parts.1 q.0 q.1 parts.2 q.3 q.4 later end (lacks_in n later until lacked) shown late

    -- where a read found an item, whatever was there before each add of that one is there too
    pub ahead_of : (n m : Item) (earlier end read : ℕ) → HadAt h earlier m end → FoundAt h read n m → IsNotAddedBy h n end → ⊥
    unfolding has_in
    ahead_of n m earlier end read shown seen late =
        let q = has_in m earlier end shown in
        let parts = parted order q.0 q.2 in
        let p : LacksIn order m read = (record { at = read; reply = seen.1 }, seen.0, legal.order_of.each_ok read seen.3.0 seen.1 tt seen.3.1, seen.2, seen.5, refl) in
        not_ahead m parts.0 parts.1 q.0 q.1 parts.2 q.3 q.4 n read end p seen.4 shown late

    -- of two reads one found what the other did
    pub apart : (n m : Item) (first second : ℕ) → FoundAt h first n m → FoundAt h second m n → ⊥
    apart n m first second one other =
        let p : LacksIn order m first = (record { at = first; reply = one.1 }, one.0, legal.order_of.each_ok first one.3.0 one.1 tt one.3.1, one.2, one.5, refl) in
        let q : LacksIn order n second = (record { at = second; reply = other.1 }, other.0, legal.order_of.each_ok second other.3.0 other.1 tt other.3.1, other.2, other.5, refl) in
        let parts = parted order q.0 q.2 in
        let more = parted parts.0 p.0 (ahead m parts.0 parts.1 q.0 q.1 parts.2 q.3 other.4 first p) in
        let rest = more.1 ++ q.0 ∷ parts.1 in
        let whole : order ≡ more.0 ++ p.0 ∷ rest = parts.2 ∙ ap (λ l. l ++ q.0 ∷ parts.1) more.2 ∙ append_assoc more.0 (p.0 ∷ more.1) (q.0 ∷ parts.1) in
        let early : Contains more.0 q.0 = ahead n more.0 rest p.0 p.1 whole p.3 one.4 second q in
        across (λ x y. x.at ≢ y.at) more.0 (p.0 ∷ rest) q.0 q.0 (once n more.0 rest p.0 p.1 whole p.3 one.4) early
        (Contains-append_right (p.0 ∷ more.1) (q.0 ∷ parts.1) q.0 (0, omega arith, refl)) refl
