-- From where the chain of an object stands to the answer for the object.
use Rattle.std.proofs.Common.{◌≡◌, ◌<◌, ◌-◌, ◌+◌, ℕ, List, length, slice_get, slice_index, get_or, take, AllPairs, Option, None, Some, IsTrue, inl, inr, refl, sym, ap, subst, ◌∙◌, arith}
use Rattle.std.proofs.lemmas.Bool.{cases_order, cases_lt}
use Rattle.std.proofs.lemmas.List.{length-take-le, take_all}
use Rattle.std.proofs.lemmas.Option.{none-some, slice_get_within, slice_get-get_or, get_or_from_slice_get}
use Rattle.lin_events.specs.declared.items.Item.{Item}
use Rattle.lin_events.specs.declared.events.Event.{Event}
use Rattle.lin_events.specs.WellFormed.{IsWellFormed}
use Rattle.lin_events.specs.WellFormedLaws.{BeginningsAreWellFormed}
use Rattle.lin_objects.specs.declared.kinds.Kind.{Kind}
use Rattle.lin_objects.specs.Kinds.{functions_of}
use Rattle.lin_objects.specs.Steps.{Step, start}
use Rattle.lin_order.specs.declared.placed.Placed.{Placed}
use Rattle.lin_order.specs.Linearizable.{IsLegalOrderFor, IsLinearizableFor, IsLegalOrderAs, IsLinearizableAs}
use Rattle.lin_order.specs.Orders.{is_of_key}
use Rattle.lin_order.specs.Parts.{ArePositionsOf, IsCut, events_at, part, renamed}
use Rattle.lin_order.specs.PartLaws.{PositionsSpellParts, PartsOfPrefixes, PartsUpToPositions, PartsAreWellFormed, RenamedOrdersAreLegal, OrdersCanBeRenamed, LinearizableByPart}
use Rattle.lin_order.specs.Configurations.{IsOver}
use Rattle.lin_engines.specs.declared.ends.End.{End}
use Rattle.lin_engines.specs.declared.ends.End.TheVariants.{Alive, Dead, Over}
use Rattle.lin_engines.specs.Ends.{IsEndOf}
use Rattle.lin_chain.specs.Chains.{IsDecided, IsKept, IsRight, kind_in}
use Rattle.lin_chain.specs.Work.{Mark}
use Rattle.lin_answers.specs.declared.answers.Verdict.{Verdict}
use Rattle.lin_answers.specs.declared.answers.Verdict.TheVariants.{Yes, No, Undecided}
use Rattle.lin_session.specs.declared.kept.Object.{Object}
use Rattle.lin_answers.specs.Answers.{IsObjectVerdict}
use Rattle.lin_session.specs.Marks.{IsToldOf}
use Rattle.lin_session.specs.Objects.{IsObject}
use Rattle.lin_session.specs.Known.{count_before}
use Rattle.lin_session.specs.inner.Objects.{IsPlaceIn, Finds, IsOrderIn}
use Rattle.lin_session.specs.inner.Judgements.{IsFinding, IsMarkedBy, IsTold}
use Rattle.lin_session.proofs.Picks.{event_of_key}

-- a place that an end tells is among the object's events
pub IsPlaceIn-end : (kind : Kind) (budget : ℕ) (h : List Event) (n : ℕ) → length h ≡ n → (end : End) → IsEndOf kind budget h end → IsPlaceIn n end
IsPlaceIn-end kind budget h n len Alive is = tt
IsPlaceIn-end kind budget h n len (Dead i) is = elim (cases_lt i n) [
  | inl within ↦ within
  | inr past ↦ absurd (is.failing (subst (IsLinearizableAs kind) (take_all i h (omega arith) ∙ sym (take_all (i + 1) h (omega arith))) is.before))
]
IsPlaceIn-end kind budget h n len (Over i) is = omega (arith, is.inside)

-- the positions ahead of one of them are those below it
pub cut_at : (picks : List ℕ) (i at : ℕ) → AllPairs (λ x y. x < y) picks → slice_get picks i ≡ Some at → IsCut picks i at
cut_at picks i at rising here k p there =
    let within_i = slice_get_within picks i at here in
    let within_k = slice_get_within picks k p there in
    let read_i = get_or_from_slice_get picks i at at here in
    let read_k = get_or_from_slice_get picks k p at there in (
      λ below. omega (arith, rising k i at below within_i, read_i, read_k),
      λ before. elim (cases_order k i) [
        | inl same ↦ let r : get_or picks k at ≡ at = ap (λ j. get_or picks j at) same ∙ read_i in absurd (omega (arith, r, read_k))
        | inr rest ↦ elim rest [
          | inl below ↦ below
          | inr above ↦ absurd (omega (arith, rising i k at above within_k, read_i, read_k))
        ]
      ],
    )

-- where all events are told apart, an object's picks are just its positions
pub whole_picked : (kinds : Item → Kind) (budget : ℕ) (h : List Event) (split : ℕ) (key : Item) (o : Object) → split ≡ length h → IsObject kinds budget h split key o → ArePositionsOf key h o.picks.items
whole_picked kinds budget h split key o all is = subst (λ l. ArePositionsOf key l o.picks.items) (take_all split h (omega arith)) is.picked

module _ (spell : PositionsSpellParts) (kinds : Item → Kind) (budget : ℕ) (h : List Event) (split : ℕ) (key : Item) (old : Object) (all : split ≡ length h) (is : IsObject kinds budget h split key old) where
  picked : ArePositionsOf key h old.picks.items
  picked = whole_picked kinds budget h split key old all is

  pub spelled : events_at h old.picks.items ≡ part key h
  spelled = (spell key h old.picks.items picked).events_of

  pub right_spelled : IsRight old.chain (events_at h old.picks.items)
  right_spelled = subst (IsRight old.chain) (sym spelled) is.right

  pub picks_inside : (k : ℕ) (d : ℕ) → k < length old.picks.items → get_or old.picks.items k d < length h
  picks_inside k d within =
      let e = event_of_key h key (get_or old.picks.items k d) (picked.sound k d within) in
      slice_get_within h (get_or old.picks.items k d) e.0 e.1

  pub length_spelled : length (events_at h old.picks.items) ≡ length old.picks.items
  length_spelled = ap length spelled ∙ sym (spell key h old.picks.items picked).length_of

  pub spelled_length_of : length old.picks.items ≡ length (part key h)
  spelled_length_of = (spell key h old.picks.items picked).length_of

  pub well_formed_spelled : PartsAreWellFormed → IsWellFormed (functions_of kinds) h → IsWellFormed (functions_of kinds) (events_at h old.picks.items)
  well_formed_spelled law fine = subst (IsWellFormed (functions_of kinds)) (sym spelled) (law (functions_of kinds) key h fine)

  -- the object after it was settled
  pub IsObject-settled : (object : Object) → object.picks ≡ old.picks → object.count ≡ length old.picks.items → IsKept budget (events_at h old.picks.items) old.chain object.chain
      → IsObject kinds budget h split key object
  IsObject-settled object picks count settled =
      let all = count ∙ (spell key h old.picks.items picked).length_of in
      record {
        picked = subst (λ p. ArePositionsOf key (take split h) p.items) (sym picks) is.picked;
        kind = settled.kind ∙ is.kind;
        right = subst (IsRight object.chain) spelled settled.right;
        retried = settled.retried;
        counted = omega (arith, all);
        exact = inr all;
      }

  -- so many of its events are ahead of one of them
  pub count_at : PartsOfPrefixes → (i : ℕ) → i < length old.picks.items → count_before h key (slice_index old.picks.items i) ≡ i
  count_at prefixes i place =
      let at = slice_index old.picks.items i in
      let nth : slice_get old.picks.items i ≡ Some at = slice_get-get_or old.picks.items i 0 place in
      let part_at = (prefixes key h old.picks.items i at picked (cut_at old.picks.items i at picked.rising nth)).part_of in
      ap length part_at ∙ length-take-le i (part key h) (omega (arith, place, (spell key h old.picks.items picked).length_of))

  -- what its mark tells, in positions of the history
  pub marked_of : PartsOfPrefixes → (marks : Item → Mark) (end : End) (found : Option ℕ × Option ℕ) → IsPlaceIn (length old.picks.items) end → IsToldOf h marks key end
      → Finds old.picks.items end found → IsMarkedBy h marks key found.0 found.1
  marked_of prefixes marks Alive found place told finds = subst (λ (r : Option ℕ × Option ℕ). IsMarkedBy h marks key r.0 r.1) (sym finds) told
  marked_of prefixes marks (Dead i) found place told finds =
      let at = slice_index old.picks.items i in
      let one : (at + 1) - 1 ≡ at = omega arith in
      subst (λ (r : Option ℕ × Option ℕ). IsMarkedBy h marks key r.0 r.1) (sym finds) (
        refl,
        subst (λ n. IsTrue (is_of_key h key n)) (sym one) (picked.sound i 0 place),
        subst (λ n. IsToldOf h marks key (Dead (count_before h key n))) (sym one) (subst (λ n. IsToldOf h marks key (Dead n)) (sym (count_at prefixes i place)) told),
      )
  marked_of prefixes marks (Over i) found place told finds = subst (λ (r : Option ℕ × Option ℕ). IsMarkedBy h marks key r.0 r.1) (sym finds) (
    picked.sound i 0 place,
    subst (λ n. IsToldOf h marks key (Over n)) (sym (count_at prefixes i place)) told,
  )

  module _ (beginnings : BeginningsAreWellFormed) (prefixes : PartsOfPrefixes) (up_to : PartsUpToPositions) (linear : LinearizableByPart)
      (fine : IsWellFormed (functions_of kinds) h) where
    pub finding_of : (end : End) (found : Option ℕ × Option ℕ) → IsPlaceIn (length old.picks.items) end → IsEndOf (kinds key) budget (part key h) end
        → Finds old.picks.items end found → IsFinding kinds budget h key found.0 found.1
    finding_of Alive found place ended told = subst (λ (r : Option ℕ × Option ℕ). IsFinding kinds budget h key r.0 r.1) (sym told) ((linear (functions_of kinds) kinds key h fine).1 ended)
    finding_of (Dead i) found place ended told =
        let at = slice_index old.picks.items i in
        let nth : slice_get old.picks.items i ≡ Some at = slice_get-get_or old.picks.items i 0 place in
        let one : (at + 1) - 1 ≡ at = omega arith in
        let part_at = (prefixes key h old.picks.items i at picked (cut_at old.picks.items i at picked.rising nth)).part_of in
        subst (λ (r : Option ℕ × Option ℕ). IsFinding kinds budget h key r.0 r.1) (sym told) (
          refl,
          record {
            within = omega (arith, picks_inside i 0 place);
            fails = λ lin. ended.failing (subst (IsLinearizableAs (kinds key)) (up_to key h old.picks.items i at picked nth)
                ((linear (functions_of kinds) kinds key (take (at + 1) h) (beginnings (functions_of kinds) h (at + 1) fine)).0 lin));
            before = subst (λ n. IsLinearizableFor kinds key (take n h)) (sym one)
                ((linear (functions_of kinds) kinds key (take at h) (beginnings (functions_of kinds) h at fine)).1 (subst (IsLinearizableAs (kinds key)) (sym part_at) ended.before));
          },
        )
    finding_of (Over i) found place ended told =
        let at = slice_index old.picks.items i in
        let nth : slice_get old.picks.items i ≡ Some at = slice_get-get_or old.picks.items i 0 place in
        let e = event_of_key h key at (picked.sound i 0 place) in
        subst (λ (r : Option ℕ × Option ℕ). IsFinding kinds budget h key r.0 r.1) (sym told) (record {
          event = e.0;
          stands = e.1;
          same = e.2;
          over = subst (λ l. IsOver (start (kinds key)) (Step (kinds key)) l budget) (sym (up_to key h old.picks.items i at picked nth)) ended.over;
        })

  -- an order of its events is an order of the history for the object
  pub order_of : RenamedOrdersAreLegal → OrdersCanBeRenamed → IsWellFormed (functions_of kinds) h → (order : List Placed) → IsOrderIn (IsLegalOrderAs (kinds key) (part key h)) old.picks.items order
      → IsLegalOrderFor kinds key h order
  order_of renames can fine order (inner, is_renamed, legal) =
      let outer = (can key h old.picks.items picked).outer inner legal.order_of in
      let law = renames (functions_of kinds) kinds key h old.picks.items inner (renamed old.picks.items inner) fine picked outer in
      subst (IsLegalOrderFor kinds key h) (sym is_renamed) (law.legal.0 legal)

  -- and one of its events as the chain has them
  pub order_told : RenamedOrdersAreLegal → OrdersCanBeRenamed → IsWellFormed (functions_of kinds) h → (order : List Placed)
      → IsOrderIn (IsLegalOrderAs (kind_in old.chain) (events_at h old.picks.items)) old.picks.items order → IsLegalOrderFor kinds key h order
  order_told renames can fine order told = order_of renames can fine order
      (subst (λ k. IsOrderIn (IsLegalOrderAs k (part key h)) old.picks.items order) is.kind (subst (λ l. IsOrderIn (IsLegalOrderAs (kind_in old.chain) l) old.picks.items order) spelled told))

-- an end that is decided tells no place where the object is over
pub finds_decided : (picks : List ℕ) (end : End) (found : Option ℕ × Option ℕ) → Finds picks end found → IsDecided end → found.1 ≡ None
finds_decided picks Alive found told decided = ap (λ (r : Option ℕ × Option ℕ). r.1) told
finds_decided picks (Dead i) found told decided = ap (λ (r : Option ℕ × Option ℕ). r.1) told
finds_decided picks (Over i) found told decided = absurd decided

-- the verdict for one object
pub verdict_told : (kinds : Item → Kind) (budget : ℕ) (h : List Event) (key : Item) (failing over : Option ℕ) (told : Verdict) → IsFinding kinds budget h key failing over → IsTold failing over told
    → IsObjectVerdict kinds budget h key told
verdict_told kinds budget h key None None told is t = subst (IsObjectVerdict kinds budget h key) (sym t) is
verdict_told kinds budget h key None (Some at) told is t = subst (IsObjectVerdict kinds budget h key) (sym t) is
verdict_told kinds budget h key (Some n) None told is t = subst (IsObjectVerdict kinds budget h key) (sym t) is.1
verdict_told kinds budget h key (Some n) (Some at) told is t = absurd (none-some at (sym is.0))

-- findings that tell a no have its prefix
pub told_failing : (failing over : Option ℕ) (told : Verdict) (n : ℕ) → IsTold failing over told → told ≡ No n → failing ≡ Some n
told_failing None None told n t is_no = absurd (cc (sym t ∙ is_no))
told_failing None (Some at) told n t is_no = absurd (cc (sym t ∙ is_no))
told_failing (Some m) None told n t is_no = cc (sym t ∙ is_no)
told_failing (Some m) (Some at) told n (inl t) is_no = cc (sym t.1 ∙ is_no)
told_failing (Some m) (Some at) told n (inr t) is_no = absurd (cc (sym t.1 ∙ is_no))

-- findings that tell an undecided have its place
pub told_undecided : (failing over : Option ℕ) (told : Verdict) (at : ℕ) → IsTold failing over told → told ≡ Undecided at → over ≡ Some at
told_undecided None None told at t is_over = absurd (cc (sym t ∙ is_over))
told_undecided None (Some i) told at t is_over = cc (sym t ∙ is_over)
told_undecided (Some m) None told at t is_over = absurd (cc (sym t ∙ is_over))
told_undecided (Some m) (Some i) told at (inl t) is_over = absurd (cc (sym t.1 ∙ is_over))
told_undecided (Some m) (Some i) told at (inr t) is_over = cc (sym t.1 ∙ is_over)

-- findings that tell a yes are none
pub untold : (failing over : Option ℕ) (told : Verdict) → IsTold failing over told → told ≡ Yes → (failing ≡ None) × (over ≡ None)
untold None None told t is_yes = (refl, refl)
untold None (Some at) told t is_yes = absurd (cc (sym t ∙ is_yes))
untold (Some n) None told t is_yes = absurd (cc (sym t ∙ is_yes))
untold (Some n) (Some at) told (inl t) is_yes = absurd (cc (sym t.1 ∙ is_yes))
untold (Some n) (Some at) told (inr t) is_yes = absurd (cc (sym t.1 ∙ is_yes))
