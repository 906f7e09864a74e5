-- What is kept of the first events, after each of the steps that change it.
use Rattle.std.proofs.Common.{◌≡◌, ◌+◌, ◌-◌, ◌*◌, ◌<◌, ◌≤◌, ℕ, zero, suc, Bool, List, [], ◌∷◌, ◌++◌, length, Option, Some, None, inl, inr, refl, sym, ap, ◌∙◌, subst, arith, get_or, slice_get, take, All, AllPairs, Vec, Global, add-one}
use Rattle.std.proofs.lemmas.Bool.{cases_lt, cases_order}
use Rattle.std.proofs.lemmas.List.{length-take, length-take-le, get_or-take, take_all, take-take, take-append-le, length_push, append-nil}
use Rattle.std.proofs.lemmas.List.Quantifiers.{all_pairs_push}
use Rattle.std.proofs.lemmas.Option.{slice_get_within, slice_get-get_or, get_or_from_slice_get}
use Rattle.lin_events.specs.declared.items.Item.{Item}
use Rattle.lin_events.specs.declared.events.Event.{Event}
use Rattle.lin_events.specs.declared.calls.Name.{Name}
use Rattle.lin_events.specs.Operations.{IsEvent}
use Rattle.lin_events.specs.WellFormed.{IsWellFormed}
use Rattle.lin_events.specs.WellFormedLaws.{BeginningsAreWellFormed}
use Rattle.lin_objects.specs.declared.kinds.Kind.{Kind}
use Rattle.lin_objects.specs.declared.states.State.{State}
use Rattle.lin_objects.specs.Observing.{observes}
use Rattle.lin_objects.specs.Overwriting.{overwrites}
use Rattle.lin_objects.specs.Steps.{Step, start}
use Rattle.lin_order.specs.declared.placed.Placed.{Placed}
use Rattle.lin_order.specs.ConfigurationLaws.{with_event}
use Rattle.lin_order.specs.Laws.{EmptyIsLegal}
use Rattle.lin_members.specs.declared.members.Path.{Path}
use Rattle.lin_frontier.specs.declared.opens.OpenList.{OpenList}
use Rattle.lin_frontier.specs.declared.opens.OpenMark.{OpenMark}
use Rattle.lin_frontier.specs.Opens.{IsEarlier, IsPast, open_at}
use Rattle.lin_members.specs.Compressed.{CompressedSpellLegalOrders, IsCompressed}
use Rattle.lin_frontier.specs.Frontiers.{IsPending, IsNextEvent}
use Rattle.lin_members.specs.Members.{Member}
use Rattle.lin_frontier.specs.Nodes.{IsGrown}
use Rattle.lin_members.specs.Rounds.{joined, SpellsRounds}
use Rattle.lin_engines.specs.declared.replay.Checkpoint.{Checkpoint}
use Rattle.lin_engines.specs.declared.replay.Replay.{Replay}
use Rattle.lin_engines.specs.Replays.{Links, Members, IsAhead, IsCheckpoint, IsCurrent, IsKnown, IsPrepared, IsReplay, KeepsPast}
use Rattle.lin_order.specs.Linearizable.{IsLegalOrderAs, IsLinearizableAs}
use Rattle.lin_lists.specs.lemmas.Lists.{get_cases}
use Rattle.lin_frontier.specs.lemmas.Lists.{contains_from_get, one_there}
use Rattle.lin_engines.specs.lemmas.Beginnings.{take_alike}
use Rattle.lin_engines.specs.lemmas.Events.{event_taken}

-- what a beginning has at a place, the whole has there
get_from_take : {A : Type 0} (n : ℕ) (xs : List A) (k : ℕ) (x : A) → slice_get (take n xs) k ≡ Some x → (k < n) × (slice_get xs k ≡ Some x)
get_from_take zero xs k x h = cc
get_from_take (suc n) [] k x h = cc
get_from_take (suc n) (y ∷ ys) zero x h = (omega arith, h)
get_from_take (suc n) (y ∷ ys) (suc k) x h =
    let rest = get_from_take n ys k x h in
    (omega arith, rest.1)

-- of a pair of elements, the one before the other
pairs_at : {A : Type 0} (R : A → A → Type 0) (xs : List A) → AllPairs R xs → (j k : ℕ) (x y : A) → j < k → slice_get xs j ≡ Some x → slice_get xs k ≡ Some y → R x y
pairs_at R xs pairs j k x y before at_j at_k =
    subst (λ z. R z y) (get_or_from_slice_get xs j x x at_j) (subst (R (get_or xs j x)) (get_or_from_slice_get xs k y x at_k) (pairs j k x before (slice_get_within xs k y at_k)))

pub pairs_take : {A : Type 0} (R : A → A → Type 0) (m : ℕ) (xs : List A) → m ≤ length xs → AllPairs R xs → AllPairs R (take m xs)
pairs_take R m xs fits all i j d before within =
    let len = length-take-le m xs fits in
    let at_i = get_or-take m xs i d (omega arith) in
    let at_j = get_or-take m xs j d (omega arith) in
    subst (λ x. R x (get_or (take m xs) j d)) (sym at_i) (subst (R (get_or xs i d)) (sym at_j) (all i j d before (omega arith)))

take_grown : {A : Type 0} (m : ℕ) (xs ys added : List A) → m ≤ length xs → ys ≡ xs ++ added → take m xs ≡ take m ys
take_grown m xs ys added below grown = sym (ap (λ l. take m l) grown ∙ take-append-le m xs added below)

pub known_same : (kind : Kind) (h g : List Event) (frontier : Members) (nodes others : Links) → h ≡ g → nodes ≡ others → IsKnown kind h frontier nodes → IsKnown kind g frontier others
known_same kind h g frontier nodes others a b known = subst (λ l. IsKnown kind l frontier others) a (subst (IsKnown kind h frontier) b known)

-- what was open then is told of events that begin alike
pub past_same : (list : OpenList) (h g : List Event) (place : ℕ) (mark : OpenMark) → take place h ≡ take place g → IsPast list h place mark → IsPast list g place mark
past_same list h g place mark events past = record {
  marked = past.marked;
  crashed = past.crashed;
  ended = past.ended;
  open_then = subst (λ x. IsPending x (open_at list place mark)) events past.open_then;
}

-- a checkpoint stays right where what it stands on stays
pub checkpoint_kept : (a b : Replay) (h g : List Event) (place : ℕ) (c : Checkpoint) → a.object.kind ≡ b.object.kind → take place h ≡ take place g
    → take c.nodes a.nodes ≡ take c.nodes b.nodes → c.nodes ≤ length b.nodes → IsPast b.pending g place c.opened → IsCheckpoint a h place c → IsCheckpoint b g place c
checkpoint_kept a b h g place c kind events nodes fits past was = record {
  known = subst (λ k. IsKnown k (take place g) c.frontier (take c.nodes b.nodes)) kind (known_same a.object.kind _ _ c.frontier _ _ events nodes was.known);
  past = past;
  nodes = fits;
}

-- the same checkpoints and the same open operations, elsewhere in memory
pub replay_moved : (a : Replay) (v : Vec Checkpoint Global) (h : List Event) → v.items ≡ a.checkpoints.items → IsReplay a h → IsReplay (record a { checkpoints = v }) h
replay_moved a v h same right = record {
  within = right.within;
  enough = subst (λ l. a.reached ≤ 64 * length l) (sym same) right.enough;
  few = subst (λ l. 64 * length l ≤ a.reached + 64) (sym same) right.few;
  checkpoints = λ k c there. let was = right.checkpoints k c (ap (λ l. slice_get l k) (sym same) ∙ there) in checkpoint_kept a (record a { checkpoints = v }) h h (64 * k) c refl refl refl was.nodes was.past was;
  rising = subst (AllPairs IsAhead) (sym same) right.rising;
  opened = right.opened;
  present = right.present;
  last = λ none k c there end. right.last none k c (ap (λ l. slice_get l k) (sym same) ∙ there) (end ∙ ap length same);
}

pub replay_held : (a : Replay) (pending : OpenList) (h : List Event) → pending.operations.items ≡ a.pending.operations.items → KeepsPast a.reached h a.pending pending → IsReplay a h → IsReplay (record a { pending = pending }) h
replay_held a pending h same past right = record {
  within = right.within;
  enough = right.enough;
  few = right.few;
  checkpoints = λ k c at.
      let was = right.checkpoints k c at in
      let inside = slice_get_within a.checkpoints.items k c at in
      checkpoint_kept a (record a { pending = pending }) h h (64 * k) c refl refl refl was.nodes (past (64 * k) c.opened (omega (arith, inside, right.few)) was.past) was;
  rising = right.rising;
  opened = subst (IsPending (take a.reached h)) (sym same) right.opened;
  present = right.present;
  last = right.last;
}

-- the same nodes
pub replay_renamed : (a : Replay) (nodes : Links) (h : List Event) → nodes ≡ a.nodes → IsReplay a h → IsReplay (record a { nodes = nodes }) h
replay_renamed a nodes h same right = subst (λ n. IsReplay (record a { nodes = n }) h) (sym same) right

-- the first checkpoint
pub replay_begun : (a : Replay) (v : Vec Checkpoint Global) (pending : OpenList) (c : Checkpoint) (h : List Event) → a.checkpoints.items ≡ [] → v.items ≡ c ∷ [] → c.nodes ≡ length a.nodes
    → pending.operations.items ≡ a.pending.operations.items → (IsPending (take 0 h) a.pending.operations.items → IsPast pending h 0 c.opened)
    → IsCompressed (start a.object.kind) (Step a.object.kind) (observes a.object.kind) (overwrites a.object.kind) [] c.frontier a.nodes → length c.frontier ≡ 1
    → IsReplay a h → (IsReplay (record a { checkpoints = v; pending = pending }) h) × (a.reached < 64 * length v.items)
replay_begun a v pending c h none one nodes same now cover some right = (
  record {
    within = right.within;
    enough = omega (arith, at_start, len);
    few = omega (arith, at_start, len);
    checkpoints = λ k d there. let is = only k d there in subst (λ n. IsCheckpoint b h (64 * n) d) (sym is.0) (subst (IsCheckpoint b h 0) is.1 first);
    rising = λ i j d before within. omega (arith, len);
    opened = subst (IsPending (take a.reached h)) (sym same) right.opened;
    present = right.present;
    last = λ _ k d there end. let is = only k d there in (omega (arith, is.0, at_start), ap (λ (x : Checkpoint). x.nodes) (sym is.1) ∙ nodes);
  },
  omega (arith, at_start, len),
)
  where
    b : Replay
    b = record a { checkpoints = v; pending = pending }

    at_start : a.reached ≡ 0
    at_start = let n = ap length none in omega (arith, right.enough, n)

    len : length v.items ≡ 1
    len = ap length one

    only : (k : ℕ) (d : Checkpoint) → slice_get v.items k ≡ Some d → (k ≡ 0) × (c ≡ d)
    only k d there = elim (get_cases [] c k d (ap (λ l. slice_get l k) (sym one) ∙ there)) [
      | inl past ↦ absurd (nothing k d past)
      | inr is ↦ is
    ]
      where
        nothing : (n : ℕ) (e : Checkpoint) → slice_get [] n ≡ Some e → ⊥
        nothing n e is = cc

    first : IsCheckpoint b h 0 c
    first = record {
      known = record {
        compressed = subst (IsCompressed (start a.object.kind) (Step a.object.kind) (observes a.object.kind) (overwrites a.object.kind) [] c.frontier) (sym (ap (λ n. take n a.nodes) nodes ∙ take_all (length a.nodes) a.nodes (omega arith))) cover;
        some = omega (arith, some);
      };
      past = now (subst (λ n. IsPending (take n h) a.pending.operations.items) at_start right.opened);
      nodes = omega (arith, nodes);
    }

-- a checkpoint of the present frontier
marked : (a : Replay) (v : Vec Checkpoint Global) (pending : OpenList) (frontier : Members) (c : Checkpoint) (h : List Event) → a.present ≡ Some frontier → 64 * length a.checkpoints.items ≤ a.reached
    → v.items ≡ a.checkpoints.items ++ c ∷ [] → c.frontier ≡ frontier → c.nodes ≡ length a.nodes → pending.operations.items ≡ a.pending.operations.items
    → (IsPending (take a.reached h) a.pending.operations.items → IsPast pending h a.reached c.opened) → ((place : ℕ) (mark : OpenMark) → IsPast a.pending h place mark → IsPast pending h place mark × IsEarlier mark c.opened)
    → IsReplay a h → IsReplay (record a { checkpoints = v; present = None; pending = pending }) h
marked a v pending frontier c h is due made same nodes as_it_was now past right = record {
  within = right.within;
  enough = omega (arith, right.enough, len);
  few = omega (arith, right.enough, due, len);
  checkpoints = λ k d there. elim (get_cases a.checkpoints.items c k d (ap (λ l. slice_get l k) (sym made) ∙ there)) [
    | inl old ↦ (let was = right.checkpoints k d old in checkpoint_kept a b h h (64 * k) d refl refl refl was.nodes (past (64 * k) d.opened was.past).0 was)
    | inr new ↦ subst (IsCheckpoint b h (64 * k)) new.1 (here k new.0)
  ];
  rising = subst (AllPairs IsAhead) (sym made) (all_pairs_push IsAhead a.checkpoints.items c right.rising (λ k d inside.
      let was = right.checkpoints k (get_or a.checkpoints.items k d) (slice_get-get_or a.checkpoints.items k d inside) in
      (omega (arith, was.nodes, nodes), (past (64 * k) (get_or a.checkpoints.items k d).opened was.past).1)));
  opened = subst (IsPending (take a.reached h)) (sym as_it_was) right.opened;
  present = λ f e. absurd (none f e);
  last = λ _ k d there end. elim (get_cases a.checkpoints.items c k d (ap (λ l. slice_get l k) (sym made) ∙ there)) [
    | inl old ↦ (let inside = slice_get_within a.checkpoints.items k d old in absurd (omega (arith, end, len, inside)))
    | inr new ↦ (place k new.0, ap (λ (x : Checkpoint). x.nodes) (sym new.1) ∙ nodes)
  ];
}
  where
    b : Replay
    b = record a { checkpoints = v; present = None; pending = pending }

    len : length v.items ≡ length a.checkpoints.items + 1
    len = ap length made ∙ length_push a.checkpoints.items c

    none : (f : Members) → None ≡ Some f → ⊥
    none f e = cc

    place : (k : ℕ) → k ≡ length a.checkpoints.items → 64 * k ≡ a.reached
    place k e = omega (arith, e, due, right.enough)

    here : (k : ℕ) → k ≡ length a.checkpoints.items → IsCheckpoint b h (64 * k) c
    here k e = record {
      known = known_same a.object.kind _ _ c.frontier _ _ (ap (λ n. take n h) (sym (place k e))) (sym (ap (λ n. take n a.nodes) nodes ∙ take_all (length a.nodes) a.nodes (omega arith)))
          (subst (λ f. IsKnown a.object.kind (take a.reached h) f a.nodes) (sym same) (right.present frontier is));
      past = subst (λ n. IsPast pending h n c.opened) (sym (place k e)) (now right.opened);
      nodes = omega (arith, nodes);
    }

pub replay_marked : (a : Replay) (v : Vec Checkpoint Global) (left : Option Members) (pending : OpenList) (frontier : Members) (c : Checkpoint) (h : List Event) → left ≡ None → a.present ≡ Some frontier → 64 * length a.checkpoints.items ≤ a.reached
    → v.items ≡ a.checkpoints.items ++ c ∷ [] → c.frontier ≡ frontier → c.nodes ≡ length a.nodes → pending.operations.items ≡ a.pending.operations.items
    → (IsPending (take a.reached h) a.pending.operations.items → IsPast pending h a.reached c.opened) → ((place : ℕ) (mark : OpenMark) → IsPast a.pending h place mark → IsPast pending h place mark × IsEarlier mark c.opened)
    → IsReplay a h → IsReplay (record a { checkpoints = v; present = left; pending = pending }) h
replay_marked a v left pending frontier c h none is due made same nodes as_it_was now past right =
    subst (λ p. IsReplay (record a { checkpoints = v; present = p; pending = pending }) h) (sym none) (marked a v pending frontier c h is due made same nodes as_it_was now past right)

-- what is present stays so
pub replay_presents : (a : Replay) (left : Option Members) (h : List Event) → left ≡ a.present → IsReplay a h → IsReplay (record a { present = left }) h
replay_presents a left h same right = subst (λ p. IsReplay (record a { present = p }) h) (sym same) right

-- with no present frontier, the place of the last checkpoint is the present one
pub before_last : (a : Replay) (h : List Event) → IsReplay a h → a.present ≡ None → 0 < length a.checkpoints.items → a.reached < 64 * length a.checkpoints.items
before_last a h right none some = by a.checkpoints.items refl
  where
    by : (items : List Checkpoint) → a.checkpoints.items ≡ items → a.reached < 64 * length a.checkpoints.items
    by [] e = let n = ap length e in absurd (omega arith)
    by (c ∷ rest) e =
        let len = ap length e in
        let there = ap (λ l. slice_get l (length rest)) e ∙ slice_get-get_or (c ∷ rest) (length rest) c (omega arith) in
        let at = right.last none (length rest) (get_or (c ∷ rest) (length rest) c) there (omega (arith, len)) in
        omega (arith, at.0, len)

-- what the present frontier is, is known
pub known_current : (r : Replay) (h : List Event) → IsReplay r h → (f : Members) → IsCurrent r.present r.checkpoints.items f → IsKnown r.object.kind (take r.reached h) f r.nodes
known_current r h right f (inl is) = right.present f is
known_current r h right f (inr at) =
    let none = at.0 in
    let k = at.1 in
    let c = at.2 in
    let was = right.checkpoints k c at.3 in
    let last = right.last none k c at.3 at.4 in
    known_same r.object.kind _ _ f _ _ (ap (λ n. take n h) last.0) (ap (λ n. take n r.nodes) last.1 ∙ take_all (length r.nodes) r.nodes (omega arith)) (subst (λ g. IsKnown r.object.kind (take (64 * k) h) g (take c.nodes r.nodes)) at.5 was.known)

-- one event more
pub replay_advanced : (a : Replay) (next : Members) (pending : OpenList) (nodes : Links) (h : List Event) (event : Event) → IsPrepared a h → IsEvent h a.reached event
    → IsCompressed (start a.object.kind) (Step a.object.kind) (observes a.object.kind) (overwrites a.object.kind) (with_event (take a.reached h) event) next nodes → 0 < length next → IsPending (with_event (take a.reached h) event) pending.operations.items
    → IsGrown a.nodes nodes → KeepsPast a.reached h a.pending pending → IsReplay (record a { reached = a.reached + 1; present = Some next; pending = pending; nodes = nodes }) h
replay_advanced a next pending nodes h event prepared there cover some opened grown past = record {
  within = let inside = slice_get_within h a.reached event there in omega arith;
  enough = omega (arith, prepared.before);
  few = omega (arith, right.few);
  checkpoints = λ k c at.
      let was = right.checkpoints k c at in
      let inside = slice_get_within a.checkpoints.items k c at in
      checkpoint_kept a b h h (64 * k) c refl refl (take_grown c.nodes a.nodes nodes grown.0 was.nodes grown.1) (longer c.nodes was.nodes) (past (64 * k) c.opened (omega (arith, inside, right.few)) was.past) was;
  rising = right.rising;
  opened = subst (λ l. IsPending l pending.operations.items) (sym (event_taken h a.reached event there)) opened;
  present = λ f is. subst (λ g. IsKnown a.object.kind (take (a.reached + 1) h) g nodes) (some_same next f is) (subst (λ l. IsKnown a.object.kind l next nodes) (sym (event_taken h a.reached event there)) (record { compressed = cover; some = some }));
  last = λ none k c at end. absurd (never none);
}
  where
    right : IsReplay a h
    right = prepared.right

    b : Replay
    b = record a { reached = a.reached + 1; present = Some next; pending = pending; nodes = nodes }

    some_same : (x y : Members) → Some x ≡ Some y → x ≡ y
    some_same x y e = cc

    never : Some next ≡ None → ⊥
    never e = cc

    longer : (m : ℕ) → m ≤ length a.nodes → m ≤ length nodes
    longer m below =
        let taken = ap length (take_grown m a.nodes nodes grown.0 below grown.1) in
        omega (arith, length-take-le m a.nodes below, length-take m nodes, taken)

-- back at a checkpoint
pub replay_back : (a : Replay) (v : Vec Checkpoint Global) (number place : ℕ) (last : Checkpoint) (nodes : Links) (pending : OpenList) (h edited : List Event) → IsReplay a h → number < length a.checkpoints.items
    → take (64 * number) h ≡ take (64 * number) edited → v.items ≡ take (number + 1) a.checkpoints.items → slice_get v.items (length v.items - 1) ≡ Some last → nodes ≡ take last.nodes a.nodes
    → (IsPast a.pending h place last.opened → IsPending (take place h) pending.operations.items)
    → ((earlier : ℕ) (mark : OpenMark) → earlier ≤ place → IsEarlier mark last.opened → IsPast a.pending h place last.opened → IsPast a.pending h earlier mark → IsPast pending h earlier mark) → place ≡ 64 * number
    → IsReplay (record a { reached = place; checkpoints = v; present = None; nodes = nodes; pending = pending }) edited
replay_back a v number place last nodes pending h edited right inside same made at_last cut now past is = record {
  within = let long = ap length same in omega (arith, is, length-take (64 * number) edited, length-take (64 * number) h, long, right.few, right.within);
  enough = omega (arith, is, len);
  few = omega (arith, is, len);
  checkpoints = λ k c at.
      let old = was k c at in
      let kept = right.checkpoints k c old.1 in
      let ahead = most k c old.1 old.0 in
      let begins = take_alike (64 * k) (64 * number) h edited (omega (arith, old.0)) same in
      checkpoint_kept a b h edited (64 * k) c refl begins (sym (ap (λ l. take c.nodes l) cut ∙ take-take c.nodes last.nodes a.nodes ahead.0)) (omega (arith, nodes_len, ahead.0))
      (past_same pending h edited (64 * k) c.opened begins (past (64 * k) c.opened (omega (arith, is, old.0)) ahead.1 past_last kept.past)) kept;
  rising = subst (AllPairs IsAhead) (sym made) (pairs_take IsAhead (number + 1) a.checkpoints.items (omega arith) right.rising);
  opened = subst (λ l. IsPending l pending.operations.items) (ap (λ n. take n h) is ∙ same ∙ ap (λ n. take n edited) (sym is)) (now past_last);
  present = λ f e. absurd (never f e);
  last = λ _ k c at end.
      let here : k ≡ length v.items - 1 = omega (arith, end) in
      let one = one_there v.items k c last at (ap (λ m. slice_get v.items m) here ∙ at_last) in
      (omega (arith, is, end, len), ap (λ (x : Checkpoint). x.nodes) one ∙ sym nodes_len);
}
  where
    b : Replay
    b = record a { reached = place; checkpoints = v; present = None; nodes = nodes; pending = pending }

    never : (f : Members) → None ≡ Some f → ⊥
    never f e = cc

    len : length v.items ≡ number + 1
    len = ap length made ∙ length-take-le (number + 1) a.checkpoints.items (omega arith)

    was : (k : ℕ) (c : Checkpoint) → slice_get v.items k ≡ Some c → (k < number + 1) × (slice_get a.checkpoints.items k ≡ Some c)
    was k c at = get_from_take (number + 1) a.checkpoints.items k c (ap (λ l. slice_get l k) (sym made) ∙ at)

    last_there : slice_get a.checkpoints.items number ≡ Some last
    last_there = (was number last (ap (λ m. slice_get v.items m) (let e : number ≡ length v.items - 1 = omega (arith, len) in e) ∙ at_last)).1

    past_last : IsPast a.pending h place last.opened
    past_last = subst (λ n. IsPast a.pending h n last.opened) (sym is) (right.checkpoints number last last_there).past

    nodes_len : length nodes ≡ last.nodes
    nodes_len = ap length cut ∙ length-take-le last.nodes a.nodes (right.checkpoints number last last_there).nodes

    most : (k : ℕ) (c : Checkpoint) → slice_get a.checkpoints.items k ≡ Some c → k < number + 1 → IsAhead c last
    most k c at below = elim (cases_lt k number) [
      | inl before ↦ pairs_at IsAhead a.checkpoints.items right.rising k number c last before at last_there
      | inr after ↦
          let e : k ≡ number = omega arith in
          subst (IsAhead c) (one_there a.checkpoints.items number c last (ap (λ m. slice_get a.checkpoints.items m) (sym e) ∙ at) last_there) (omega arith, (omega arith, omega arith))
    ]

-- each node of a member spells a legal order, for each kind
abbrev pub SpellsOrders : Type 0
SpellsOrders = (kind : Kind) → CompressedSpellLegalOrders (start kind) (Step kind) (observes kind) (overwrites kind)

-- the node of a member spells a legal order
pub member_order : SpellsOrders → (kind : Kind) (h : List Event) (f : Members) (nodes : Links) → IsKnown kind h f nodes → (node : ℕ) (i : ℕ) → (m : Member State × Path) × (slice_get f i ≡ Some m) × (m.1.node ≡ node)
    → (rounds : List (List Placed)) × SpellsRounds nodes node rounds × IsLegalOrderAs kind h (joined rounds)
member_order law kind h f nodes known node i m =
    let found = law kind h f nodes known.compressed m.0 (contains_from_get f i m.0 m.1) in
    (found.0, subst (λ n. SpellsRounds nodes n found.0) m.2 found.1, found.2)

pub known_linearizable : SpellsOrders → (kind : Kind) (h : List Event) (f : Members) (nodes : Links) → IsKnown kind h f nodes → IsLinearizableAs kind h
known_linearizable law kind h [] nodes known = absurd (let some = known.some in omega arith)
known_linearizable law kind h (m ∷ rest) nodes known =
    let found = law kind h (m ∷ rest) nodes known.compressed m (0, omega arith, refl) in
    (joined found.0, found.2)

-- the empty history has the empty order
pub nothing_legal : EmptyIsLegal → (kind : Kind) (h : List Event) (n : ℕ) → n ≡ 0 → IsLegalOrderAs kind (take n h) []
nothing_legal law kind h n e = subst (λ m. IsLegalOrderAs kind (take m h) []) (sym e) (record { order_of = (law (λ _. kind)).0.order_of; legal = (start kind, refl) })

-- the events that are known have a legal order
pub replay_linearizable : EmptyIsLegal → SpellsOrders → (r : Replay) (h : List Event) → IsReplay r h → IsLinearizableAs r.object.kind (take r.reached h)
replay_linearizable law orders r h right = by r.present refl
  where
    current : (f : Members) → IsCurrent r.present r.checkpoints.items f → IsLinearizableAs r.object.kind (take r.reached h)
    current f is = let known = known_current r h right f is in known_linearizable orders r.object.kind (take r.reached h) f r.nodes known

    from : r.present ≡ None → (items : List Checkpoint) → r.checkpoints.items ≡ items → IsLinearizableAs r.object.kind (take r.reached h)
    from none [] e = let n = ap length e in ([], nothing_legal law r.object.kind h r.reached (omega (arith, right.enough, n)))
    from none (c ∷ rest) e = current (get_or (c ∷ rest) (length rest) c).frontier
        (inr (none, length rest, get_or (c ∷ rest) (length rest) c, ap (λ l. slice_get l (length rest)) e ∙ slice_get-get_or (c ∷ rest) (length rest) c (omega arith), (let n = ap length e in omega arith), refl))

    by : (present : Option Members) → r.present ≡ present → IsLinearizableAs r.object.kind (take r.reached h)
    by None is = from is r.checkpoints.items refl
    by (Some f) is = current f (inl is)
