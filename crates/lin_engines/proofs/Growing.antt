-- A witness that is right, and stays so.
use Rattle.std.proofs.Common.{◌≡◌, ◌+◌, ◌*◌, ◌<◌, ◌≤◌, ℕ, suc, Bool, true, false, List, [], ◌∷◌, ◌++◌, length, Some, inl, inr, refl, sym, ap, ◌∙◌, subst, arith, get_or, slice_get, take, AllPairs, Contains, Vec, Global, add-one, nat_lt, cond}
use Rattle.std.proofs.Common.{Result}
use Rattle.std.specs.declared.result.Result.TheVariants as result
use Rattle.lin_events.specs.declared.lists.OutOfMemory.{OutOfMemory}
use Rattle.std.proofs.lemmas.List.{length-take, length-take-le, length_push, take-take, take_all}
use Rattle.std.proofs.lemmas.List.Quantifiers.{all_pairs_push}
use Rattle.std.proofs.lemmas.Option.{slice_get_within, slice_get-get_or}
use Rattle.lin_events.specs.declared.items.Item.{Item}
use Rattle.lin_events.specs.declared.events.Body.{Body}
use Rattle.lin_events.specs.declared.events.Body.TheVariants.{Invoke, Ok, Fail, Info}
use Rattle.lin_events.specs.declared.events.Event.{Event}
use Rattle.lin_events.specs.declared.calls.Name.{Name}
use Rattle.lin_events.specs.declared.calls.Reply.{Reply}
use Rattle.lin_events.specs.Operations.{IsEvent, IsOpen}
use Rattle.lin_events.specs.WellFormed.{IsWellFormed}
use Rattle.lin_events.specs.WellFormedLaws.{BeginningsAreWellFormed}
use Rattle.lin_objects.specs.declared.kinds.Kind.{Kind}
use Rattle.lin_objects.specs.declared.any.Any.{Any}
use Rattle.lin_objects.specs.declared.states.State.{State}
use Rattle.lin_objects.specs.Steps.{Step, start}
use Rattle.lin_order.specs.declared.placed.Placed.{Placed}
use Rattle.lin_order.specs.Configurations.{EndsIn, IsAdded}
use Rattle.lin_order.specs.ConfigurationLaws.{AtStart, FailLaw, InfoLaw, InvocationLaw, OkLaw, PlacingIsLegal, with_event}
use Rattle.lin_frontier.specs.declared.pending.Open.{Open}
use Rattle.lin_frontier.specs.Frontiers.{IsNextEvent, IsPending}
use Rattle.lin_frontier.specs.Placing.{IsAbsent, PlacesOne, insert_pair, without}
use Rattle.lin_frontier.specs.lemmas.Inserting.{insert_added, none_from, taken_out}
use Rattle.lin_lists.specs.lemmas.Elements.{pairs_left}
use Rattle.lin_lists.specs.lemmas.Lists.{get_cases, get_last, get_left, get_taken, take_next}
use Rattle.lin_frontier.specs.declared.opens.OpenList.{OpenList}
use Rattle.lin_frontier.specs.declared.opens.OpenMark.{OpenMark}
use Rattle.lin_frontier.specs.Opens.{IsEarlier, IsPast, open_at}
use Rattle.lin_engines.specs.declared.witness.Checkpoint.{Checkpoint}
use Rattle.lin_engines.specs.declared.witness.Witness.{Witness}
use Rattle.lin_engines.specs.Witnesses.{IsAhead, IsCheckpoint, IsLonger, IsPassed, IsReached, IsWitness, listed, order_in}
use Rattle.lin_engines.proofs.Splits.{pairs_at, pairs_take, take_alike}

reached_same : (k l : Kind) (h g : List Event) (of : ℕ) (o p : List Placed) (c : State × List (ℕ × Reply)) → k ≡ l → take of h ≡ take of g → of ≤ length g → o ≡ p → IsReached k h of o c → IsReached l g of p c
reached_same k l h g of o p c kinds events within orders r = record {
  within = within;
  ends = subst (λ kind. EndsIn (start kind) (Step kind) (take of g) p c) kinds (subst (λ x. EndsIn (start k) (Step k) x p c) events (subst (λ x. EndsIn (start k) (Step k) (take of h) x c) orders r.ends));
}

-- what was open then is told of events that begin alike
past_same : (list : OpenList) (h g : List Event) (place : ℕ) (mark : OpenMark) → take place h ≡ take place g → IsPast list h place mark → IsPast list g place mark
past_same list h g place mark events past = record {
  marked = past.marked;
  crashed = past.crashed;
  ended = past.ended;
  open_then = subst (λ x. IsPending x (open_at list place mark)) events past.open_then;
}

-- each mark that was right for so many events still is
abbrev pub KeepsPast : ℕ → List Event → OpenList → OpenList → Type 0
KeepsPast of h a b = (place : ℕ) (mark : OpenMark) → place ≤ of → IsPast a h place mark → IsPast b h place mark

-- where the order only grows, and what is kept of it stays
pub grown : (a b : Witness) (h : List Event) → b.object ≡ a.object → a.length ≤ b.length → b.length ≤ length b.order.items → take a.length b.order.items ≡ take a.length a.order.items → KeepsPast a.of h a.opened b.opened
    → b.checkpoints.items ≡ a.checkpoints.items → a.of ≤ b.of → b.of ≤ 64 * length b.checkpoints.items → IsReached b.object.kind h b.of (order_in b) b.config → IsPending (take b.of h) (listed b.opened) → IsWitness a h → IsWitness b h
grown a b h object longer inside front past same more enough reached opened w = record {
  inside = inside;
  reached = reached;
  opened = opened;
  enough = enough;
  few = let len = ap length same in omega (arith, w.few, more, len);
  checkpoints = λ k c at.
      let there = ap (λ l. slice_get l k) (sym same) ∙ at in
      let was = w.checkpoints k c there in
      let at_k = slice_get_within a.checkpoints.items k c there in
      record {
        reached = reached_same a.object.kind b.object.kind h h (64 * k) _ _ c.config (ap (λ (o : Any). o.kind) (sym object)) refl was.reached.within (take_alike c.length a.length a.order.items b.order.items was.shorter (sym front)) was.reached;
        past = past (64 * k) c.opened (omega (arith, at_k, w.few)) was.past;
        shorter = omega (arith, was.shorter, longer);
      };
  rising = subst (AllPairs IsAhead) (sym same) w.rising;
}

-- an open operation is placed last
pub placed_last : (kind : Kind) → PlacingIsLegal (start kind) (Step kind) → (h : List Event) (of : ℕ) (order : List Placed) (c d : State × List (ℕ × Reply)) (opened : List Open) (o : Open) (p : Placed) → Contains opened o
    → PlacesOne (Step kind) o c p d → IsPending (take of h) opened → IsReached kind h of order c → IsReached kind h of (order ++ p ∷ []) d
placed_last kind law h of order c d opened o p there places opened_are r =
    let is_open = opened_are.sound o there in
    record {
      within = r.within;
      ends = law (take of h) order c d p r.ends (record {
        process = o.process;
        key = is_open.0;
        call = o.call;
        is_open = subst (λ k. IsOpen (take of h) k o.process is_open.0 o.call) (sym places.at) is_open.1;
        steps = places.steps;
        added = subst (IsAdded o.process p.reply c.1) (sym places.placed) (insert_added o.process p.reply c.1 r.ends.placed.rising (none_from o.process c.1 places.absent));
      });
    }

-- a pair that is put among others is there
pub insert_has : (process : ℕ) (reply : Reply) (xs : List (ℕ × Reply)) → Contains (insert_pair process reply xs) (process, reply)
insert_has process reply [] = (0, omega arith, refl)
insert_has process reply (x ∷ xs) = by (nat_lt x.0 process) refl (insert_has process reply xs)
  where
    by : (b : Bool) → nat_lt x.0 process ≡ b → Contains (insert_pair process reply xs) (process, reply) → Contains (insert_pair process reply (x ∷ xs)) (process, reply)
    by true e rest = subst (λ b. Contains (cond b (x ∷ insert_pair process reply xs) ((process, reply) ∷ x ∷ xs)) (process, reply)) (sym e) (suc rest.0, omega (arith, rest.1), rest.2)
    by false e rest = subst (λ b. Contains (cond b (x ∷ insert_pair process reply xs) ((process, reply) ∷ x ∷ xs)) (process, reply)) (sym e) (0, omega arith, refl)

-- and so is its operation, once it is placed
pub placed_has : (kind : Kind) (o : Open) (c d : State × List (ℕ × Reply)) (p : Placed) (reply : Reply) → PlacesOne (Step kind) o c p d → p.reply ≡ reply → Contains d.1 (o.process, reply)
placed_has kind o c d p reply places same = subst (λ l. Contains l (o.process, reply)) (sym places.placed) (subst (λ r. Contains (insert_pair o.process p.reply c.1) (o.process, r)) same (insert_has o.process p.reply c.1))

-- an event that leaves the order as it is
pub passed : (kind : Kind) → InvocationLaw (start kind) (Step kind) → FailLaw (start kind) (Step kind) → InfoLaw (start kind) (Step kind) → (functions : Item → Name → Bool) (h : List Event) (event : Event)
    → IsWellFormed functions (with_event h event) → (order : List Placed) (c : State × List (ℕ × Reply)) → IsPassed event c → EndsIn (start kind) (Step kind) h order c
    → EndsIn (start kind) (Step kind) (with_event h event) order c
passed kind invocation fail info functions h event well order c passes ends = by event.body refl passes
  where
    IsPassedBy : Body → Type 0
    IsPassedBy (Invoke call) = Unit {0}
    IsPassedBy (Ok name reply) = ⊥
    IsPassedBy (Fail name) = IsAbsent event.process c.1
    IsPassedBy (Info name) = Unit {0}

    by : (b : Body) → event.body ≡ b → IsPassed (record event { body = b }) c → EndsIn (start kind) (Step kind) (with_event h event) order c
    by (Invoke call) is _ = (invocation functions h event call is well).stays order c ends
    by (Ok name reply) is p = absurd p
    by (Fail name) is p = (fail functions h event name is well order c).1 (ends, λ reply there. none_from event.process c.1 p reply there)
    by (Info name) is _ = (info functions h event name is well order c).1 ends

-- an ok of an operation that is placed with its reply
pub completed : (kind : Kind) → OkLaw (start kind) (Step kind) → (functions : Item → Name → Bool) (h : List Event) (event : Event) (name : Name) (reply : Reply) → event.body ≡ Ok name reply
    → IsWellFormed functions (with_event h event) → (order : List Placed) (c d : State × List (ℕ × Reply)) → Contains c.1 (event.process, reply) → d ≡ (c.0, without event.process c.1) → EndsIn (start kind) (Step kind) h order c
    → EndsIn (start kind) (Step kind) (with_event h event) order d
completed kind law functions h event name reply is well order c d has made ends =
    subst (EndsIn (start kind) (Step kind) (with_event h event) order) (sym made)
    ((law functions h event name reply is well).kept order (c.0, without event.process c.1) c.1 ends (taken_out event.process reply c.1 ends.placed.rising has))

-- one event more
pub next_event : BeginningsAreWellFormed → (functions : Item → Name → Bool) (h : List Event) (n : ℕ) (event : Event) (pending : List Open) → IsWellFormed functions h → IsEvent h n event → IsPending (take n h) pending
    → IsNextEvent functions (take n h) pending n event
next_event beginnings functions h n event pending well there opened = record {
  place = length-take-le n h (let inside = slice_get_within h n event there in omega arith);
  well_formed = subst (IsWellFormed functions) (take_next n h event there) (beginnings functions h (suc n) well);
  opened = opened;
}

taken_next : (h : List Event) (of : ℕ) (event : Event) → IsEvent h of event → take (of + 1) h ≡ with_event (take of h) event
taken_next h of event there = ap (λ m. take m h) (add-one of) ∙ take_next of h event there

pub reached_next : (kind : Kind) (h : List Event) (of : ℕ) (event : Event) (order : List Placed) (c : State × List (ℕ × Reply)) → IsEvent h of event → EndsIn (start kind) (Step kind) (with_event (take of h) event) order c → IsReached kind h (of + 1) order c
reached_next kind h of event order c there ends = record {
  within = let inside = slice_get_within h of event there in omega arith;
  ends = subst (λ l. EndsIn (start kind) (Step kind) l order c) (sym (taken_next h of event there)) ends;
}

-- a checkpoint of what is reached
pub marked : (a : Witness) (v : Vec Checkpoint Global) (o : OpenList) (c : Checkpoint) (h : List Event) → v.items ≡ a.checkpoints.items ++ c ∷ [] → 64 * length a.checkpoints.items ≤ a.of → c.length ≡ a.length → c.config ≡ a.config
    → o.operations.items ≡ a.opened.operations.items → (IsPending (take a.of h) a.opened.operations.items → IsPast o h a.of c.opened) → ((place : ℕ) (mark : OpenMark) → IsPast a.opened h place mark → IsPast o h place mark × IsEarlier mark c.opened)
    → IsWitness a h → IsWitness (record a { checkpoints = v; opened = o }) h
marked a v o c h made due long config same now past w = record {
  inside = w.inside;
  reached = w.reached;
  opened = subst (IsPending (take a.of h)) (sym same) w.opened;
  enough = omega (arith, w.enough, len);
  few = omega (arith, due, len);
  checkpoints = λ k d at. elim (get_cases a.checkpoints.items c k d (ap (λ l. slice_get l k) (sym made) ∙ at)) [
    | inl old ↦ (let was = w.checkpoints k d old in record { reached = was.reached; past = (past (64 * k) d.opened was.past).0; shorter = was.shorter })
    | inr last ↦ subst (IsCheckpoint b h (64 * k)) last.1 (subst (λ n. IsCheckpoint b h n c) (let e : a.of ≡ 64 * k = omega (arith, last.0, due, w.enough) in e) new)
  ];
  rising = subst (AllPairs IsAhead) (sym made) (all_pairs_push IsAhead a.checkpoints.items c w.rising (λ k d inside.
      let was = w.checkpoints k (get_or a.checkpoints.items k d) (slice_get-get_or a.checkpoints.items k d inside) in
      (omega (arith, was.shorter, long), (past (64 * k) (get_or a.checkpoints.items k d).opened was.past).1)));
}
  where
    b : Witness
    b = record a { checkpoints = v; opened = o }

    len : length v.items ≡ length a.checkpoints.items + 1
    len = let l = ap length made in omega (arith, l, length_push a.checkpoints.items c)

    new : IsCheckpoint b h a.of c
    new = record {
      reached = subst (IsReached a.object.kind h a.of (take c.length a.order.items)) (sym config)
          (reached_same a.object.kind a.object.kind h h a.of _ _ a.config refl refl w.reached.within (ap (λ n. take n a.order.items) (sym long)) w.reached);
      past = now w.opened;
      shorter = omega (arith, long);
    }

-- the same witness of events that agree with those of which it is an order
pub alike : (a : Witness) (h edited : List Event) (place : ℕ) → a.of ≤ place → take place h ≡ take place edited → IsWitness a h → IsWitness a edited
alike a h edited place below same w = record {
  inside = w.inside;
  reached = reached_same a.object.kind a.object.kind h edited a.of _ _ a.config refl (take_alike a.of place h edited below same) (shorter a.of below w.reached.within) refl w.reached;
  opened = subst (λ x. IsPending x (listed a.opened)) (take_alike a.of place h edited below same) w.opened;
  enough = w.enough;
  few = w.few;
  checkpoints = λ k c at.
      let was = w.checkpoints k c at in
      let at_k = slice_get_within a.checkpoints.items k c at in
      let before : 64 * k ≤ a.of = omega (arith, at_k, w.few) in
      let begins = take_alike (64 * k) place h edited (omega (arith, before, below)) same in
      record {
        reached = reached_same a.object.kind a.object.kind h edited (64 * k) _ _ c.config refl begins (shorter (64 * k) (omega (arith, before, below)) was.reached.within) refl was.reached;
        past = past_same a.opened h edited (64 * k) c.opened begins was.past;
        shorter = was.shorter;
      };
  rising = w.rising;
}
  where
    shorter : (n : ℕ) → n ≤ place → n ≤ length h → n ≤ length edited
    shorter n less inside = let long = ap length same in omega (arith, length-take place h, length-take place edited, long)

-- back at a checkpoint
pub back : (a b : Witness) (number place : ℕ) (last : Checkpoint) (h edited : List Event) → 64 * number ≤ place → place < 64 * number + 64 → place < a.of → take place h ≡ take place edited
    → take (number + 1) a.checkpoints.items ≡ b.checkpoints.items ++ last ∷ [] → b.object ≡ a.object → b.order.items ≡ a.order.items → b.length ≡ last.length → b.config ≡ last.config
    → (IsPast a.opened h (64 * number) last.opened → IsPending (take (64 * number) h) b.opened.operations.items)
    → ((earlier : ℕ) (mark : OpenMark) → earlier ≤ 64 * number → IsEarlier mark last.opened → IsPast a.opened h (64 * number) last.opened → IsPast a.opened h earlier mark → IsPast b.opened h earlier mark)
    → b.of ≡ 64 * number → IsWitness a h → IsWitness b edited
back a b number place last h edited below near inside same cut object order long config now past of w = record {
  inside = let len = ap length order in omega (arith, len, long, at_last.shorter, w.inside);
  reached = subst (λ n. IsReached b.object.kind edited n (order_in b) b.config) (sym of)
      (subst (IsReached b.object.kind edited (64 * number) (order_in b)) (sym config)
      (reached_same a.object.kind b.object.kind h edited (64 * number) _ _ last.config (sym kinds) (take_alike (64 * number) place h edited below same) (shorter (64 * number) below at_last.reached.within)
      (ap (λ n. take n a.order.items) (sym long) ∙ ap (λ l. take b.length l) (sym order)) at_last.reached));
  opened = subst (λ n. IsPending (take n edited) (listed b.opened)) (sym of) (subst (λ l. IsPending l (listed b.opened)) (take_alike (64 * number) place h edited below same) (now at_last.past));
  enough = omega (arith, of, count);
  few = omega (arith, of, count);
  checkpoints = λ k c at.
      let was = w.checkpoints k c (old k c at) in
      let before : k < number = omega (arith, count, slice_get_within b.checkpoints.items k c at) in
      let ahead = pairs_at IsAhead a.checkpoints.items w.rising k number c last before (old k c at) last_there in
      let begins = take_alike (64 * k) place h edited (omega (arith, before, below)) same in
      record {
        reached = reached_same a.object.kind b.object.kind h edited (64 * k) _ _ c.config (sym kinds) begins (shorter (64 * k) (omega (arith, before, below)) was.reached.within) (ap (λ l. take c.length l) (sym order)) was.reached;
        past = past_same b.opened h edited (64 * k) c.opened begins (past (64 * k) c.opened (omega (arith, before)) ahead.1 at_last.past was.past);
        shorter = omega (arith, ahead.0, long);
      };
  rising = pairs_left IsAhead b.checkpoints.items (last ∷ []) (subst (AllPairs IsAhead) cut (pairs_take IsAhead (number + 1) a.checkpoints.items (omega (arith, fits)) w.rising));
}
  where
    kinds : b.object.kind ≡ a.object.kind
    kinds = ap (λ (o : Any). o.kind) object

    fits : number < length a.checkpoints.items
    fits = omega (arith, below, inside, w.enough)

    count : length b.checkpoints.items ≡ number
    count = let len = ap length cut in omega (arith, len, length-take-le (number + 1) a.checkpoints.items (omega (arith, fits)), length_push b.checkpoints.items last)

    old : (k : ℕ) (c : Checkpoint) → slice_get b.checkpoints.items k ≡ Some c → slice_get a.checkpoints.items k ≡ Some c
    old k c at = (get_taken (number + 1) a.checkpoints.items k c (ap (λ l. slice_get l k) cut ∙ get_left b.checkpoints.items last k c at)).1

    last_there : slice_get a.checkpoints.items number ≡ Some last
    last_there = (get_taken (number + 1) a.checkpoints.items number last (ap (λ l. slice_get l number) cut ∙ ap (λ n. slice_get (b.checkpoints.items ++ last ∷ []) n) (sym count) ∙ get_last b.checkpoints.items last)).1

    at_last : IsCheckpoint a h (64 * number) last
    at_last = w.checkpoints number last last_there

    shorter : (n : ℕ) → n ≤ place → n ≤ length h → n ≤ length edited
    shorter n less within = let longer = ap length same in omega (arith, length-take place h, length-take place edited, longer)

-- no event, and no operation
pub begun : (w : Witness) (h : List Event) → AtStart (start w.object.kind) (Step w.object.kind) → IsPending [] [] → w.length ≡ 0 → w.of ≡ 0 → w.config ≡ (start w.object.kind, []) → listed w.opened ≡ [] → w.checkpoints.items ≡ []
    → IsWitness w h
begun w h law nothing length_is of config opened none = record {
  inside = omega (arith, length_is);
  reached = record {
    within = omega (arith, of);
    ends = subst (λ n. EndsIn (start w.object.kind) (Step w.object.kind) (take n h) (order_in w) w.config) (sym of) (subst (λ n. EndsIn (start w.object.kind) (Step w.object.kind) [] (take n w.order.items) w.config) (sym length_is)
        (subst (EndsIn (start w.object.kind) (Step w.object.kind) [] []) (sym config) law.0));
  };
  opened = subst (λ n. IsPending (take n h) (listed w.opened)) (sym of) (subst (IsPending []) (sym opened) nothing);
  enough = omega (arith, of);
  few = let len = ap length none in omega (arith, of, len);
  checkpoints = λ k c at. absurd (no_checkpoint k c (ap (λ l. slice_get l k) (sym none) ∙ at));
  rising = subst (AllPairs IsAhead) (sym none) (λ i j d before within. absurd (omega (arith, within)));
}
  where
    no_checkpoint : (k : ℕ) (c : Checkpoint) → slice_get {X = Checkpoint} [] k ≡ Some c → ⊥
    no_checkpoint k c e = cc

-- one growth behind the other
pub longer_then : (a b c : Witness) → IsLonger a b → IsLonger b c → IsLonger a c
longer_then a b c f g = record {
  object = g.object ∙ f.object;
  of = g.of ∙ f.of;
  opened = g.opened ∙ f.opened;
  more = omega (arith, f.more, g.more);
  right = λ h w. g.right h (f.right h w);
}

-- nothing but what stands behind the order has changed
pub same_order : (a : Witness) (v u : Vec Placed Global) → (a.length ≤ length a.order.items → (a.length ≤ length v.items) × (take a.length v.items ≡ take a.length a.order.items)) → IsLonger a (record a { order = v; hint = u })
same_order a v u behind = record {
  object = refl;
  of = refl;
  opened = refl;
  more = omega arith;
  right = λ h w.
      let same = behind w.inside in
      grown a (record a { order = v; hint = u }) h refl (omega arith) same.0 same.1 (λ place mark below past. past) refl (omega arith) w.enough (subst (λ o. IsReached a.object.kind h a.of o a.config) (sym same.1) w.reached) w.opened w;
}

-- what is open may stand elsewhere
pub reopened : (a : Witness) (o : OpenList) (h : List Event) → listed o ≡ listed a.opened → KeepsPast a.of h a.opened o → IsWitness a h → IsWitness (record a { opened = o }) h
reopened a o h same past w = grown a (record a { opened = o }) h refl (omega arith) w.inside refl past refl (omega arith) w.enough w.reached (subst (IsPending (take a.of h)) (sym same) w.opened) w

-- one event more, which leaves the order as it is
pub went_on : (a : Witness) (o : OpenList) (d : State × List (ℕ × Reply)) (more : ℕ) (h : List Event) (event : Event) → more ≡ a.of + 1 → IsEvent h a.of event → KeepsPast a.of h a.opened o
    → a.of < 64 * length a.checkpoints.items → EndsIn (start a.object.kind) (Step a.object.kind) (with_event (take a.of h) event) (order_in a) d → IsPending (with_event (take a.of h) event) (listed o) → IsWitness a h
    → IsWitness (record a { of = more; config = d; opened = o }) h
went_on a o d more h event next there past before ends pending w =
    grown a (record a { of = more; config = d; opened = o }) h refl (omega arith) w.inside refl past refl (omega (arith, next)) (omega (arith, next, before))
    (subst (λ n. IsReached a.object.kind h n (order_in a) d) (sym next) (reached_next a.object.kind h a.of event (order_in a) d there ends))
    (subst (λ n. IsPending (take n h) (listed o)) (sym next) (subst (λ l. IsPending l (listed o)) (sym (taken_next h a.of event there)) pending)) w

pub ok_false : (b : Bool) → b ≡ false → ◌≡◌ {A = Result Bool OutOfMemory} (result.Ok b) (result.Ok true) → ⊥
ok_false b e same = cc

pub ok_true : (b : Bool) → b ≡ true → ◌≡◌ {A = Result Bool OutOfMemory} (result.Ok b) (result.Ok true)
ok_true b e = ap (λ x. result.Ok x) e

-- the same checkpoints, elsewhere in memory
pub same_checkpoints : (a : Witness) (v : Vec Checkpoint Global) → v.items ≡ a.checkpoints.items → IsLonger a (record a { checkpoints = v })
same_checkpoints a v same =
    let count = ap length same in
    record {
      object = refl;
      of = refl;
      opened = refl;
      more = omega (arith, count);
      right = λ h w. grown a (record a { checkpoints = v }) h refl (omega arith) w.inside refl (λ place mark below past. past) same (omega arith) (omega (arith, w.enough, count)) w.reached w.opened w;
    }

-- something else is suggested
pub same_hint : (a : Witness) (u : Vec Placed Global) → IsLonger a (record a { hint = u })
same_hint a u = same_order a a.order u (λ inside. (inside, refl))
