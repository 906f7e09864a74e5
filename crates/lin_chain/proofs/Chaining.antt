-- Chains that are right, and stay so.
use Rattle.std.proofs.Common.{inl, inr, ◌⊎◌, Bool, true, false, nat_eq, nat_lt, if◌then◌else◌, IfSome, All, zero, suc, [], ◌∷◌, slice_get, ◌≡◌, ◌≤◌, ◌<◌, ◌+◌, ◌∙◌, ℕ, Option, Some, None, List, length, take, refl, sym, ap, subst, arith}
use Rattle.std.proofs.lemmas.Bool.{cases_lt}
use Rattle.std.proofs.lemmas.Bool.Decides.{Decides-eqb, Decides-ltb}
use Rattle.std.proofs.lemmas.List.{take_all}
use Rattle.lin_events.specs.declared.events.Event.{Event}
use Rattle.lin_objects.specs.declared.kinds.Kind.{Kind}
use Rattle.lin_order.specs.declared.placed.Placed.{Placed}
use Rattle.lin_order.specs.Linearizable.{IsDeadAt, IsLegalOrderAs, IsLinearizableAs}
use Rattle.lin_order.specs.Parts.{events_at}
use Rattle.lin_engines.specs.declared.ends.End.{End}
use Rattle.lin_engines.specs.declared.ends.End.TheVariants.{Alive, Dead as DeadAt}
use Rattle.lin_engines.specs.declared.exact.Exact.{Exact as ExactEngine}
use Rattle.lin_engines.specs.declared.lane.Lane.{Lane}
use Rattle.lin_engines.specs.declared.replay.Replay.{Replay}
use Rattle.lin_engines.specs.declared.says.Says.{Says}
use Rattle.lin_engines.specs.declared.says.Says.TheVariants.{On, Dead, Over, Gone}
use Rattle.lin_engines.specs.Ends.{IsEndOf}
use Rattle.lin_engines.specs.Exacts.{HasExact, IsExactLane, kind_of_exact, reach_of_exact}
use Rattle.lin_engines.specs.Lanes.{IsFor as IsLaneFor, IsOfExact, IsOfWitness, IsStanding, IsUnder, told_of}
use Rattle.lin_engines.specs.Replays.{IsFrontierLane, kind_of_replay}
use Rattle.lin_engines.specs.lemmas.Beginnings.{dead_alike, longer, take_alike}
use Rattle.lin_chain.specs.Chains.{IsBeside, IsDecided, IsFor, IsFound, IsKept, IsRight, first_of, kind_in, mark_beside, told_beside, told_by_found, told_in}
use Rattle.lin_chain.specs.declared.beside.Beside.{Beside}
use Rattle.lin_chain.specs.declared.beside.Beside.TheVariants.{Nothing, Exact, Going}
use Rattle.lin_chain.specs.declared.chain.Chain.{Chain}
use Rattle.lin_chain.specs.declared.found.Found.{Found}
use Rattle.lin_chain.specs.declared.found.Found.TheVariants as found

-- what decides an object, and a witness, are never over
pub exact_not_over : (said : Says) (at : ℕ) → IsOfExact said → said ≡ Over at → ⊥
exact_not_over said at may over = subst IsOfExact over may

pub witness_not_over : (said : Says) (at : ℕ) → IsOfWitness said → said ≡ Over at → ⊥
witness_not_over said at may over = subst IsOfWitness over may

-- an engine that goes on isn't over
pub on_not_over : (said : Says) (at : ℕ) → said ≡ On → said ≡ Over at → ⊥
on_not_over said at on over = cc (on, over)

-- a chain with other frontiers, another engine beside these, or something else found
pub right_with_frontier : (chain : Chain) (lane : Lane Replay) (h : List Event) → kind_of_replay lane.engine ≡ kind_in chain → IsFrontierLane lane h → (HasExact (kind_in chain) → IsUnder 1024 lane) → IsRight chain h
    → IsRight (record chain { frontier = lane }) h
right_with_frontier chain lane h kind is under right = record {
  frontier = is;
  spared = λ exact. under (subst HasExact kind exact);
  beside = subst (λ k. IsBeside k h chain.beside) (sym kind) right.beside;
  found = subst (λ k. IsFound k h chain.found) (sym kind) right.found;
  searched = right.searched;
}

pub right_with_beside : (chain : Chain) (beside : Beside) (h : List Event) → IsBeside (kind_in chain) h beside → IsRight chain h → IsRight (record chain { beside = beside }) h
right_with_beside chain beside h is right = record { frontier = right.frontier; spared = right.spared; beside = is; found = right.found; searched = right.searched }

pub right_with_found : (chain : Chain) (found : Found) (h : List Event) → IsFound (kind_in chain) h found → IsRight chain h → IsRight (record chain { found = found }) h
right_with_found chain found h is right = record { frontier = right.frontier; spared = right.spared; beside = right.beside; found = is; searched = right.searched }

-- what was found of the events ahead of the place
pub order_stays : (kind : Kind) (h edited : List Event) (place of : ℕ) (order : List Placed) → of ≤ place → take place h ≡ take place edited → (of ≤ length h) × IsLegalOrderAs kind (take of h) order → (of ≤ length edited) × IsLegalOrderAs kind (take of edited) order
order_stays kind h edited place of order below same is = (longer h edited place of below is.0 same, subst (λ l. IsLegalOrderAs kind l order) (take_alike of place h edited below same) is.1)

pub failure_stays : (kind : Kind) (h edited : List Event) (place at : ℕ) → at < place → take place h ≡ take place edited → (at < length h) × IsDeadAt kind h at → (at < length edited) × IsDeadAt kind edited at
failure_stays kind h edited place at below same is =
    ((let all = longer h edited place (at + 1) (omega (arith, below)) (omega (arith, is.0)) same in omega (arith, all)), dead_alike kind h edited place at below same is.1)

-- what a chain keeps while it finds out how the events end
pub kept_same : (budget : ℕ) (h : List Event) (chain : Chain) → IsRight chain h → IsFor budget chain → IsKept budget h chain chain
kept_same budget h chain right enough = record { kind = refl; right = right; retried = enough; frontier = omega arith; beside = omega arith; stopped = λ is. is }

pub kept_then : (budget : ℕ) (h : List Event) (a b c : Chain) → IsKept budget h a b → IsKept budget h b c → IsKept budget h a c
kept_then budget h a b c one two = record {
  kind = two.kind ∙ one.kind;
  right = two.right;
  retried = two.retried;
  frontier = omega (arith, one.frontier, two.frontier);
  beside = omega (arith, one.beside, two.beside);
  stopped = λ is. two.stopped (one.stopped is);
}

pub kept_with_frontier : (budget : ℕ) (h : List Event) (old chain : Chain) (lane : Lane Replay) → kind_of_replay lane.engine ≡ kind_in chain → IsFrontierLane lane h → IsLaneFor budget lane → (HasExact (kind_in chain) → IsUnder 1024 lane)
    → chain.frontier.mark ≤ lane.mark → IsKept budget h old chain → IsKept budget h old (record chain { frontier = lane })
kept_with_frontier budget h old chain lane kind is enough under more kept = record {
  kind = kind ∙ kept.kind;
  right = right_with_frontier chain lane h kind is under kept.right;
  retried = enough;
  frontier = omega (arith, kept.frontier, more);
  beside = kept.beside;
  stopped = kept.stopped;
}

-- where the engine beside the frontiers, or what was found, is another one
pub kept_with_others : (budget : ℕ) (h : List Event) (old new : Chain) → new ≡ record old { beside = new.beside; found = new.found } → IsRight new h → IsFor budget old → mark_beside old.beside ≤ mark_beside new.beside → IsKept budget h old new
kept_with_others budget h old new same right enough more = record {
  kind = ap kind_in same;
  right = right;
  retried = subst (IsLaneFor budget) (sym (ap (λ (c : Chain). c.frontier) same)) enough;
  frontier = (let mark = ap (λ (c : Chain). c.frontier.mark) same in omega (arith, mark));
  beside = more;
  stopped = λ is. ap (λ (c : Chain). c.stopped) same ∙ is;
}

-- the engine beside the frontiers has been given no more events than there are
pub beside_within : (kind : Kind) (h : List Event) (beside : Beside) → IsBeside kind h beside → mark_beside beside ≤ length h
beside_within kind h Nothing is = omega arith
beside_within kind h (Exact lane) is = is.1.within
beside_within kind h (Going lane) is = is.1.within

-- where it is told that the events have a legal order, the engine has taken in all of them
pub alive_reached : (kind : Kind) (budget : ℕ) (h : List Event) (reached mark count : ℕ) (said : Says) → told_of said reached mark count ≡ Some Alive → IsStanding kind budget h reached mark said → reached ≡ count
alive_reached kind budget h reached mark count On told stands = by (nat_eq mark count) refl told
  where
    by : (b : Bool) → nat_eq mark count ≡ b → (if b then Some Alive else None) ≡ Some Alive → reached ≡ count
    by true e is = stands ∙ (Decides-eqb mark count).0 e
    by false e is = absurd (cc is)
alive_reached kind budget h reached mark count Dead told stands = by (nat_lt reached count) told
  where
    by : (b : Bool) → (if b then Some (DeadAt reached) else None) ≡ Some Alive → reached ≡ count
    by true is = absurd (cc is)
    by false is = absurd (cc is)
alive_reached kind budget h reached mark count (Over at) told stands = by (nat_eq mark count) told
  where
    by : (b : Bool) → (if b then Some (End.Over at) else None) ≡ Some Alive → reached ≡ count
    by true is = absurd (cc is)
    by false is = absurd (cc is)
alive_reached kind budget h reached mark count Gone told stands = absurd (cc told)

-- some end is told, which decides
abbrev pub IsToldDecided : Option End → Type 0
IsToldDecided told = (end : End) × (told ≡ Some end) × IsDecided end

-- an engine that decides an object tells, once all events were given to it
pub exact_told : (lane : Lane ExactEngine) (h : List Event) (count : ℕ) → count ≡ length h → lane.mark ≡ count → IsExactLane lane h → IsToldDecided (told_of lane.said (reach_of_exact lane.engine) lane.mark count)
exact_told lane h count all given is = by lane.said is.may is.standing
  where
    reached : ℕ
    reached = reach_of_exact lane.engine

    by : (said : Says) → IsOfExact said → IsStanding (kind_of_exact lane.engine) lane.budget h reached lane.mark said → IsToldDecided (told_of said reached lane.mark count)
    by On may stands = (Alive, ap (λ b. if b then Some Alive else None) ((Decides-eqb lane.mark count).1 given), tt)
    by Dead may stands = (DeadAt reached, ap (λ b. if b then Some (DeadAt reached) else None) ((Decides-ltb reached count).1 (omega (arith, stands.0, given))), tt)
    by (Over at) may stands = absurd may
    by Gone may stands = absurd may

-- what was found decides
pub found_decides : (found : Found) (count : ℕ) → IfSome (told_by_found found count) IsDecided
found_decides found.Nothing count = tt
found_decides (found.Order order of) count = by (nat_eq of count)
  where
    by : (b : Bool) → IfSome (if b then Some Alive else None) IsDecided
    by true = tt
    by false = tt
found_decides (found.Failure at) count = by (nat_lt at count)
  where
    by : (b : Bool) → IfSome (if b then Some (DeadAt at) else None) IsDecided
    by true = tt
    by false = tt

first_decides : (a b c : Option End) → IfSome a IsDecided → IsToldDecided b → IsToldDecided (first_of a (first_of b c))
first_decides None None c first told = absurd (cc told.1)
first_decides None (Some end) c first told = (end, refl, subst IsDecided (sym (some_same told.1)) told.2)
  where
    some_same : Some end ≡ Some told.0 → end ≡ told.0
    some_same e = cc
first_decides (Some end) b c first told = (end, refl, first)

-- so a chain tells, with such an engine beside its frontiers
pub exact_decides : (chain : Chain) (count : ℕ) → IsToldDecided (told_beside chain.beside count) → IsToldDecided (told_in chain count)
exact_decides chain count told = first_decides (told_by_found chain.found count) (told_beside chain.beside count) _ (found_decides chain.found count) told

-- where all events were searched, and what else is kept
pub kept_searched : (budget : ℕ) (h : List Event) (old chain : Chain) (count : ℕ) → count ≤ length h → IsKept budget h old chain → IsKept budget h old (record chain { searched = count })
kept_searched budget h old chain count within kept = record {
  kind = kept.kind;
  right = record { frontier = kept.right.frontier; spared = kept.right.spared; beside = kept.right.beside; found = kept.right.found; searched = within };
  retried = kept.retried;
  frontier = kept.frontier;
  beside = kept.beside;
  stopped = kept.stopped;
}

-- what is dead is dead at the place of one of the events
pub dead_within : (kind : Kind) (h : List Event) (at : ℕ) → IsDeadAt kind h at → at < length h
dead_within kind h at dead = elim (cases_lt at (length h)) [
  | inl less ↦ less
  | inr more ↦ absurd (dead.failing (subst (IsLinearizableAs kind) (take_past at more ∙ sym (take_past (at + 1) (omega arith))) dead.before))
]
  where
    take_past : (n : ℕ) → length h ≤ n → take n h ≡ h
    take_past n past = take_all n h past

-- where neither what was found nor the engine beside the frontiers tells of an order, frontiers do
pub alive_by_frontier : (a b c : Option End) → first_of a (first_of b c) ≡ Some Alive → (a ≡ Some Alive → ⊥) → (b ≡ Some Alive → ⊥) → c ≡ Some Alive
alive_by_frontier None None c told not_a not_b = told
alive_by_frontier None (Some end) c told not_a not_b = absurd (not_b told)
alive_by_frontier (Some end) b c told not_a not_b = absurd (not_a told)
