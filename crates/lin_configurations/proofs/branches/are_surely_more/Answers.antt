use Rattle.std.proofs.Common.{◌≡◌, Contains, List, length, subst, ap, arith}
use Rattle.std.proofs.lemmas.List.Elements.{All-contains}
use Rattle.lin_configurations.specs.inner.Branches.{ArePicked, IsFree, IsUntold}
use Rattle.lin_frontier.specs.declared.pending.Open.{Open}
use Rattle.lin_members.specs.Rounds.{joined}
use Rattle.lin_configurations.proofs.Branched.{ahead_or_behind, each_or_not}
use Rattle.lin_configurations.proofs.branches.are_surely_more.Goals as goal

pub returns-then-is_power_above : goal.returns-then-is_power_above
returns-then-is_power_above g c _ functions h nodes well_formed opened spelled =
    let o = c.args.object.now in
    let m = c.args.member.now in
    let free = c.in_ok-operations.operations.items in
    each_or_not (g.O.SeqObject.starts o) (g.O.SeqObject.step o) (g.O.SeqObject.total o) (g.O.SeqObject.taken o) c.placing_is_legal.ensures functions h ((c.well_formed_is_alternating.ensures functions h).0 well_formed)
    c.args.pending.now opened (m.0.state, m.0.placed)
    (joined spelled.rounds, c.rounds_spell_members.ensures.ends (g.O.SeqObject.observing o) h spelled.states spelled.rounds m.0 spelled.trail)
    free (subst (λ p. ArePicked (IsFree (g.O.SeqObject.total o) p) c.args.pending.now free) c.placed.ensures c.in_ok-operations.ensures) c.args.budget
    (rw c.as_slice-free.ensures.value at c.is_power_above.ensures c.if-is_power_above.true)

pub returns : goal.returns
returns g c more functions h nodes well_formed opened spelled =
    let o = c.args.object.now in
    let m = c.args.member.now in
    let call = c.in-Some.reader.now.call in
    let free = c.in_ok-operations.operations.items in
    let reads = c.in_ok-reads.reads.items in
    let updates = c.in_ok-updates.updates.items in
    let slice = c.as_slice-free.ensures.value in
    let picked = subst (λ p. ArePicked (IsFree (g.O.SeqObject.total o) p) c.args.pending.now free) c.placed.ensures c.in_ok-operations.ensures in
    let reader : Contains free c.in-Some.reader.now = subst (λ l. Contains l c.in-Some.reader.now) slice c.in-Some.ensures in
    ahead_or_behind (g.O.SeqObject.starts o) (g.O.SeqObject.step o) (g.O.SeqObject.total o) (g.O.SeqObject.taken o) c.placing_is_legal.ensures functions h ((c.well_formed_is_alternating.ensures functions h).0 well_formed)
    c.args.pending.now opened (m.0.state, m.0.placed)
    (joined spelled.rounds, c.rounds_spell_members.ensures.ends (g.O.SeqObject.observing o) h spelled.states spelled.rounds m.0 spelled.trail)
    free picked call (All-contains (IsFree (g.O.SeqObject.total o) m.0.placed) free c.in-Some.reader.now picked.each reader).0
    (g.O.SeqObject.shown o) (g.O.SeqObject.showing o) (g.O.SeqObject.having o) (g.O.SeqObject.told o) reads updates
    (subst (λ l. ArePicked (λ (p : Open). p.call ≡ call) l reads) slice c.in_ok-reads.ensures)
    (subst (λ s. ArePicked (IsUntold (g.O.SeqObject.shown o) (g.O.SeqObject.having o) s call) free updates) c.state.ensures
    (subst (λ l. ArePicked (IsUntold (g.O.SeqObject.shown o) (g.O.SeqObject.having o) c.state.result.now call) l updates) slice c.in_ok-updates.ensures.picked))
    c.in_ok-updates.ensures.differ c.saturating_add-places.result c.args.budget
    (let e = c.saturating_add-places.ensures in let l = ap (λ (xs : List Open). length xs) c.as_slice.ensures.value in omega (arith, e, l))
    (rw c.as_slice-2.ensures.value at c.is_power_above-2.ensures more)
