use Rattle.std.proofs.Common.{◌+◌, Vec, Global, sym, subst, arith}
use Rattle.lin_sets.specs.declared.effects.Effect.{Effect}
use Rattle.lin_sets.specs.Points.{AreEffects}
use Rattle.lin_sets.proofs.Making.{effects_add, effects_skip}
use Rattle.lin_sets.proofs.effects.effects_of_adds.Goals as goal
use Rattle.lin_sets.proofs.effects.effects_of_adds.Goals.{in-Some+in_ok-push, in_default}

pub loop-at-preserved : goal.loop-at-preserved
loop-at-preserved c =
    let adds = c.args.adds.now in
    let reads = c.args.reads.now in
    let points = c.args.points.now in
    let at = c.loop-at.at in
    elim c.match-adds-at.branch [
      | in-Some+in_ok-push w ↦ subst (λ (v : Vec Effect Global). AreEffects adds reads points (at + 1) 0 v.items) (sym w.effects-is)
          (effects_add adds reads points at w.in-Some.item w.add_effect.result c.loop-at.effects.items w.push.new.self.items w.in_ok-push.ensures.items w.add_effect.ensures.at w.add_effect.ensures.is c.loop-at.invariant)
      | in_default w ↦ subst (λ (v : Vec Effect Global). AreEffects adds reads points (at + 1) 0 v.items) (sym w.effects-is)
          (effects_skip adds reads points at c.loop-at.effects.items w.in_default.not-Some c.loop-at.invariant)
    ]

pub returns : goal.returns
returns c = let within = c.loop-at.auto.at-end in let past = c.loop-at-test.false in
    subst (λ k. AreEffects c.args.adds.now c.args.reads.now c.args.points.now k 0 c.loop-at.effects.items) (omega (arith, within, past)) c.loop-at.invariant
