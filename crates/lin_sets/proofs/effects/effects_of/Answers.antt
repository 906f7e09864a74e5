use Rattle.std.proofs.Common.{[], length, arith, subst}
use Rattle.std.proofs.lemmas.Option.{slice_get-get_or}
use Rattle.lin_sets.specs.Points.{AreEffects}
use Rattle.lin_sets.proofs.Making.{effects_read}
use Rattle.lin_sets.proofs.effects.effects_of.Goals as goal

pub loop-i-preserved : goal.loop-i-preserved
loop-i-preserved c =
    let reads = c.args.reads.now in
    let i = c.loop-i.i in
    let there = slice_get-get_or reads i (0, []) c.loop-i-test.true in
    effects_read c.args.adds.now reads c.args.points.now (length c.args.adds.now) i _ c.in_ok-read_effect.field-0 c.loop-i.effects.items c.push.new.self.items c.in_ok-push.ensures.items there (c.in_ok-read_effect.ensures _ there) c.loop-i.invariant

pub returns : goal.returns
returns c = let within = c.loop-i.auto.i-end in let past = c.loop-i-test.false in
    subst (λ k. AreEffects c.args.adds.now c.args.reads.now c.args.points.now (length c.args.adds.now) k c.loop-i.effects.items) (omega (arith, within, past)) c.loop-i.invariant
