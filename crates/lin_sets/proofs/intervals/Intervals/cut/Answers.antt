use Rattle.std.proofs.Common.{◌≡◌, ◌<◌, ◌+◌, arith}
use Rattle.lin_sets.specs.Intervals.{reached_in}
use Rattle.lin_sets.proofs.Next.{fewer_told}
use Rattle.lin_sets.proofs.intervals.Intervals.cut.Goals as goal

pub loop-self-preserved : goal.loop-self-preserved
loop-self-preserved c = record {
  told = λ h told. fewer_told c.loop-self.self c.take_back.new.self h (c.loop-self.invariant.told h told) (c.take_back.ensures.told) c.take_back.ensures.fewer;
  reached =
      let fewer : reached_in c.take_back.new.self + 1 ≡ reached_in c.loop-self.self = c.take_back.ensures.fewer in
      let more : c.args.place < reached_in c.loop-self.self = omega (arith, c.loop-self-test.true, c.len.ensures, c.loop-self.self.adds.ok.0) in
      omega (arith, fewer, more, c.loop-self.invariant.reached);
}
