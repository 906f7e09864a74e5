use Rattle.std.proofs.Common.{◌≡◌, ◌-◌, drop, length, arith, ◌∙◌}
use Rattle.std.proofs.lemmas.List.{length-drop}
use Rattle.lin_formats.proofs.Written.{written_more, uncounted}
use Rattle.lin_formats.proofs.writing.write_whole.Goals as goal

pub loop-at-preserved : goal.loop-at-preserved
loop-at-preserved g c =
    let left : length (drop c.loop-at.at c.args.text.now) ≡ length c.args.text.now - c.loop-at.at = length-drop c.loop-at.at c.args.text.now in
    let bound = c.in-Ok.ensures.bound in
    record {
      within = omega (arith, bound);
      written = written_more _ _ _ c.loop-at.at c.in-Ok.taken c.args.text.now c.loop-at.invariant.written c.in-Ok.ensures.bytes;
      uncounted = uncounted c.in-Ok.taken _ _ _ c.if-taken-gt0.true c.in-Ok.ensures.counts ∙ c.loop-at.invariant.uncounted;
    }
