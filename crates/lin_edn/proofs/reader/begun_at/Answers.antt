use Rattle.lin_edn.specs.Grammar.{outermost}
use Rattle.std.proofs.Common.{ap, ◌∙◌}
use Rattle.lin_edn.specs.inner.Levels.{frames_of}
use Rattle.lin_edn.proofs.reader.begun_at.Goals as goal

pub returns : goal.returns
returns c = λ s. c.outermost.ensures ∙ ap (λ p. outermost p (frames_of c.args.stack.now)) (c.since.ensures s)
