use Rattle.std.proofs.Common.{◌∙◌, arith}
use Rattle.lin_session.proofs.kept.Objects.split.Goals as goal

pub loop-self-preserved : goal.loop-self-preserved
loop-self-preserved c = record {
  right = λ budget kept. c.split_next.ensures.right budget (c.loop-self.invariant.right budget kept);
  within = c.split_next.ensures.within;
  same = λ all. absurd (omega (arith, c.loop-self.invariant.apart all, c.loop-self-test.true));
  marks = λ key. c.split_next.ensures.marks key ∙ c.loop-self.invariant.marks key;
  apart = λ all. absurd (omega (arith, c.loop-self.invariant.apart all, c.loop-self-test.true));
}

pub returns-in_err-split_next-clause-right : goal.returns-in_err-split_next-clause-right
returns-in_err-split_next-clause-right c = λ budget kept. c.split_next.ensures.right budget (c.loop-self.invariant.right budget kept)

pub returns-in_err-split_next-clause-apart : goal.returns-in_err-split_next-clause-apart
returns-in_err-split_next-clause-apart c = λ all. absurd (omega (arith, c.loop-self.invariant.apart all, c.loop-self-test.true))
