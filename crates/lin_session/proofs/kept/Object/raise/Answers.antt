use Rattle.std.proofs.Common.{refl}
use Rattle.lin_session.proofs.Telling.{IsRaised-chain}
use Rattle.lin_session.proofs.kept.Object.raise.Goals as goal

pub returns : goal.returns
returns c = record {
  picks = refl;
  count = refl;
  kind = c.raise.ensures.kind;
  right = c.raise.ensures.right;
  retried = c.raise.ensures.retried;
  mark = λ h right. IsRaised-chain c.args.self.now.chain c.raise.new.self h right c.raise.ensures.others (c.raise.ensures.no_more h right) (λ at over. c.raise.ensures.back at over h right) c.raise.ensures.kept;
}
