use Rattle.std.proofs.Common.{nat_le, get_or, refl, arith}
use Rattle.std.proofs.lemmas.Bool.{agree_below_at}
use Rattle.lin_bytes.specs.Bytes.{is_stop}
use Rattle.lin_bytes.specs.declared.classes.TheConstants.{CLASSES}
use Rattle.lin_bytes.proofs.classes.is_stop.Goals as goal

pub returns : goal.returns
returns c = agree_below_at (λ k. nat_le 2 (get_or CLASSES k 0)) is_stop 256 c.args.c refl (omega arith)
