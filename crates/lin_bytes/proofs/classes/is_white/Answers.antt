use Rattle.std.proofs.Common.{nat_eq, get_or, refl, arith}
use Rattle.std.proofs.lemmas.Bool.{agree_below_at}
use Rattle.lin_bytes.specs.Bytes.{is_white}
use Rattle.lin_bytes.specs.declared.classes.TheConstants.{CLASSES}
use Rattle.lin_bytes.proofs.classes.is_white.Goals as goal

pub returns : goal.returns
returns c = agree_below_at (λ k. nat_eq (get_or CLASSES k 0) 2) is_white 256 c.args.c refl (omega arith)
