use Rattle.std.proofs.Common.{nat_eq, get_or, refl, arith}
use Rattle.std.proofs.lemmas.Bool.{agree_below_at}
use Rattle.lin_bytes.specs.Bytes.{class}
use Rattle.lin_bytes.specs.Bytes.{is_inside}
use Rattle.lin_bytes.specs.declared.classes.TheConstants.{CLASSES}
use Rattle.lin_bytes.proofs.classes.is_plain.Goals as goal

pub returns : goal.returns
returns c = agree_below_at (λ k. nat_eq (get_or CLASSES k 0) 0) (λ k. is_inside (class k)) 256 c.args.c refl (omega arith)
