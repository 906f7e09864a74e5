use mathlib.Core.Path.{ap}
use Rattle.std.specs.Prelude.{codes, decimal}
use Rattle.std.proofs.lemmas.Fmt.{decimal_injective}
use Rattle.std.proofs.lemmas.List.{append_cancel_left}
use Rattle.lin_draw.specs.Fades.{fade_text}
use Rattle.lin_draw.proofs.fades.names_tell_fades.Goals as goal

pub returns : goal.returns
returns c = λ one other small less same. ap fade_text (decimal_injective one other small less (append_cancel_left (codes "lincheck-fade-") (decimal one) (decimal other) same))
