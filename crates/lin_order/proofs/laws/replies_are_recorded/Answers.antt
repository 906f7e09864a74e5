use Rattle.std.proofs.Common.{refl}
use Rattle.lin_order.specs.lemmas.Assembling.{one_reply}
use Rattle.lin_order.proofs.laws.replies_are_recorded.Goals as goal

pub returns : goal.returns
returns c h order is at end reply other ok there = one_reply order is.once (record { at = at; reply = other }) (record { at = at; reply = reply }) there (is.each_ok at end reply tt ok) refl
