use Rattle.std.proofs.Common.{Result, Ok, Err, OnOk}
use Rattle.lin_engines.proofs.Replaying.{replay_held}
use Rattle.lin_engines.proofs.replay.Replay.prepare.Goals as goal

on_ok_since : {A E : Type 0} (r : Result A E) (P : Type 0) → P → OnOk r P
on_ok_since (Ok x) P said = said
on_ok_since (Err e) P said = tt

pub returns-clause-right : goal.returns-clause-right
returns-clause-right c = λ h right. replay_held c.mark.new.self c.reserve.new.self h c.reserve.ensures.operations (λ place mark below past. c.reserve.ensures.past h place mark past) (c.mark.ensures.right h right)

pub returns-clause-prepared : goal.returns-clause-prepared
returns-clause-prepared c = on_ok_since c.reserve.result _ (λ h right. record {
  right = replay_held c.mark.new.self c.reserve.new.self h c.reserve.ensures.operations (λ place mark below past. c.reserve.ensures.past h place mark past) (c.mark.ensures.right h right);
  before = c.in_ok-mark.ensures.before h right;
})
