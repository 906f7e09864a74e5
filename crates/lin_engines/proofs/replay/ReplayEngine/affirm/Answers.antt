use Rattle.lin_engines.proofs.Replaying.{replay_linearizable}
use Rattle.lin_engines.proofs.replay.ReplayEngine.affirm.Goals as goal

pub returns : goal.returns
returns c = λ h right. replay_linearizable c.empty_is_legal.ensures (λ kind. c.members_spell_legal_orders.ensures (record { kind = kind })) c.args.self.now h right
