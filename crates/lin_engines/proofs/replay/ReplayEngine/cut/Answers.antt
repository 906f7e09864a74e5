use Rattle.std.proofs.Common.{◌<◌, ◌*◌, ◌/◌, length, arith}
use Rattle.lin_engines.proofs.Cutting.{replay_alike}
use Rattle.lin_engines.specs.lemmas.Beginnings.{take_alike}
use Rattle.lin_engines.proofs.replay.ReplayEngine.cut.Goals as goal

pub returns-then-place-self-clause-right : goal.returns-then-place-self-clause-right
returns-then-place-self-clause-right c = λ h edited right same.
    let before = c.if-place-self.true in
    let inside : c.args.place / 64 < length c.args.self.now.checkpoints.items = omega (arith, right.enough, before) in
    c.go_back.ensures.right h edited right inside (take_alike (64 * (c.args.place / 64)) c.args.place h edited (omega arith) same)

pub returns-else-place-self-clause-right : goal.returns-else-place-self-clause-right
returns-else-place-self-clause-right c = λ h edited right same. replay_alike c.args.self.now h edited c.args.place (let past = c.if-place-self.false in omega arith) same right
