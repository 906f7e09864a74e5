use Rattle.std.proofs.Common.{◌∙◌, ◌-◌, ◌*◌, ap, sym, arith, length, slice_get}
use Rattle.lin_engines.proofs.Replaying.{replay_back}
use Rattle.lin_engines.proofs.replay.Replay.go_back.Goals as goal

pub returns-in-Some-clause-right : goal.returns-in-Some-clause-right
returns-in-Some-clause-right c = λ h edited right inside same.
    let last = ap (λ l. slice_get l (length l - 1)) (sym c.deref.ensures.value) ∙ sym c.in-Some.ensures.value in
    replay_back c.args.self.now c.truncate.new.self c.args.number (c.args.number * 64) c.in-Some.last.now c.cut.new.self c.cut-in-Some.new.self h edited right inside same c.truncate.ensures.items last c.cut.ensures
    (c.cut-in-Some.ensures.now h) (λ earlier mark below ahead past was. c.cut-in-Some.ensures.past h earlier mark below ahead past was) (omega arith)
