use Rattle.std.proofs.Common.{◌<◌, ◌*◌, ◌++◌, ◌∷◌, ◌∙◌, List, [], ap, refl, length}
use Rattle.lin_events.specs.declared.events.Event.{Event}
use Rattle.lin_engines.specs.declared.replay.Checkpoint.{Checkpoint}
use Rattle.lin_engines.specs.Replays.{IsReplay}
use Rattle.lin_engines.proofs.Replaying.{replay_moved, replay_begun}
use Rattle.lin_engines.proofs.replay.Replay.begin.Goals as goal

pub returns-in_err-frontier-clause-right : goal.returns-in_err-frontier-clause-right
returns-in_err-frontier-clause-right c = λ h right. replay_moved c.args.self.now c.reserve.new.self h c.reserve.ensures.items right

begun : (c : goal.After-push_reserved) (h : List Event) → IsReplay c.args.self.now h → (IsReplay (record c.args.self.now { checkpoints = c.push_reserved.new.self; pending = c.mark.new.self }) h) × (c.args.self.now.reached < 64 * length c.push_reserved.new.self.items)
begun c h right =
    let checkpoint : Checkpoint = record { frontier = c.in_ok-frontier.frontier; nodes = c.len.result; opened = c.mark.result } in
    replay_begun c.args.self.now c.push_reserved.new.self c.mark.new.self checkpoint h c.requires
    (c.push_reserved.ensures.items ∙ ap (λ l. l ++ checkpoint ∷ []) (c.reserve.ensures.items ∙ c.requires)) c.len.ensures c.mark.ensures.operations (c.mark.ensures.now h) c.in_ok-frontier.ensures.exact
    c.in_ok-frontier.ensures.one right

pub returns-clause-right : goal.returns-clause-right
returns-clause-right c = λ h right. (begun c h right).0

pub returns-clause-before : goal.returns-clause-before
returns-clause-before c = λ h right. (begun c h right).1
