use Rattle.std.proofs.Common.{◌≡◌, ◌*◌, ◌<◌, ◌++◌, ◌∷◌, ◌∙◌, [], ap, sym, subst, refl, length}
use Rattle.lin_engines.specs.declared.replay.Checkpoint.{Checkpoint}
use Rattle.lin_engines.proofs.Replaying.{replay_moved, replay_marked, replay_presents, before_last}
use Rattle.lin_engines.proofs.replay.Replay.keep.Goals as goal

pub returns-then-is_err-clause-right : goal.returns-then-is_err-clause-right
returns-then-is_err-clause-right c = λ h right. replay_moved c.args.self.now c.reserve.new.self h c.reserve.ensures.items right

pub returns-in-Some-clause-right : goal.returns-in-Some-clause-right
returns-in-Some-clause-right c = λ h right.
    let self = c.args.self.now in
    let checkpoint : Checkpoint = record { frontier = c.in-Some.frontier; nodes = c.len.result; opened = c.mark.result } in
    replay_marked self c.push_reserved.new.self c.take.new.self c.mark.new.self c.in-Some.frontier checkpoint h c.take.ensures.after (sym c.take.ensures.value ∙ c.in-Some.is) c.requires
    (c.push_reserved.ensures.items ∙ ap (λ l. l ++ checkpoint ∷ []) c.reserve.ensures.items) refl c.len.ensures c.mark.ensures.operations (c.mark.ensures.now h) (λ place mark past. c.mark.ensures.past h place mark past) right

pub returns-in_default-clause-right : goal.returns-in_default-clause-right
returns-in_default-clause-right c = λ h right.
    replay_presents _ c.take.new.self h (c.take.ensures.after ∙ sym c.in_default.is ∙ c.take.ensures.value) (replay_moved c.args.self.now c.reserve.new.self h c.reserve.ensures.items right)

pub returns-in_default-clause-before : goal.returns-in_default-clause-before
returns-in_default-clause-before c = λ h right some.
    subst (λ l. c.args.self.now.reached < 64 * length l) (sym c.reserve.ensures.items) (before_last c.args.self.now h right (sym c.take.ensures.value ∙ c.in_default.is) some)
