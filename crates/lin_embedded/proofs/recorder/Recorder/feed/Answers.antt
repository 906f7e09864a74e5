use Rattle.std.proofs.Common.{◌++◌, Result, sym, subst}
use Rattle.std.proofs.lemmas.Result.{err_from_is_err_and}
use Rattle.lin_events.specs.declared.lists.OutOfMemory.{OutOfMemory}
use Rattle.lin_embedded.specs.Recorders.{Feeds}
use Rattle.lin_embedded.specs.declared.recorder.Intake.{Intake}
use Rattle.lin_embedded.proofs.Reading.{read_on, read_still}
use Rattle.lin_embedded.proofs.recorder.Recorder.feed.Goals as goal

pub returns-in_err-take_in : goal.returns-in_err-take_in
returns-in_err-take_in c =
    let mid = c.bring_in.new.self in
    let e = err_from_is_err_and c.from_residual-in_err-take_in.result c.from_residual-in_err-take_in.ensures.1 in
    subst (λ (r : Result Intake OutOfMemory). Feeds c.args.piece.now c.args.self.now (record mid { names = c.take_in.new.names; follow = c.take_in.new.follow }) r) (sym e.1)
    (λ settings bytes read. read_still settings bytes mid c.take_in.new.names c.take_in.new.follow (c.bring_in.ensures.reads settings bytes read) c.take_in.ensures.begun
    c.take_in.ensures.once c.in_err-take_in.ensures.kept)

pub returns : goal.returns
returns c = λ settings bytes read.
    let taken = c.in_ok-take_in.ensures.taken in
    let now = read_on settings bytes c.args.piece.now c.bring_in.new.self c.take_in.new.names c.take_in.new.follow taken.0 (c.bring_in.ensures.reads settings bytes read)
    c.take_in.ensures.begun c.take_in.ensures.once taken.1 in
    (now, c.intake.ensures settings (bytes ++ c.args.piece.now) now)
