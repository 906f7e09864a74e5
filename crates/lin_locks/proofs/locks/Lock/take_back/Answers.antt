use Rattle.lin_locks.specs.declared.locks.Lock.{Lock}
use Rattle.lin_locks.proofs.Undoing.{gone_back, room_before}
use Rattle.lin_locks.proofs.locks.Lock.take_back.Goals as goal

pub returns-in-Some-clause-told : goal.returns-in-Some-clause-told
returns-in-Some-clause-told c = λ h told.
    let old = c.args.self.now in
    let new : Lock = record { standing = c.undo.new.self; changes = c.pop.new.self } in
    gone_back old new c.in-Some.change c.in-Some.ensures.items h told (c.undo.ensures.undone (room_before old new c.in-Some.change c.in-Some.ensures.items h told)) c.undo.ensures.kept
