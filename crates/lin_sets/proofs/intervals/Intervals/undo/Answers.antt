use Rattle.std.proofs.Common.{◌≡◌, length, arith, ap, subst, sym}
use Rattle.lin_sets.specs.declared.intervals.Intervals.{Intervals}
use Rattle.lin_sets.specs.Endings.{AreBefore, AreKept}
use Rattle.lin_sets.specs.Intervals.{AreAll}
use Rattle.lin_sets.proofs.Undoing.{taken_many}
use Rattle.lin_sets.proofs.Undone.{undone_again, undone_ended, undone_failed, undone_found, undone_invoked}
use Rattle.lin_sets.proofs.intervals.Intervals.undo.Goals as goal

pub returns-in-Invoked-clause-told : goal.returns-in-Invoked-clause-told
returns-in-Invoked-clause-told c = λ h but.
    let left = c.args.self.now in
    let old : Intervals = record left { adds = but.adds; changes = but.changes } in
    let at : c.len-end.result ≡ length h = omega (arith, c.len-end.ensures, left.adds.ok.0, ap length but.taken, taken_many h but.event but.adds.items but.all.adds) in
    undone_invoked old h but.event but.all left.adds but.taken left.changes c.args.change but.split
    c.in-Invoked.process c.in-Invoked.call c.in-Invoked.before c.in-Invoked.is _ _ c.len-end.result at c.restore.ensures c.uncall.ensures.add c.uncall.ensures.other

pub returns-in-Found-clause-told : goal.returns-in-Found-clause-told
returns-in-Found-clause-told c = λ h but.
    let left = c.args.self.now in
    let old : Intervals = record left { adds = but.adds; changes = but.changes } in
    let at : c.len-end.result ≡ length h = omega (arith, c.len-end.ensures, left.adds.ok.0, ap length but.taken, taken_many h but.event but.adds.items but.all.adds) in
    let listed = but.all.listed in
    subst (λ (i : Intervals). AreAll i h) (sym c.forget_read.ensures.others) (undone_found old h but.event but.all left.adds but.taken left.changes c.args.change but.split
    c.in-Found.set c.in-Found.is c.forget_read.new.self.endings c.remove_level.new.levels c.forget_read.new.self.reads (c.remove_level.ensures but.all.levels.rising) c.forget_read.ensures.reads
    (c.forget_read.ensures.listed listed) (subst (AreKept left.endings c.forget_read.new.self.endings) at (c.forget_read.ensures.kept listed))
    (subst (λ k. AreBefore k c.forget_read.new.self.endings) at (c.forget_read.ensures.before listed)))

pub returns-in-FoundAgain-clause-told : goal.returns-in-FoundAgain-clause-told
returns-in-FoundAgain-clause-told c = λ h but.
    let left = c.args.self.now in
    let old : Intervals = record left { adds = but.adds; changes = but.changes } in
    let at : c.len-end.result ≡ length h = omega (arith, c.len-end.ensures, left.adds.ok.0, ap length but.taken, taken_many h but.event but.adds.items but.all.adds) in
    let listed = but.all.listed in
    let new = c.forget_read-in-FoundAgain.new.self in
    subst (λ (i : Intervals). AreAll i h) (sym c.forget_read-in-FoundAgain.ensures.others) (undone_again old h but.event but.all left.adds but.taken left.changes c.args.change but.split
    c.in-FoundAgain.is new.endings new.reads c.forget_read-in-FoundAgain.ensures.reads (c.forget_read-in-FoundAgain.ensures.listed listed)
    (subst (AreKept left.endings new.endings) at (c.forget_read-in-FoundAgain.ensures.kept listed)) (subst (λ k. AreBefore k new.endings) at (c.forget_read-in-FoundAgain.ensures.before listed)))

pub returns-in-Failed-clause-told : goal.returns-in-Failed-clause-told
returns-in-Failed-clause-told c = λ h but.
    let left = c.args.self.now in
    let old : Intervals = record left { adds = but.adds; changes = but.changes } in
    undone_failed old h but.event but.all left.adds but.taken left.changes c.args.change but.split
    c.in-Failed.at c.in-Failed.item c.in-Failed.is _ _ c.restore-in-Failed.ensures.set c.lower.ensures

pub returns-in-Ended-clause-told : goal.returns-in-Ended-clause-told
returns-in-Ended-clause-told c = λ h but.
    let left = c.args.self.now in
    let old : Intervals = record left { adds = but.adds; changes = but.changes } in
    let at : c.len-end.result ≡ length h = omega (arith, c.len-end.ensures, left.adds.ok.0, ap length but.taken, taken_many h but.event but.adds.items but.all.adds) in
    let listed = but.all.listed in
    undone_ended old h but.event but.all left.adds but.taken left.changes c.args.change but.split
    c.in-Ended.is _ (c.forget.ensures.listed listed) (subst (AreKept left.endings c.forget.new.self) at (c.forget.ensures.kept listed))
    (subst (λ k. AreBefore k c.forget.new.self) at (c.forget.ensures.before listed))
