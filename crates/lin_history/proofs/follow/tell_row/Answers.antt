use Rattle.std.proofs.Common.{arith}
use Rattle.lin_history.proofs.Waiting.{row_without_fault, row_with_fault}
use Rattle.lin_history.specs.inner.Passing.{gathered}
use Rattle.lin_history.proofs.follow.tell_row.Goals as goal

pub returns-in-None-clause-within : goal.returns-in-None-clause-within
returns-in-None-clause-within c = λ s w.
    let place = c.places.ensures.spelled s w.0 _ c.args.used w.1 in
    (let some = place.0 in omega arith, place.1)

pub returns-in-None-clause-front : goal.returns-in-None-clause-front
returns-in-None-clause-front c = λ m s w.
    let place = c.places.ensures.spelled s w.0 _ c.args.used w.1 in
    row_without_fault m s (gathered c.args.ready.now) (record { items = c.put_all.new.ready.items; passed = c.add.new.self }) c.args.row c.args.used w place.0 place.1 c.in-None.is
    c.in_ok-put_all.ensures.ok c.add.ensures

pub returns-in-Some-clause-within : goal.returns-in-Some-clause-within
returns-in-Some-clause-within c = λ s w. rw c.ends.ensures (c.places.ensures.spelled s w.0 _ c.args.used w.1).1

pub returns-in-Some-clause-front : goal.returns-in-Some-clause-front
returns-in-Some-clause-front c = λ m s w.
    let place = c.places.ensures.spelled s w.0 _ c.args.used w.1 in
    rw (c.ends.ensures, c.begun.ensures) (row_with_fault m s c.args.place (gathered c.args.ready.now) (record { items = c.put_all.new.ready.items; passed = c.args.ready.now.passed }) c.args.row c.args.used c.in-Some.cause w place.1
    c.in-Some.is c.in_ok-put_all.ensures.ok)
