use Rattle.std.proofs.Common.{arith, refl}
use Rattle.lin_history.proofs.Taking.{in_front}
use Rattle.lin_history.specs.inner.Passing.{gathered}
use Rattle.lin_history.proofs.follow.read_usual.Goals as goal

pub returns-in_ok-put_event-in-Some-clause-within : goal.returns-in_ok-put_event-in-Some-clause-within
returns-in_ok-put_event-in-Some-clause-within c =
    let taken = c.in-Some.ensures.taken in
    (let some = taken.some in omega arith, taken.inside)

pub returns-in_ok-put_event-in-Some-clause-front : goal.returns-in_ok-put_event-in-Some-clause-front
returns-in_ok-put_event-in-Some-clause-front c = λ m is.
    in_front m c.args.keyed c.next_usual.new.names c.args.text.now c.in-Some.taken (gathered c.args.ready.now) (record { items = c.put_event.new.ready.items; passed = c.args.ready.now.passed }) is c.in-Some.ensures.taken
    c.in_ok-put_event-in-Some.ensures.ok refl
