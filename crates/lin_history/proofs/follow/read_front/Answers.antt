use Rattle.std.proofs.Common.{arith, refl}
use Rattle.lin_history.specs.inner.Small.{small_taken}
use Rattle.lin_history.proofs.Taking.{in_front}
use Rattle.lin_history.specs.inner.Passing.{gathered}
use Rattle.lin_history.proofs.follow.read_front.Goals as goal

pub returns-in_ok-put_small-in-Some-clause-within : goal.returns-in_ok-put_small-in-Some-clause-within
returns-in_ok-put_small-in-Some-clause-within c =
    let taken = c.in-Some.ensures c.args.names.now in
    (let some = taken.some in omega arith, taken.inside)

pub returns-in_ok-put_small-in-Some-clause-front : goal.returns-in_ok-put_small-in-Some-clause-front
returns-in_ok-put_small-in-Some-clause-front c = λ m is.
    in_front m c.args.keyed c.args.names.now c.args.text.now (small_taken c.in-Some.small) (gathered c.args.ready.now) (record { items = c.put_small.new.ready.items; passed = c.args.ready.now.passed }) is
    (c.in-Some.ensures c.args.names.now) c.in_ok-put_small-in-Some.ensures.ok refl
