use Rattle.std.proofs.Common.{◌++◌, arith, length-drop}
use Rattle.lin_history.proofs.Reading.{rest_is, put_again}
use Rattle.lin_history.proofs.Waiting.{reads_on}
use Rattle.lin_history.specs.inner.Passing.{gathered}
use Rattle.lin_history.proofs.follow.close.Goals as goal

pub returns-in_ok-read-in-Element-clause-put : goal.returns-in_ok-read-in-Element-clause-put
returns-in_ok-read-in-Element-clause-put c =
    let first = c.in_ok-used.ensures.put in
    let rest = c.in_ok-read-in-Element.ensures.put in
    (first.0 ++ rest.0, put_again c.args.ready.now.events.items c.tell_row.new.ready.events.items c.read_on.new.ready.events.items first.0 rest.0 first.1 rest.1)

pub returns-in_ok-read-in-Element-clause-within : goal.returns-in_ok-read-in-Element-clause-within
returns-in_ok-read-in-Element-clause-within c =
    let first = rw c.in-Element.is at (c.in_ok-used.ensures.within c.args.held.now c.requires.whole) in
    let rest = rw (rest_is c.args.held.now c.in-Element.used) at c.in_ok-read-in-Element.ensures.within in
    let size = length-drop c.in-Element.used c.args.held.now in
    let inside = first.1 in
    omega arith

pub returns-in_ok-read-in-Element-clause-read : goal.returns-in_ok-read-in-Element-clause-read
returns-in_ok-read-in-Element-clause-read c = λ m is whole.
    let first = rw c.in-Element.is at (c.in_ok-used.ensures.front m c.args.held.now whole) in
    let here = rw (rest_is c.args.held.now c.in-Element.used) at (c.in_ok-read-in-Element.ensures.read m is) in
    reads_on m c.args.held.now c.args.passed (gathered c.args.ready.now) (gathered c.tell_row.new.ready) (gathered c.read_on.new.ready) c.in-Element.used
    c.in_ok-read-in-Element.read first here

pub returns-in-End-clause-within : goal.returns-in-End-clause-within
returns-in-End-clause-within c = rw c.in-End.is at (c.in_ok-used.ensures.within c.args.held.now c.requires.whole)

pub returns-in-End-clause-read : goal.returns-in-End-clause-read
returns-in-End-clause-read c = λ m is whole. rw c.in-End.is at (c.in_ok-used.ensures.front m c.args.held.now whole)

pub slice_bounds-read_on-count : goal.slice_bounds-read_on-count
slice_bounds-read_on-count c = (rw c.in-Element.is at (c.in_ok-used.ensures.within c.args.held.now c.requires.whole)).1

pub slice_bounds-read_on-start : goal.slice_bounds-read_on-start
slice_bounds-read_on-start c = (rw c.in-Element.is at (c.in_ok-used.ensures.within c.args.held.now c.requires.whole)).1

pub overflow_add-passed : goal.overflow_add-passed
overflow_add-passed c =
    let inside = (rw c.in-Element.is at (c.in_ok-used.ensures.within c.args.held.now c.requires.whole)).1 in
    let small = c.requires.small in
    omega arith

pub read_on-requires : goal.read_on-requires
read_on-requires c =
    let inside = (rw c.in-Element.is at (c.in_ok-used.ensures.within c.args.held.now c.requires.whole)).1 in
    let small = c.requires.small in
    rw (rest_is c.args.held.now c.in-Element.used) (let size = length-drop c.in-Element.used c.args.held.now in omega arith)

pub returns-in_err-read-in-Element-clause-put : goal.returns-in_err-read-in-Element-clause-put
returns-in_err-read-in-Element-clause-put c =
    let first = c.in_ok-used.ensures.put in
    let rest = c.in_err-read-in-Element.ensures.put in
    (first.0 ++ rest.0, put_again c.args.ready.now.events.items c.tell_row.new.ready.events.items c.read_on.new.ready.events.items first.0 rest.0 first.1 rest.1)
