use Rattle.std.proofs.Common.{[], ◌++◌, refl, sym, append-nil, arith, length-drop}
use Rattle.lin_names.specs.lemmas.Begins.{begins_itself, begins_on}
use Rattle.lin_history.specs.Stream.{nothing}
use Rattle.lin_history.specs.PassedMaps.{nothing as passes_nothing}
use Rattle.lin_history.proofs.Reading.{one_more, the_end, rest_is, put_again, reading_before}
use Rattle.lin_history.specs.inner.Passing.{gathered}
use Rattle.lin_history.proofs.follow.read_on.Goals as goal

pub elements-init : goal.elements-init
elements-init c =
    let none = sym (append-nil c.args.ready.now.events.items) in
    record {
      begun = begins_itself c.args.names.now;
      put = ([], none);
      inside = omega arith;
      read = λ m is. record { inside = omega arith; read = ([], none, nothing); over = ([], passes_nothing, refl) };
    }

pub elements-preserved : goal.elements-preserved
elements-preserved c =
    let old = c.elements.invariant in
    let here = rw (rest_is c.args.text.now c.elements.at) at (rw c.in-Element.is at c.in_ok-used.ensures.within) in
    let size = length-drop c.elements.at c.args.text.now in
    let before = old.inside in
    let put = c.in_ok-used.ensures.put in
    record {
      begun = begins_on c.args.names.now c.elements.names c.read_front.new.names old.begun c.in_ok-used.ensures.begun;
      put = (old.put.0 ++ put.0, put_again c.args.ready.now.events.items c.elements.ready.events.items c.read_front.new.ready.events.items old.put.0 put.0 old.put.1 put.1);
      inside = (let h = here.1 in omega arith);
      read = λ m is.
          let front = rw (rest_is c.args.text.now c.elements.at) at (rw c.in-Element.is at (c.in_ok-used.ensures.front m is)) in
          one_more _ _ _ _ _ (gathered c.elements.ready) _ (old.read m (reading_before c.args.keyed c.elements.names c.read_front.new.names m c.in_ok-used.ensures.begun is)) front;
    }

pub returns-in-End-clause-begun : goal.returns-in-End-clause-begun
returns-in-End-clause-begun c = begins_on c.args.names.now c.elements.names c.read_front.new.names c.elements.invariant.begun c.in_ok-used.ensures.begun

pub returns-in-End-clause-put : goal.returns-in-End-clause-put
returns-in-End-clause-put c =
    let old = c.elements.invariant.put in
    let put = c.in_ok-used.ensures.put in
    (old.0 ++ put.0, put_again c.args.ready.now.events.items c.elements.ready.events.items c.read_front.new.ready.events.items old.0 put.0 old.1 put.1)

pub returns-in-End-clause-within : goal.returns-in-End-clause-within
returns-in-End-clause-within c =
    let here = rw (rest_is c.args.text.now c.elements.at) at (rw c.in-End.is at c.in_ok-used.ensures.within) in
    let size = length-drop c.elements.at c.args.text.now in
    let before = c.elements.invariant.inside in
    omega arith

pub returns-in-End-clause-read : goal.returns-in-End-clause-read
returns-in-End-clause-read c = λ m is.
    let front = rw (rest_is c.args.text.now c.elements.at) at (rw c.in-End.is at (c.in_ok-used.ensures.front m is)) in
    the_end _ _ c.args.place c.elements.at _ (gathered c.elements.ready) _ c.in-End.read (c.elements.invariant.read m (reading_before c.args.keyed c.elements.names c.read_front.new.names m c.in_ok-used.ensures.begun is)) front
