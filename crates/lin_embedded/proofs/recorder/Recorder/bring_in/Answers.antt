use Rattle.std.proofs.Common.{◌<◌, length, arith}
use Rattle.lin_formats.specs.Inputs.{limit}
use Rattle.lin_embedded.proofs.Reading.{nothing_taken, one_more, put_back}
use Rattle.lin_embedded.proofs.recorder.Recorder.bring_in.Goals as goal

pub returns-in_default-clause-reads : goal.returns-in_default-clause-reads
returns-in_default-clause-reads c = λ settings bytes read.
    let was = c.events.self in
    let e = rw c.in_default.is at c.take_next.ensures in
    nothing_taken settings bytes was.session was.names was.follow c.take_next.new.follow was.in_hand c.take_next.new.in_hand (c.events.invariant.reads settings bytes read) e.1 e.2

pub returns-in-Some-append-clause-reads : goal.returns-in-Some-append-clause-reads
returns-in-Some-append-clause-reads c = λ settings bytes read.
    let was = c.events.self in
    put_back settings bytes was.session c.append.new.session was.names was.follow c.take_next.new.follow was.in_hand c.take_next.new.in_hand c.in-Some.event c.in-Some-append.event
    (c.events.invariant.reads settings bytes read) c.in-Some.ensures c.in-Some-append.ensures.0 c.in-Some-append.ensures.1

pub events-preserved : goal.events-preserved
events-preserved c =
    let was = c.events.self in
    let room : length was.session.present.history < limit = omega (arith, c.events-test.true, c.len.ensures) in
    record {
      reads = λ settings bytes read. one_more settings bytes was.session c.append.new.session was.names was.follow c.take_next.new.follow was.in_hand c.take_next.new.in_hand
          c.in-Some.event (c.events.invariant.reads settings bytes read) c.in-Some.ensures room (rw c.in_default-append.is at c.append.ensures);
      names = c.events.invariant.names;
    }
