use Rattle.std.proofs.Common.{ap, arith}
use Rattle.lin_edn.specs.View.{view}
use Rattle.lin_edn.specs.Reading.{Refuses}
use Rattle.lin_edn.specs.Grammar.{Spells, IsUnfinished, IsBlankText}
use Rattle.lin_history.specs.Stream.{told}
use Rattle.lin_history.proofs.Fronts.{ends_in_fault, ends_unfinished, ends_blank, ends_refused, told_fault}
use Rattle.lin_history.specs.inner.Passing.{gathered}
use Rattle.lin_history.proofs.follow.read_element.Goals as goal

pub returns-in-Ok-Complete-clause-within : goal.returns-in-Ok-Complete-clause-within
returns-in-Ok-Complete-clause-within c =
    let spelled : Spells c.args.text.now (view c.in-Ok-Complete.value) c.in-Ok-Complete.at c.in-Ok-Complete.used = rw c.in-Ok-Complete.field-0-is at c.in-Ok-Complete.ensures.says in
    rw c.ends.ensures (c.places.ensures.spelled c.args.text.now (view c.in-Ok-Complete.value) c.in-Ok-Complete.at c.in-Ok-Complete.used spelled).1

pub returns-in-Ok-Complete-clause-front : goal.returns-in-Ok-Complete-clause-front
returns-in-Ok-Complete-clause-front c = λ m is.
    let spelled : Spells c.args.text.now (view c.in-Ok-Complete.value) c.in-Ok-Complete.at c.in-Ok-Complete.used = rw c.in-Ok-Complete.field-0-is at c.in-Ok-Complete.ensures.says in
    let telling = told_fault (told m (view c.in-Ok-Complete.value)) c.args.ready.now.events.items c.tell.new.ready.items c.in-Err-tell.fault
    c.in_default.not-OutOfMemory (c.in-Err-tell.ensures.told m is) in
    rw c.ends.ensures (ends_in_fault m c.args.text.now c.args.place (gathered c.args.ready.now) (record { items = c.tell.new.ready.items; passed = c.args.ready.now.passed }) (view c.in-Ok-Complete.value)
    c.in-Ok-Complete.at c.in-Ok-Complete.used c.in-Err-tell.fault spelled
    (c.places.ensures.spelled c.args.text.now (view c.in-Ok-Complete.value) c.in-Ok-Complete.at c.in-Ok-Complete.used spelled).1 telling.0 telling.1)

pub returns-in-Ok-Partial-clause-within : goal.returns-in-Ok-Partial-clause-within
returns-in-Ok-Partial-clause-within c =
    let says : IsUnfinished c.args.text.now c.in-Ok-Partial.at = rw c.in-Ok-Partial.field-0-is at c.in-Ok-Partial.ensures.says in
    rw c.ends-in-Ok-Partial.ensures (let inside = says.0 in omega arith)

pub returns-in-Ok-Partial-clause-front : goal.returns-in-Ok-Partial-clause-front
returns-in-Ok-Partial-clause-front c = λ m is.
    let says : IsUnfinished c.args.text.now c.in-Ok-Partial.at = rw c.in-Ok-Partial.field-0-is at c.in-Ok-Partial.ensures.says in
    let here = c.blanks_in_front.ensures.unfinished c.args.text.now c.in-Ok-Partial.at says in
    rw c.ends-in-Ok-Partial.ensures (ends_unfinished m c.args.text.now here.0 c.args.place (gathered c.args.ready.now) c.in-Ok-Partial.at
    says here.1)

pub returns-in-Ok-Blank-clause-within : goal.returns-in-Ok-Blank-clause-within
returns-in-Ok-Blank-clause-within c =
    let says : IsBlankText c.args.text.now c.in-Ok-Blank.used = rw c.in-Ok-Blank.field-0-is at c.in-Ok-Blank.ensures.says in
    let here = c.blanks_in_front.ensures.blank c.args.text.now c.in-Ok-Blank.used says in
    rw c.ends-in-Ok-Blank.ensures (c.places.ensures.passed c.args.text.now here.0 c.in-Ok-Blank.used here.1)

pub returns-in-Ok-Blank-clause-front : goal.returns-in-Ok-Blank-clause-front
returns-in-Ok-Blank-clause-front c = λ m is.
    let says : IsBlankText c.args.text.now c.in-Ok-Blank.used = rw c.in-Ok-Blank.field-0-is at c.in-Ok-Blank.ensures.says in
    let here = c.blanks_in_front.ensures.blank c.args.text.now c.in-Ok-Blank.used says in
    rw c.ends-in-Ok-Blank.ensures (ends_blank m c.args.text.now here.0 c.args.place (gathered c.args.ready.now) c.in-Ok-Blank.used
    (c.places.ensures.passed c.args.text.now here.0 c.in-Ok-Blank.used here.1) says here.1)

pub returns-clause-within : goal.returns-clause-within
returns-clause-within c = rw c.ends-in_default-cause.ensures (omega arith)

pub returns-clause-front : goal.returns-clause-front
returns-clause-front c = λ m is.
    let refused : Refuses c.args.text.now c.in-Err.fault.at c.in-Err.fault.cause = c.in-Err.ensures.says in
    rw c.ends-in_default-cause.ensures (ends_refused m c.args.text.now c.args.place (gathered c.args.ready.now) c.in-Err.fault.at c.in-Err.fault.cause refused
    c.in_default-cause.not-OutOfMemory)

pub returns-in-Ok-clause-front : goal.returns-in-Ok-clause-front
returns-in-Ok-clause-front c = λ m is.
    let v = view c.in-Ok-Complete.value in
    let spelled : Spells c.args.text.now v c.in-Ok-Complete.at c.in-Ok-Complete.used = rw c.in-Ok-Complete.field-0-is at c.in-Ok-Complete.ensures.says in
    let place = c.places.ensures.spelled c.args.text.now v c.in-Ok-Complete.at c.in-Ok-Complete.used spelled in
    let telling = c.in-Ok.ensures.told m is in
    record {
      events = (told m v).events;
      value = v;
      at = c.in-Ok-Complete.at;
      put = telling.1;
      over = c.pass_over.ensures;
      some = (let some = place.0 in omega arith);
      inside = place.1;
      spelled = spelled;
      told = ap (λ o. record { events = (told m v).events; ends = o }) telling.0;
    }
