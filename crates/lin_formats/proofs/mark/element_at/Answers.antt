use Rattle.std.proofs.Common.{drop}
use Rattle.lin_edn.specs.Grammar.{Spells, IsUnfinished, IsBlankText}
use Rattle.lin_edn.specs.Reading.{an_element, unfinished, blanks, refused, Refuses}
use Rattle.lin_edn.specs.View.{view}
use Rattle.lin_formats.proofs.Found.{rest_is, found, places_of, no_unfinished, no_blanks, no_refusal, no_want}
use Rattle.lin_formats.proofs.mark.element_at.Goals as goal
use Rattle.lin_formats.proofs.mark.element_at.Goals.{in-Ok-Complete, in-Err+in-OutOfMemory}

pub unreachable-requires : goal.unreachable-requires
unreachable-requires c =
    let (v, at, used, stands) = c.requires.stands in
    let says : IsUnfinished (drop c.args.from c.args.text.now) c.in-Ok-Partial.field-0-0 = rw (rest_is c.args.text.now c.args.from) at (rw c.in-Ok-Partial.field-0-is at c.in-Ok-Partial.ensures.says) in
    no_unfinished c.args.from c.in-Ok-Partial.field-0-0 at used v
    (found c.readings_are_unique.ensures.readings c.blanks_are_skipped.ensures c.args.text.now c.args.from at used v stands (unfinished c.in-Ok-Partial.field-0-0) says (λ z. z))

pub unreachable-requires-in-Ok-Blank : goal.unreachable-requires-in-Ok-Blank
unreachable-requires-in-Ok-Blank c =
    let (v, at, used, stands) = c.requires.stands in
    let says : IsBlankText (drop c.args.from c.args.text.now) c.in-Ok-Blank.field-0-0 = rw (rest_is c.args.text.now c.args.from) at (rw c.in-Ok-Blank.field-0-is at c.in-Ok-Blank.ensures.says) in
    no_blanks c.args.from c.in-Ok-Blank.field-0-0 at used v
    (found c.readings_are_unique.ensures.readings c.blanks_are_skipped.ensures c.args.text.now c.args.from at used v stands (blanks c.in-Ok-Blank.field-0-0) says (λ z. z))

pub unreachable-requires-in_default : goal.unreachable-requires-in_default
unreachable-requires-in_default c =
    let (v, at, used, stands) = c.requires.stands in
    let says : Refuses (drop c.args.from c.args.text.now) c.in-Err.fault.at c.in-Err.fault.cause = rw (rest_is c.args.text.now c.args.from) at c.in-Err.ensures.says in
    no_refusal c.args.from c.in-Err.fault.at at used c.in-Err.fault.cause v
    (found c.readings_are_unique.ensures.readings c.blanks_are_skipped.ensures c.args.text.now c.args.from at used v stands (refused c.in-Err.fault.at c.in-Err.fault.cause) says
    (no_want c.in-Err.fault.at c.in-Err.fault.cause c.in_default.not-OutOfMemory))

pub returns : goal.returns
returns c = elim c.match-next_element.branch [
  | in-Ok-Complete w ↦ rw w.result-is (λ v at used stands. (
      let says : Spells (drop c.args.from c.args.text.now) (view w.in-Ok-Complete.field-0-0) w.in-Ok-Complete.at w.in-Ok-Complete.used = rw (rest_is c.args.text.now c.args.from) at (rw w.in-Ok-Complete.field-0-is at w.in-Ok-Complete.ensures.says) in
      places_of c.args.from w.in-Ok-Complete.at w.in-Ok-Complete.used at used (view w.in-Ok-Complete.field-0-0) v
      (found c.readings_are_unique.ensures.readings c.blanks_are_skipped.ensures c.args.text.now c.args.from at used v stands
      (an_element (view w.in-Ok-Complete.field-0-0) w.in-Ok-Complete.at w.in-Ok-Complete.used) says (λ z. z))))
  | in-Err+in-OutOfMemory w ↦ rw w.result-is tt
]
