use Rattle.std.proofs.Common.{◌<◌, ◌≤◌, ◌++◌, List, length, refl, sym, ap, ◌∙◌, arith}
use Rattle.std.specs.Prelude.{◌||◌, nat_lt}
use Rattle.std.proofs.lemmas.List.{length-take}
use Rattle.lin_events.specs.declared.events.Event.{Event}
use Rattle.lin_formats.specs.Inputs.{limit}
use Rattle.lin_embedded.specs.Recorders.{held}
use Rattle.lin_embedded.proofs.Reading.{counted, over_too, saying}
use Rattle.lin_embedded.proofs.recorder.Recorder.intake.Goals as goal

pub returns-then-is_faulty : goal.returns-then-is_faulty
returns-then-is_faulty c = λ settings bytes read.
    let r = c.args.self.now in
    let all : List Event = (r.session.present.history ++ held r.in_hand) ++ r.follow.ready in
    let size = counted r.session.present.history (held r.in_hand) r.follow.ready in
    let first = length-take limit all in (
      saying settings r bytes read,
      omega (arith, c.min.ensures, c.saturating_add-events.ensures, c.saturating_add.ensures, c.len-taken.ensures, c.held_count-in_hand.ensures, c.ready.ensures, size, first),
      c.if-is_faulty.true ∙ sym (ap (λ b. b || nat_lt limit (length all)) (sym c.is_faulty.ensures ∙ c.if-is_faulty.true)),
    )

pub returns-else-is_faulty : goal.returns-else-is_faulty
returns-else-is_faulty c = λ settings bytes read.
    let r = c.args.self.now in
    let all : List Event = (r.session.present.history ++ held r.in_hand) ++ r.follow.ready in
    let size = counted r.session.present.history (held r.in_hand) r.follow.ready in
    let first = length-take limit all in
    let up : limit < length all → limit < c.saturating_add-events.result
    = λ (more : limit < length all). omega (arith, more, c.saturating_add-events.ensures, c.saturating_add.ensures, c.len-taken.ensures, c.held_count-in_hand.ensures, c.ready.ensures, size) in
    let down : length all ≤ limit → c.saturating_add-events.result ≤ limit
    = λ (within : length all ≤ limit). omega (arith, within, c.saturating_add-events.ensures, c.saturating_add.ensures, c.len-taken.ensures, c.held_count-in_hand.ensures, c.ready.ensures, size) in (
      saying settings r bytes read,
      omega (arith, c.min.ensures, c.saturating_add-events.ensures, c.saturating_add.ensures, c.len-taken.ensures, c.held_count-in_hand.ensures, c.ready.ensures, size, first),
      over_too c.saturating_add-events.result (length all) (nat_lt limit (length all)) refl up down
          ∙ sym (ap (λ b. b || nat_lt limit (length all)) (sym c.is_faulty.ensures ∙ c.if-is_faulty.false)),
    )
