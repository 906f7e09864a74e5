use Rattle.std.proofs.Common.{◌≡◌, ◌∙◌, List, take, sym, ap, subst, arith}
use Rattle.std.proofs.lemmas.List.{take-take}
use Rattle.lin_events.specs.WellFormed.{IsWellFormed}
use Rattle.lin_order.specs.Parts.{events_at}
use Rattle.lin_engines.specs.lemmas.Picks.{events_take}
use Rattle.lin_engines.proofs.witnesses.reach.Goals as goal

pub mend-mended-requires-clause-right : goal.mend-mended-requires-clause-right
mend-mended-requires-clause-right c =
    let events = c.args.events.now in
    let picks = c.args.picks.now in
    let place = c.args.place in
    let h = events_at events picks in
    let first = events_take events picks place c.requires.inside in
    c.cut.ensures.right h (events_at events (take place picks)) c.requires.right (sym (ap (take place) first ∙ take-take place place h (omega arith)))

pub mend-mended-requires-clause-well_formed : goal.mend-mended-requires-clause-well_formed
mend-mended-requires-clause-well_formed c =
    let h = events_at c.args.events.now c.args.picks.now in
    let functions = c.requires.well_formed.0 in
    (functions, subst (IsWellFormed functions) (sym (events_take c.args.events.now c.args.picks.now c.args.place c.requires.inside)) (c.beginnings_are_well_formed.ensures functions h c.args.place c.requires.well_formed.1))

pub returns-clause-right : goal.returns-clause-right
returns-clause-right c =
    let events = c.args.events.now in
    let picks = c.args.picks.now in
    let place = c.args.place in
    let h = events_at events picks in
    let first = events_take events picks place c.requires.inside in
    c.cut-2.ensures.right (events_at events (take place picks)) h c.mend-mended.ensures.right (ap (take place) first ∙ take-take place place h (omega arith))
