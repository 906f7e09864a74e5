use Rattle.lin_events.specs.lemmas.Rising.{compares_rising}
use Rattle.lin_possibilities.proofs.Finding.{is_found, is_lacking}
use Rattle.lin_possibilities.proofs.differences.has.Goals as goal

pub returns-in-Ok : goal.returns-in-Ok
returns-in-Ok c = is_found c.args.item c.args.items.now c.in-Ok.field-0 c.in-Ok.ensures.bound c.in-Ok.ensures.ok

pub returns-in-Err : goal.returns-in-Err
returns-in-Err c =
    let parts = c.in-Err.ensures.position (compares_rising c.args.item c.args.items.now c.requires) in
    is_lacking c.args.item c.args.items.now c.in-Err.field-0 parts.0 parts.1
