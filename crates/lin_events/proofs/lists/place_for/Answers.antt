use Rattle.std.proofs.Common.{◌∙◌, sym, rules}
use Rattle.std.proofs.lemmas.List.Edits.{insert_end}
use Rattle.lin_events.specs.lemmas.Rising.{put_last, with_at, compares_rising, found}
use Rattle.lin_events.proofs.lists.place_for.Goals as goal

pub returns-then-is_above-clause-some : goal.returns-then-is_above-clause-some
returns-then-is_above-clause-some c =
    (search rules, put_last c.args.member c.args.items.now c.requires (c.is_above.ensures c.if-is_above.true) ∙ sym (insert_end c.args.items.now c.args.member))

pub returns-in-Ok-clause-none : goal.returns-in-Ok-clause-none
returns-in-Ok-clause-none c = found c.args.member c.args.items.now c.in-Ok.field-0 c.requires c.in-Ok.ensures.bound c.in-Ok.ensures.ok

pub returns-in-Err-clause-some : goal.returns-in-Err-clause-some
returns-in-Err-clause-some c =
    let parts = c.in-Err.ensures.position (compares_rising c.args.member c.args.items.now c.requires) in
    (c.in-Err.ensures.bound, with_at c.args.member c.args.items.now c.in-Err.at c.in-Err.ensures.bound parts.0 parts.1)
