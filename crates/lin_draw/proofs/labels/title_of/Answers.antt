use Rattle.std.proofs.Common.{◌++◌, ◌∙◌, ap}
use Rattle.std.specs.Prelude.{option_map}
use Rattle.lin_draw.specs.Labels.{whole_text}
use Rattle.lin_draw.proofs.labels.title_of.Goals as goal

pub returns : goal.returns
returns c =
    let operation = c.args.operation.now in
    let words = whole_text c.args.names.now operation.process operation.call (option_map (λ r. r.now) operation.reply) in
    let more = c.in_ok-put_standing.ensures in
    (more.0, more.1 ∙ ap (λ l. l ++ more.0) (c.in_ok-put_whole.ensures ∙ ap (λ l. l ++ words) c.new-title.ensures.items))
