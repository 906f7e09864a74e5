use Rattle.std.proofs.Common.{[], ◌++◌, ap, sym, ◌∙◌, append-nil}
use Rattle.std.specs.List.{cons_option}
use Rattle.std.proofs.lemmas.Option.{slice_get_past}
use Rattle.lin_search.proofs.witness.append_at.Goals as goal

pub returns-in_default : goal.returns-in_default
returns-in_default c =
    let own = c.args.own.now.items in
    sym (ap (λ o. own ++ cons_option o []) (slice_get_past c.args.events.now c.args.at c.in_default.ensures.lookup.3) ∙ append-nil own)
