use Rattle.std.proofs.Common.{List, inr, subst, ap, ◌∙◌}
use Rattle.std.specs.List.{insert}
use Rattle.lin_events.specs.declared.items.Item.{Item}
use Rattle.lin_sets.specs.Levels.{IsRank}
use Rattle.lin_sets.specs.declared.changes.Change.TheVariants.{Found}
use Rattle.lin_sets.specs.declared.levels.Rank.TheVariants.{At}
use Rattle.lin_sets.proofs.levels.put_level.Goals as goal

pub returns-in_ok-insert-in-At-clause-ranked : goal.returns-in_ok-insert-in-At-clause-ranked
returns-in_ok-insert-in-At-clause-ranked c =
    let levels = c.args.levels.now.items in
    inr (
      c.in-At.place,
      subst (λ (l : List (List Item)). IsRank l c.args.set.now (At c.in-At.place)) c.as_slice.ensures.value c.in-At.ensures,
      ◌∙◌ {A = List (List Item)} c.in_ok-insert-in-At.ensures.items (ap (λ (s : List Item). insert levels c.in-At.place s) c.in_ok-copy-in-At-2.ensures),
      ap (λ (s : List Item). Found s) c.in_ok-copy-in-At.ensures,
    )
