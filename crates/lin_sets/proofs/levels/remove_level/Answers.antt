use Rattle.std.proofs.Common.{List, Some, None, sym, subst}
use Rattle.lin_events.specs.declared.items.Item.{Item}
use Rattle.lin_sets.specs.Levels.{AreWithout, IsPlace}
use Rattle.lin_sets.proofs.Removing.{removed, none_removed}
use Rattle.lin_sets.proofs.levels.remove_level.Goals as goal

pub returns-in-Some : goal.returns-in-Some
returns-in-Some c = λ rising.
    let at = subst (λ (l : List (List Item)). IsPlace l c.args.set.now (Some c.in-Some.place)) c.as_slice.ensures.value c.in-Some.ensures in
    subst (λ (l : List (List Item)). AreWithout c.args.levels.now.items l c.args.set.now) (sym c.remove.ensures.items)
    (removed c.args.levels.now.items c.in-Some.place c.args.set.now at.0 at.1 rising)

pub returns-in_default : goal.returns-in_default
returns-in_default c = λ rising.
    let none = subst (λ (l : List (List Item)). IsPlace l c.args.set.now None) c.as_slice.ensures.value c.in_default.ensures in
    none_removed c.args.levels.now.items c.args.set.now none rising
