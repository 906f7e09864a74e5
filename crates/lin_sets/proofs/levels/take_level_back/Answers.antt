use Rattle.std.proofs.Common.{◌≡◌, List, refl, sym, subst, ◌∙◌}
use Rattle.lin_events.specs.declared.items.Item.{Item}
use Rattle.lin_sets.specs.declared.changes.Change.TheVariants.{Found}
use Rattle.lin_sets.specs.Levels.{AreWithout}
use Rattle.lin_sets.proofs.Returning.{taken_back}
use Rattle.lin_sets.proofs.levels.take_level_back.Goals as goal

one_found : {a b : List Item} → Found a ≡ Found b → a ≡ b
one_found e = cc

pub returns-in-Found : goal.returns-in-Found
returns-in-Found c = λ before s rising ranked.
    taken_back before c.args.levels.now.items c.remove_level.new.levels.items s c.args.change.now rising ranked
    (λ set e up. subst (AreWithout c.args.levels.now.items c.remove_level.new.levels.items) (one_found (sym c.in-Found.is ∙ e)) (c.remove_level.ensures up))
    (λ none. absurd (none _ c.in-Found.is))

pub returns-in_default : goal.returns-in_default
returns-in_default c = λ before s rising ranked.
    taken_back before c.args.levels.now.items c.args.levels.now.items s c.args.change.now rising ranked
    (λ set e. absurd (c.in_default.not-Found set e)) (λ none. refl)
