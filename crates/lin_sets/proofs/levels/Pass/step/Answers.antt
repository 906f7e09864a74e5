use Rattle.std.proofs.Common.{get_or, pos, sym, ◌∙◌}
use Rattle.lin_events.specs.declared.items.Item.{Item}
use Rattle.lin_events.specs.declared.items.Item.TheVariants.{Int}
use Rattle.lin_events.specs.Sameness.{items_tell}
use Rattle.lin_sets.proofs.Merging.{is_less, lacked, matched, passed_by}
use Rattle.lin_sets.proofs.levels.Pass.step.Goals as goal

pub returns-in-Less-clause-passed : goal.returns-in-Less-clause-passed
returns-in-Less-clause-passed c = λ up over passed.
    let s = c.args.self.now in (
      lacked c.args.items.now c.args.other.now s.at s.to s.more passed.0 up _ _ over c.requires.here c.requires.there (sym c.cmp.ensures ∙ c.in-Less.is),
      passed_by c.args.other.now c.args.items.now s.to s.at s.lacks passed.1 _ _ c.requires.there c.requires.here (sym c.cmp.ensures ∙ c.in-Less.is),
    )

pub returns-in-Equal-clause-passed : goal.returns-in-Equal-clause-passed
returns-in-Equal-clause-passed c = λ up over passed.
    let s = c.args.self.now in (
      matched c.args.items.now c.args.other.now s.at s.to s.more passed.0 up _ _ c.requires.here c.requires.there (items_tell _ _ (sym c.cmp.ensures ∙ c.in-Equal.is)),
      matched c.args.other.now c.args.items.now s.to s.at s.lacks passed.1 over _ _ c.requires.there c.requires.here (sym (items_tell _ _ (sym c.cmp.ensures ∙ c.in-Equal.is))),
    )

pub returns-in-Greater-clause-passed : goal.returns-in-Greater-clause-passed
returns-in-Greater-clause-passed c = λ up over passed.
    let s = c.args.self.now in
    let d : Item = Int (pos 0) in
    let less = is_less (get_or c.args.items.now s.at d) (get_or c.args.other.now s.to d) (sym c.cmp.ensures ∙ c.in-Greater.is) in (
      passed_by c.args.items.now c.args.other.now s.at s.to s.more passed.0 d d c.requires.here c.requires.there less,
      lacked c.args.other.now c.args.items.now s.to s.at s.lacks passed.1 over d d up c.requires.there c.requires.here less,
    )
