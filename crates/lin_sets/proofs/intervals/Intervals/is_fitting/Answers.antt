use Rattle.std.proofs.Common.{List, Contains, subst}
use Rattle.lin_events.specs.declared.items.Item.{Item}
use Rattle.lin_sets.specs.Steps.{IsFittingSince}
use Rattle.lin_sets.proofs.Fitting.{fits_from, unfit_from}
use Rattle.lin_sets.proofs.intervals.Intervals.is_fitting.Goals as goal

pub returns-in-Some-clause-fitting : goal.returns-in-Some-clause-fitting
returns-in-Some-clause-fitting c = λ fits listed.
    let s = c.args.self.now in
    subst (IsFittingSince s.first s.endings c.args.at c.args.set.now c.args.news.now.since) c.as_slice.ensures.value
    (fits_from s.first c.args.at s.endings c.args.set.now c.as_slice.result.now c.args.news.now.since c.in-Some.latest c.in-Some.ensures (c.are_in.ensures.all fits listed))

pub returns-in-Some-clause-unfit : goal.returns-in-Some-clause-unfit
returns-in-Some-clause-unfit c = λ unfit listed each.
    let s = c.args.self.now in
    unfit_from s.first c.args.at s.endings c.args.set.now c.as_slice.result.now c.in-Some.latest c.in-Some.ensures
    (λ item there. each item (subst (λ (l : List Item). Contains l item) c.as_slice.ensures.value there)) (c.are_in.ensures.missing unfit listed)
