use Rattle.std.proofs.Common.{◌≡◌, ◌<◌, ◌++◌, ◌∷◌, [], None, arith, subst}
use Rattle.lin_sets.specs.Endings.{AreListed}
use Rattle.lin_sets.specs.Places.{IsPut}
use Rattle.lin_sets.specs.declared.endings.Ending.{Ending}
use Rattle.lin_sets.proofs.Forgetting.{all_before, fewer_listed, fewer_kept, last_known, last_split}
use Rattle.lin_sets.proofs.Putting.{listed_where}
use Rattle.lin_sets.proofs.endings.Endings.forget_last.Goals as goal
use Rattle.lin_sets.proofs.endings.Endings.forget_last.Goals.{After-reset}

split : (c : After-reset) → c.args.self.now.listed.items ≡ c.truncate.new.self.items ++ c.index-last.result.now ∷ []
split c = last_split c.args.self.now.listed.items c.truncate.new.self.items c.len-count.result c.index-last.result.now
    (omega (arith, c.len-count.ensures, c.args.self.now.listed.ok.0)) c.if-count-eq0.false c.index-last.ensures c.truncate.ensures.items

put : (c : After-reset) → AreListed c.args.self.now → IsPut c.args.self.now.known c.reset.new.self c.index-last.result.now.item None
put c listed = c.reset.ensures (listed_where c.args.self.now.known c.index-last.result.now.item c.index-last.result.now.end
    (last_known c.args.self.now (record { known = c.reset.new.self; listed = c.truncate.new.self }) c.index-last.result.now (split c) listed))

pub returns-then-last-place-clause-before : goal.returns-then-last-place-clause-before
returns-then-last-place-clause-before c = λ _ listed.
    let last = c.index-last.result.now in
    all_before c.args.self.now c.args.place c.len-count.result last listed (omega (arith, c.len-count.ensures, c.args.self.now.listed.ok.0)) c.if-count-eq0.false
    (subst (λ (x : Ending). x.end < c.args.place) c.index-last.ensures c.if-last-place.true)

pub returns-clause-listed : goal.returns-clause-listed
returns-clause-listed c = λ _ listed. fewer_listed c.args.self.now _ c.index-last.result.now (split c) listed (put c listed)

pub returns-clause-kept : goal.returns-clause-kept
returns-clause-kept c = λ _ listed. fewer_kept c.args.self.now _ c.index-last.result.now (split c) listed (put c listed) c.args.place c.if-last-place.false
