use Rattle.std.proofs.Common.{◌≡◌, ◌++◌, ◌∷◌, [], List, Option, IfNone, IfSome, arith, refl, ap, subst, ◌∙◌}
use Rattle.lin_events.specs.declared.items.Item.{Item}
use Rattle.lin_sets.specs.declared.changes.Change.{Change}
use Rattle.lin_sets.specs.declared.levels.Rank.TheVariants.{Apart}
use Rattle.lin_sets.specs.Endings.{AreLearned}
use Rattle.lin_sets.specs.Levels.{IsRank, IsRanked}
use Rattle.lin_sets.proofs.Beyond.{learned_whole}
use Rattle.lin_sets.proofs.Forgetting.{on_err}
use Rattle.lin_sets.proofs.Same.{learning_refused, level_refused}
use Rattle.lin_sets.proofs.Whole.{returned_read}
use Rattle.lin_sets.proofs.Refusing.{no_invocation, apart}
use Rattle.lin_sets.proofs.intervals.Intervals.keep_read.Goals as goal

pub returns-in_default-clause-conflict : goal.returns-in_default-clause-conflict
returns-in_default-clause-conflict c = λ _ h event returns all.
    let out = subst (λ (o : Option Change). IfNone o (IsRank c.args.self.now.levels.items c.args.set.now Apart)) c.in_default.is c.in_ok-change.ensures.apart in
    apart c.args.self.now h event all (no_invocation returns.1.1) c.args.at c.args.set.now returns out.0 out.1 out.2 out.3

pub returns-in_default-clause-stays : goal.returns-in_default-clause-stays
returns-in_default-clause-stays c = λ _.
    let old = c.args.self.now in
    let same = subst (λ (o : Option Change). IfNone o (c.put_level.new.levels ≡ old.levels)) c.in_default.is c.in_ok-change.ensures.stays in
    level_refused old old.adds old.changes refl refl c.put_level.new.levels old.reads (ap (λ l. l.items) same) refl

pub returns-in_err-change-clause-refused : goal.returns-in_err-change-clause-refused
returns-in_err-change-clause-refused c =
    let old = c.args.self.now in
    on_err c.from_residual-in_err-change.result _ (level_refused old old.adds old.changes refl refl c.put_level.new.levels old.reads c.in_err-change.ensures.refused refl)

pub returns-in-Err-clause-refused : goal.returns-in-Err-clause-refused
returns-in-Err-clause-refused c =
    let old = c.args.self.now in
    let ranked = subst (λ (o : Option Change). IfSome o (IsRanked old.levels.items c.put_level.new.levels.items c.args.set.now)) c.in-Some.is c.in_ok-change.ensures.ranked in
    learning_refused old old.adds old.changes refl refl c.len.result (omega (arith, c.len.ensures, old.adds.ok.0))
    c.learn_all-learned.new.self c.take_level_back.new.levels old.reads c.learn_all-learned.ensures.listed c.in-Err.ensures.same
    (λ rising. c.take_level_back.ensures old.levels.items c.args.set.now rising ranked) refl

pub returns-clause-goes_on : goal.returns-clause-goes_on
returns-clause-goes_on c = λ _ h event may returns rising news fitting all.
    let old = c.args.self.now in
    returned_read old h event may all c.args.at c.args.set.now returns rising fitting _ _ _ _ c.in-Some.change c.len.result
    c.push_reserved-2.ensures.items (omega (arith, c.len.ensures, old.adds.ok.0)) c.push_reserved.ensures.items
    (learned_whole old h all c.args.set.now c.args.news.now news c.learn_all-learned.new.self c.len.result
    (subst (λ (l : List Item). AreLearned old.endings c.learn_all-learned.new.self l c.len.result) c.as_slice.ensures.value c.in_default-learned.ensures.learned)) c.learn_all-learned.ensures.listed
    (subst (λ (o : Option Change). IfSome o (IsRanked old.levels.items c.put_level.new.levels.items c.args.set.now)) c.in-Some.is c.in_ok-change.ensures.ranked)
    _ (c.push_reserved-3.ensures.items ∙ ap (λ (s : List Item). old.reads.items ++ (c.args.at, s) ∷ []) c.in_ok-found.ensures)
