use Rattle.std.proofs.Common.{slice_get, ap, sym, ◌∙◌, subst}
use Rattle.lin_wellformed.specs.Tables.{AreEachOnce}
use Rattle.lin_wellformed.proofs.NumberLemmas.{more_numbers, once_in, stays_at}
use Rattle.lin_wellformed.proofs.numbers.Numbers.number.Goals as goal

pub invariant_of-self-then-process-lt-SMALL : goal.invariant_of-self-then-process-lt-SMALL
invariant_of-self-then-process-lt-SMALL c = more_numbers _ _ _ c.args.process c.in_ok-number.ensures.keys c.in_ok-number.ensures.unique c.self.invariant

pub invariant_of-self-else-process-lt-SMALL : goal.invariant_of-self-else-process-lt-SMALL
invariant_of-self-else-process-lt-SMALL c = more_numbers _ _ _ c.args.process c.in_ok-number.ensures.keys c.in_ok-number.ensures.unique c.self.invariant

pub returns-then-process-lt-SMALL-clause-kept : goal.returns-then-process-lt-SMALL-clause-kept
returns-then-process-lt-SMALL-clause-kept c = λ number other at. ap (λ l. slice_get l number) c.keep.ensures
    ∙ stays_at c.self.inside.listed.keys c.insert_full.new.self.keys c.args.process c.in_ok-number.ensures.keys number other (ap (λ l. slice_get l number) c.self.view_is ∙ at)

pub returns-then-process-lt-SMALL-clause-once : goal.returns-then-process-lt-SMALL-clause-once
returns-then-process-lt-SMALL-clause-once c = subst AreEachOnce (sym c.keep.ensures) (once_in c.insert_full.new.self.keys c.in_ok-number.ensures.unique)

pub returns-else-process-lt-SMALL-clause-kept : goal.returns-else-process-lt-SMALL-clause-kept
returns-else-process-lt-SMALL-clause-kept c = λ number other at.
    stays_at c.self.inside.listed.keys c.insert_full.new.self.keys c.args.process c.in_ok-number.ensures.keys number other (ap (λ l. slice_get l number) c.self.view_is ∙ at)

pub returns-else-process-lt-SMALL-clause-once : goal.returns-else-process-lt-SMALL-clause-once
returns-else-process-lt-SMALL-clause-once c = once_in c.insert_full.new.self.keys c.in_ok-number.ensures.unique
