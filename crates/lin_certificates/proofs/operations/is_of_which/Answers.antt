use Rattle.std.proofs.Common.{◌↔◌, IsTrue, subst, sym}
use Rattle.lin_certificates.specs.Words.{IsOfWhich}
use Rattle.lin_certificates.proofs.operations.is_of_which.Goals as goal

pub returns-then-is_answered_so : goal.returns-then-is_answered_so
returns-then-is_answered_so c = subst (λ which. IsTrue c.is_before.result ↔ IsOfWhich c.args.events.now which c.args.at) (sym c.in-ReturnedBefore.is)
    ((λ yes'. (c.is_answered_so-in-ReturnedBefore.ensures.0 c.if-is_answered_so.true, c.is_before.ensures.0 yes')), λ is. c.is_before.ensures.1 is.1)

pub returns-in-ReturnedWithin : goal.returns-in-ReturnedWithin
returns-in-ReturnedWithin c = subst (λ which. IsTrue c.returned_within.result ↔ IsOfWhich c.args.events.now which c.args.at) (sym c.in-ReturnedWithin.is) c.returned_within.ensures
