use Rattle.std.proofs.Common.{arith, rules, sym}
use Rattle.std.proofs.lemmas.Option.{none-some}
use Rattle.lin_session.proofs.session.Session.begin.Goals as goal

pub invariant_of-result : goal.invariant_of-result
invariant_of-result c = record {
  few = omega (arith, c.if-len-gt-EVENTS.false, c.len.ensures, c.args.events.ok.0);
  budgeted = search rules;
  scanned = c.new-2.ensures.right _ _;
  kept = c.new-3.ensures.right _ _ _;
  taken_in = omega arith;
  apart = λ none. absurd (none-some 0 (sym none));
}
