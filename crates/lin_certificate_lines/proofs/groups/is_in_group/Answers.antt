use Rattle.std.proofs.Common.{◌↔◌, IsTrue, subst, sym}
use Rattle.lin_certificate_lines.specs.Groups.{IsInGroup}
use Rattle.lin_certificate_lines.proofs.groups.is_in_group.Goals as goal

pub returns-in-Between : goal.returns-in-Between
returns-in-Between c = subst (λ group. IsTrue c.is_between.result ↔ IsInGroup c.args.events.now group c.args.at) (sym c.in-Between.is) c.is_between.ensures

pub returns-in-FailsWithin : goal.returns-in-FailsWithin
returns-in-FailsWithin c = subst (λ group. IsTrue c.fails_within.result ↔ IsInGroup c.args.events.now group c.args.at) (sym c.in-FailsWithin.is) c.fails_within.ensures
