use Rattle.std.proofs.Common.{Contains, subst, sym}
use Rattle.lin_members.proofs.offers.is_at.Goals as goal

pub returns-in-Some : goal.returns-in-Some
returns-in-Some c is =
    let there = c.in-Some.ensures.lookup in
    let round = c.in-Some.offer.now.0 in
    (round, subst (λ p. Contains c.args.offers.now (round, p)) (c.is_pair.ensures.0 is) (c.args.at, there.3.0, sym there.1))
