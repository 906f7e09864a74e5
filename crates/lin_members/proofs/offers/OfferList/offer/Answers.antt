use Rattle.std.proofs.Common.{Some, refl}
use Rattle.lin_members.specs.lemmas.Offering.{offering_put, offering_there}
use Rattle.lin_members.proofs.offers.OfferList.offer.Goals as goal

pub returns-then-was_offered : goal.returns-then-was_offered
returns-then-was_offered c = let there = c.was_offered.ensures c.if-was_offered.true in offering_there (c.args.process, c.args.reply) c.args.round c.args.self.now (Some there.0) refl there.1

pub returns : goal.returns
returns c = offering_put c.push.result (c.args.process, c.args.reply) c.args.round c.args.self.now c.push.new.self c.push.ensures
