use Rattle.lin_members.specs.Batches.{all_of}
use Rattle.lin_members.proofs.Batching.{no_round, round_behind}
use Rattle.lin_members.proofs.offers.Offers.round_of.Goals as goal

pub returns-in-None-clause-some : goal.returns-in-None-clause-some
returns-in-None-clause-some c = round_behind (all_of c.parts.result.0.now) c.parts.result.1.now c.args.self.now c.parts.ensures (c.args.process, c.args.reply.now) c.round_in.result c.round_in.ensures.some

pub returns-in-None-clause-none : goal.returns-in-None-clause-none
returns-in-None-clause-none c =
    no_round (all_of c.parts.result.0.now) c.parts.result.1.now c.args.self.now c.parts.ensures (c.args.process, c.args.reply.now) c.round_in.result c.in-None.ensures.none c.round_in.ensures.none
