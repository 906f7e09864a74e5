use Rattle.std.proofs.Common.{Contains, subst}
use Rattle.lin_engines.proofs.witness.Witness.provide.Goals as goal

pub returns-then-is_placed-clause-placed : goal.returns-then-is_placed-clause-placed
returns-then-is_placed-clause-placed c = λ _. subst (λ l. Contains l (c.args.process, c.args.reply.now)) c.placed.ensures (c.is_placed.ensures.0 c.if-is_placed.true)
