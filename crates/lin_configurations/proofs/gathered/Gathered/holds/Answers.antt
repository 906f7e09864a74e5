use Rattle.lin_members.specs.Listed.{config_of}
use Rattle.lin_configurations.proofs.Expanding.{holds_own}
use Rattle.lin_lists.specs.lemmas.Filters.{from_map}
use Rattle.lin_configurations.proofs.gathered.Gathered.holds.Goals as goal

pub returns-then-is_known-clause-held : goal.returns-then-is_known-clause-held
returns-then-is_known-clause-held g c t observes =
    let m = from_map config_of c.args.self.now c.args.config.now (c.is_known.ensures.known c.if-is_known.true) in
    (m.0, m.1, holds_own observes c.args.pending.now m.0 c.args.config.now m.2)
