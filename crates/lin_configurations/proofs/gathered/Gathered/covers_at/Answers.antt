use Rattle.std.proofs.Common.{sym, ◌∙◌}
use Rattle.lin_configurations.proofs.Expanding.{held_by}
use Rattle.lin_configurations.proofs.gathered.Gathered.covers_at.Goals as goal

pub returns-in-Some : goal.returns-in-Some
returns-in-Some g c t observes =
    let h = rw (c.deref.ensures.value ∙ c.self.view_is) at c.in-Some.ensures.lookup in
    held_by observes c.args.pending.now c.args.self.now c.args.config.now c.in-Some.member.now (c.args.at, h.3.0, sym h.1) ((rw c.config.ensures at c.covers.ensures).0 t)
