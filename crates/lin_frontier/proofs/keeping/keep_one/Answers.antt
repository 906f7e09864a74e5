use Rattle.lin_frontier.specs.Sameness.{config_same}
use Rattle.lin_frontier.proofs.Entries.{keeping_in, keeping_out, left_some, left_none}
use Rattle.lin_frontier.proofs.keeping.keep_one.Goals as goal

pub returns-in_default : goal.returns-in_default
returns-in_default g c es i is before =
    keeping_out _ _ es i c.args.config.now c.args.node is c.args.kept.now.entries (left_none _ _ c.in_ok-next.field-0 c.args.config.now c.in_default.is c.in_ok-next.ensures) before

pub returns : goal.returns
returns g c es i is before =
    keeping_in _ _ es i c.args.config.now c.args.node is _ (config_same g.met.O.SeqObject.same) c.in-Some.next c.args.kept.now.entries c.insert.new.self.entries c.in-Ok.ensures.entries
    (left_some _ _ c.in_ok-next.field-0 c.args.config.now c.in-Some.next c.in-Some.is c.in_ok-next.ensures) before
