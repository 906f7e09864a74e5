use Rattle.std.proofs.Common.{subst, sym, ◌∙◌}
use Rattle.lin_queues.specs.Chains.{AreChained}
use Rattle.lin_queues.proofs.Chaining.{chained_more}
use Rattle.lin_queues.proofs.elements.Elements.push.Goals as goal

pub returns-clause-chained : goal.returns-clause-chained
returns-clause-chained c = λ chained.
    subst (λ l. AreChained l c.insert.new.self.entries) (sym c.in_ok-push.ensures.items)
    (chained_more c.args.self.now.all.items c.args.self.now.latest.entries c.insert.new.self.entries (record { place = c.args.place; returned = c.args.returned; item = c.args.item; earlier = c.end_of-earlier.result })
    c.len.result (c.len.ensures ∙ c.args.self.now.all.ok.0) chained (λ q. c.in_ok-insert.ensures.updates.0 q) (c.end_of-earlier.ensures chained))
