use Rattle.std.proofs.Common.{subst, sym, ap, length}
use Rattle.lin_queues.specs.Members.{AreOwed, Told, View}
use Rattle.lin_queues.proofs.Lists.{on_ok}
use Rattle.lin_queues.specs.Gains.{Gains}
use Rattle.lin_queues.specs.Reaching.{Sinks}
use Rattle.lin_queues.proofs.gathered.Gathered.push_emptied.Goals as goal

pub returns-clause-told : goal.returns-clause-told
returns-clause-told c =
    let same = sym (ap (λ (v : View). record v { emptied = c.args.time }) c.in_ok-next.ensures) in
    on_ok c.push_sunk.result (λ told' h whole order is_whole paying enqueues told owed.
    told' h whole order is_whole paying enqueues (subst (Told whole order (length h) c.args.elements.now) same told) (subst (λ v. AreOwed whole order (length h) c.args.elements.now v c.args.time c.args.time) same owed)) c.push_sunk.ensures.told

pub returns-clause-gains : goal.returns-clause-gains
returns-clause-gains c =
    let same = sym (ap (λ (v : View). record v { emptied = c.args.time }) c.in_ok-next.ensures) in
    on_ok c.push_sunk.result (λ gains. subst (λ (v : View). Gains c.args.self.now c.push_sunk.new.self (Sinks c.args.elements.now c.args.time c.args.time v)) (sym same) gains) c.push_sunk.ensures.gains
