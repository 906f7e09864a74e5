use Rattle.std.proofs.Common.{subst, sym, length, ◌≡◌}
use Rattle.lin_queues.specs.Members.{Told}
use Rattle.lin_queues.proofs.Lists.{on_ok}
use Rattle.lin_queues.specs.Gains.{Gains}
use Rattle.lin_queues.specs.Members.{View}
use Rattle.lin_queues.proofs.gathered.Gathered.push_same.Goals as goal

pub returns-clause-told : goal.returns-clause-told
returns-clause-told c = on_ok c.push.result (λ told' h whole order all is_whole paying told. told' h whole order all is_whole paying (subst (Told whole order (length h) all) (sym c.in_ok-next.ensures) told)) c.push.ensures.told

pub returns-clause-gains : goal.returns-clause-gains
returns-clause-gains c = on_ok c.push.result (λ gains. subst (λ (v : View). Gains c.args.self.now c.push.new.self (λ w. w ≡ v)) c.in_ok-next.ensures gains) c.push.ensures.gains
