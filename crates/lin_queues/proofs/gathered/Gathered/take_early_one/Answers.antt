use Rattle.std.proofs.Common.{subst, sym, ap, ◌∙◌, ◌++◌, ◌∷◌, [], length}
use Rattle.lin_queues.specs.Members.{AreOwed, Told, View, view_of}
use Rattle.lin_queues.proofs.Lists.{on_ok}
use Rattle.lin_queues.specs.Gains.{Gains}
use Rattle.lin_queues.specs.Reaching.{Sinks}
use Rattle.lin_queues.proofs.gathered.Gathered.take_early_one.Goals as goal

pub returns-clause-told : goal.returns-clause-told
returns-clause-told c =
    let same = sym (ap (λ l. record (view_of c.in_ok-next.next) { early = l }) c.in_ok-push.ensures.items ∙ ap (λ (v : View). record v { early = v.early ++ c.args.place ∷ [] }) c.in_ok-next.ensures) in
    on_ok c.push_sunk.result (λ told' h whole order is_whole paying enqueues may.
    told' h whole order is_whole paying enqueues (subst (Told whole order (length h) c.args.elements.now) same may.told)
    (subst (λ v. AreOwed whole order (length h) c.args.elements.now v c.args.place c.args.time) same may.ahead)) c.push_sunk.ensures.told

pub returns-clause-gains : goal.returns-clause-gains
returns-clause-gains c =
    let same = sym (ap (λ l. record (view_of c.in_ok-next.next) { early = l }) c.in_ok-push.ensures.items ∙ ap (λ (v : View). record v { early = v.early ++ c.args.place ∷ [] }) c.in_ok-next.ensures) in
    on_ok c.push_sunk.result (λ gains. subst (λ (v : View). Gains c.args.self.now c.push_sunk.new.self (Sinks c.args.elements.now c.args.place c.args.time v)) (sym same) gains) c.push_sunk.ensures.gains
