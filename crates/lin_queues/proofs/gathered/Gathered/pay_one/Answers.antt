use Rattle.std.proofs.Common.{subst, sym, ap, ◌∙◌, length, ◌≡◌}
use Rattle.std.specs.List.{remove}
use Rattle.lin_queues.specs.Members.{Told, View}
use Rattle.lin_queues.proofs.Lists.{on_ok}
use Rattle.lin_queues.specs.Gains.{Gains}
use Rattle.lin_queues.proofs.gathered.Gathered.pay_one.Goals as goal

pub returns-clause-told : goal.returns-clause-told
returns-clause-told c =
    let same = sym (c.settle.ensures ∙ ap (λ (v : View). record v { debts = remove v.debts c.args.at }) c.in_ok-next.ensures) in
    on_ok c.push.result (λ told' h whole order all is_whole paying told. told' h whole order all is_whole paying (subst (Told whole order (length h) all) same told)) c.push.ensures.told

pub returns-clause-gains : goal.returns-clause-gains
returns-clause-gains c =
    let same = c.settle.ensures ∙ ap (λ (v : View). record v { debts = remove v.debts c.args.at }) c.in_ok-next.ensures in
    on_ok c.push.result (λ gains. subst (λ (v : View). Gains c.args.self.now c.push.new.self (λ w. w ≡ v)) same gains) c.push.ensures.gains
