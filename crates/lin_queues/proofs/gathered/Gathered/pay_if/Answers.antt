use Rattle.std.proofs.Common.{Some, sym, ap, ◌∙◌}
use Rattle.lin_queues.proofs.Lists.{on_ok}
use Rattle.lin_queues.proofs.Gaining.{gains_as}
use Rattle.lin_queues.specs.Members.{view_of}
use Rattle.lin_queues.specs.Reaching.{Pays}
use Rattle.std.proofs.lemmas.Bool.{not-false}
use Rattle.std.proofs.lemmas.Option.{slice_get-get_or}
use Rattle.lin_events.specs.Sameness.{item_same}
use Rattle.lin_queues.proofs.gathered.Gathered.pay_if.Goals as goal

pub returns-clause-told : goal.returns-clause-told
returns-clause-told c = on_ok c.pay_one.result (λ told' h whole order all is_whole paying may. told' h whole order all is_whole paying may.told) c.pay_one.ensures.told

pub returns-clause-gains : goal.returns-clause-gains
returns-clause-gains c = on_ok c.pay_one.result (λ gains. gains_as _ _ _ (Pays c.args.returned.dequeue c.args.returned.item (view_of c.args.member.now)) (λ w same. record {
  at = c.args.at;
  debt = c.index.result.now;
  stands = slice_get-get_or c.args.member.now.debts.items c.args.at c.index.result.now c.requires ∙ ap Some (sym c.index.ensures);
  item_is = item_same _ _ (not-false _ (sym c.if-ne.ensures));
  before = c.if-returned-debt.false;
  becomes = same;
}) gains) c.pay_one.ensures.gains
