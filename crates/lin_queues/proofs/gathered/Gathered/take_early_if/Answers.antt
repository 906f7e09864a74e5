use Rattle.std.proofs.Common.{sym, subst, ◌∙◌, Contains}
use Rattle.lin_queues.proofs.Lists.{on_ok}
use Rattle.lin_queues.proofs.Gaining.{gains_as}
use Rattle.lin_queues.specs.Members.{view_of}
use Rattle.lin_queues.specs.Reaching.{TakesEarly}
use Rattle.std.proofs.lemmas.Bool.{false≢true}
use Rattle.lin_queues.proofs.gathered.Gathered.take_early_if.Goals as goal

pub returns-clause-told : goal.returns-clause-told
returns-clause-told c = on_ok c.take_early_one.result (λ told' h whole order call is_whole paying enqueues may. told' h whole order is_whole paying enqueues may) c.take_early_one.ensures.told

pub returns-clause-gains : goal.returns-clause-gains
returns-clause-gains c = on_ok c.take_early_one.result (λ gains listed k stands.
    gains_as _ _ _ (TakesEarly c.args.elements.now listed c.args.returned.item c.args.returned.time (view_of c.args.member.now)) (λ w sinks. record {
      at = k;
      operation = c.args.operation;
      stands = stands;
      call = c.puts.ensures.0 c.if-not-puts.false;
      absent = (λ there. false≢true (sym c.if-is_in.false ∙ c.is_in.ensures.1 (subst (λ l. Contains l c.args.operation.place) (sym c.as_slice.ensures.value) there)));
      becomes = sinks;
    }) gains) c.take_early_one.ensures.gains
