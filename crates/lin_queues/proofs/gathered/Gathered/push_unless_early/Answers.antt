use Rattle.std.proofs.Common.{subst, sym, ◌∙◌, Contains}
use Rattle.lin_queues.proofs.Lists.{on_ok}
use Rattle.lin_queues.proofs.Gaining.{gains_as, gains_none}
use Rattle.std.proofs.lemmas.Bool.{false≢true}
use Rattle.lin_queues.specs.Members.{view_of}
use Rattle.lin_queues.specs.Reaching.{Fails}
use Rattle.lin_queues.proofs.gathered.Gathered.push_unless_early.Goals as goal

pub returns-clause-told : goal.returns-clause-told
returns-clause-told c = on_ok c.push_same.result (λ told' h whole order all absent is_whole paying told. told' h whole order all is_whole paying told) c.push_same.ensures.told

pub returns-then-is_in-clause-gains : goal.returns-then-is_in-clause-gains
returns-then-is_in-clause-gains c = gains_none _ _

pub returns-clause-gains : goal.returns-clause-gains
returns-clause-gains c = on_ok c.push_same.result (λ gains. gains_as _ _ _ (Fails c.args.place (view_of c.args.member.now)) (λ w same. ((λ there. false≢true (sym c.if-is_in.false ∙ c.is_in.ensures.1 (subst (λ l. Contains l c.args.place) (sym c.as_slice.ensures.value) there))), same)) gains) c.push_same.ensures.gains
