use Rattle.lin_edn.proofs.Skims.{seen_gone, seen_stopped}
use Rattle.lin_edn.proofs.Stops.{goes_on}
use Rattle.lin_edn.proofs.skim.Skim.go_on.Goals as goal

pub returns-clause-seen : goal.returns-clause-seen
returns-clause-seen c = λ e text seen. seen_gone c.args.self.now c.pass.new.self text c.args.piece.now (c.pass.ensures.gone e) seen

pub returns-clause-goes_on : goal.returns-clause-goes_on
returns-clause-goes_on c = λ text is_comment seen is.
    goes_on c.pass.result (λ e. seen_stopped c.args.self.now text c.args.piece.now is_comment (c.pass.ensures.stopped e) seen is)
