use Rattle.lin_engines.proofs.witnesses.WitnessEngine.take_in.Goals as goal

pub returns-in_err-goes_on-clause-right : goal.returns-in_err-goes_on-clause-right
returns-in_err-goes_on-clause-right c = λ h next seen. c.take_in.ensures.right next.well_formed.0 h next.well_formed.1 next.stands seen

pub returns-then-goes_on-clause-right : goal.returns-then-goes_on-clause-right
returns-then-goes_on-clause-right c = λ h next seen. c.take_in.ensures.right next.well_formed.0 h next.well_formed.1 next.stands seen

pub returns-else-goes_on-clause-right : goal.returns-else-goes_on-clause-right
returns-else-goes_on-clause-right c = λ h next seen. c.take_in.ensures.right next.well_formed.0 h next.well_formed.1 next.stands seen
