use Rattle.lin_explain.proofs.laws.beginnings_are_legal.Goals as goal

pub returns : goal.returns
returns c h n is = record {
  well_formed = (is.well_formed.0, c.beginnings_are_well_formed.ensures is.well_formed.0 h n is.well_formed.1);
  legal = c.prefixes_are_linearizable_by.ensures h n is.legal;
}
