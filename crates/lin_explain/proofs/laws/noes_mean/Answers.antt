use Rattle.lin_explain.proofs.laws.noes_mean.Goals as goal

pub returns : goal.returns
returns c now scope n ending answer stands is = (c.noes_stay_inside.ensures now scope n ending answer stands, c.failures_mean.ensures _ ending (c.noes_fail.ensures now scope n ending answer stands is))
