use Rattle.lin_answers.specs.Answers.{kinds_in}
use Rattle.lin_explain.proofs.certain.noes_are_certain.Goals as goal

-- the whole's legal order has one of the object, and so has each beginning
pub returns : goal.returns
returns c now key n fails linear =
    fails.1.fails (c.prefixes_are_linearizable.ensures.object (kinds_in now) key now.history n ((c.linearizability_is_local.ensures (kinds_in now) now.history).0 linear key))
