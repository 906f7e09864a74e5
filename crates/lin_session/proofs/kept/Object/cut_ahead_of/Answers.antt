use Rattle.std.proofs.Common.{◌++◌, arith}
use Rattle.lin_lists.specs.lemmas.Taken.{take_ahead}
use Rattle.lin_session.proofs.kept.Object.cut_ahead_of.Goals as goal

pub returns-clause-right : goal.returns-clause-right
returns-clause-right c = λ ahead old edited bound right.
    c.cut.ensures.right (ahead ++ old) (ahead ++ edited) right (take_ahead _ ahead old edited (omega (arith, bound, c.number_of-later.ensures, c.saturating_sub.ensures)))
