use Rattle.std.proofs.Common.{◌∙◌, ap}
use Rattle.lin_session.specs.Sessions.{Standing}
use Rattle.lin_session.specs.Known.{mark_of}
use Rattle.lin_session.proofs.session.Session.new.Goals as goal

pub returns-clause-marks : goal.returns-clause-marks
returns-clause-marks c = λ key. ap (λ (s : Standing). mark_of s.marks key) c.session.view_is ∙ c.in_ok-session.ensures.marks key
