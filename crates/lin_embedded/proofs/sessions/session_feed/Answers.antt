use Rattle.std.proofs.Common.{true, false}
use Rattle.lin_embedded.proofs.Told.{fed_so}
use Rattle.lin_embedded.proofs.sessions.session_feed.Goals as goal

pub returns-then-intake : goal.returns-then-intake
returns-then-intake c =
    let d = c.in-Some.ensures in
    (d.0, d.1, d.2, d.3, fed_so c.args.piece.now d.0 d.1 c.in-Ok.intake true c.if-intake.true (rw c.in-Ok.is at d.4))

pub returns-else-intake : goal.returns-else-intake
returns-else-intake c =
    let d = c.in-Some.ensures in
    (d.0, d.1, d.2, d.3, fed_so c.args.piece.now d.0 d.1 c.in-Ok.intake false c.if-intake.false (rw c.in-Ok.is at d.4))
