use Rattle.std.proofs.Common.{refl}
use Rattle.lin_embedded.proofs.Told.{handed_back, memory_not_bad}
use Rattle.lin_embedded.proofs.sessions.session_order.Goals as goal

pub returns-in_default-found : goal.returns-in_default-found
returns-in_default-found c =
    let d = c.in-Some.ensures in
    (d.0, d.1, d.2, d.3, (c.in-Some.found, d.4, (refl, refl), memory_not_bad))

pub returns : goal.returns
returns c =
    let d = c.in-Some.ensures in
    handed_back d.0 d.1 _ _ d.2 d.3 c.in-Ok.ordered (rw c.in-Ok.is at d.4) c.status_of.result c.status_of.ensures _ _ _ _ c.hand_back.result c.hand_back.ensures.hands
    c.hand_back.ensures.good _
