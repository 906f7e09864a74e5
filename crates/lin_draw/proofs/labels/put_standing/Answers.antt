use Rattle.lin_draw.proofs.Begun.{begun_by, begun_on, goes_on}
use Rattle.lin_draw.proofs.labels.put_standing.Goals as goal

pub returns-in-Some : goal.returns-in-Some
returns-in-Some c =
    goes_on c.put_event_spot-in-Some.result _ _ _ _ _
    (begun_on _ _ _ _ _ _ _ c.in_ok-extend_from_slice.ensures.items c.in_ok-put_event_spot.ensures c.in_ok-extend_from_slice-2.ensures.items) c.put_event_spot-in-Some.ensures

pub returns-in-None : goal.returns-in-None
returns-in-None c =
    begun_by _ _ _ _ _ _ _ c.in_ok-extend_from_slice.ensures.items c.in_ok-put_event_spot.ensures c.in_ok-extend_from_slice-2.ensures.items
