-- Members that another one leads to can be dropped.
use Rattle.lin_events.specs.declared.calls.Call.{Call}
use Rattle.lin_events.specs.declared.calls.Reply.{Reply}
use Rattle.lin_members.specs.MemberLaws.{LedToLaw}
use Rattle.lin_members.specs.lemmas.Exchanging.{covered_by}
use Rattle.lin_members.specs.lemmas.Leading.{meets_from}
use Rattle.lin_members.specs.lemmas.Ways.{from_covers, to_covers}

pub led_to_law : {S : Type 0} (start : S) (step : S → Call → S → Reply → Type 0) → LedToLaw start step
led_to_law start step observes h members others each complete c config =
    let found = complete c config in
    let by = each found.member found.among in
    covered_by step observes h members others c found (
      by.0,
      by.1,
      to_covers step observes h by.0 (c.0, found.placed)
          (meets_from step observes h by.0 found.member by.2 c.0 found.placed (from_covers step observes h found.member (c.0, found.placed) found.exchanged.rising found.leads)),
    )
