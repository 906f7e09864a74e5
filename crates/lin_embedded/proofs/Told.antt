-- What a session's calls tell, as their numbers say it.
use Rattle.std.proofs.Common.{◌≡◌, ◌≢◌, ℕ, Bool, List, Option, Some, Ok, ap, subst}
use Rattle.lin_texts.specs.declared.status.Status.{Status}
use Rattle.lin_report.specs.Reports.{answer_status}
use Rattle.lin_embedded.specs.Recorders.{Feeds, Orders}
use Rattle.lin_embedded.specs.declared.recorder.Intake.{Intake}
use Rattle.lin_embedded.specs.declared.recorder.Ordered.{Ordered}
use Rattle.lin_embedded.specs.declared.recorder.Recorder.{Recorder}
use Rattle.lin_embedded.specs.Calls.{HandsBack, IsJust}
use Rattle.lin_embedded.specs.Sessions.{Calls, OrdersAs}
use Rattle.lin_embedded.specs.declared.handing.CallEnd.{CallEnd}
use Rattle.lin_embedded.specs.declared.handing.CallEnd.TheVariants.{Told, BadOptions, NoKey, OutOfMemory, TooLittleRoom, Done, NoSession}

-- what was told of a piece, field by field
pub fed_so : (piece : List ℕ) (r r' : Recorder) (intake : Intake) (is_refused : Bool) → intake.is_refused ≡ is_refused
    → Feeds piece r r' (Ok intake) → Feeds piece r r' (Ok (record { events = intake.events; is_refused = is_refused }))
fed_so piece r r' intake is_refused refused =
    subst (λ (i : Intake). Feeds piece r r' (Ok i)) (ap (λ (b : Bool). record { events = intake.events; is_refused = b }) refused)

pub memory_not_bad : OutOfMemory ≡ BadOptions → ⊥
memory_not_bad same = cc

-- what is handed back of an order
pub handed_back : (r r' : Recorder) (old new : Option Recorder) → old ≡ Some r → new ≡ Some r' → (ordered : Ordered) → Orders r r' (Ok ordered)
    → (status : Status) → status ≡ answer_status ordered.verdict → (before after : List ℕ) (was needed : ℕ) (ended : CallEnd)
    → HandsBack (IsJust ordered.order.items status) before after was needed ended → ended ≢ BadOptions → (same : Type 0)
    → Calls (OrdersAs before after was needed) same old new ended
handed_back r r' old new held holds ordered orders status is before after was needed ended hands good same = by_end ended right good
  where
    right : HandsBack (IsJust ordered.order.items (answer_status ordered.verdict)) before after was needed ended
    right = subst (λ (s : Status). HandsBack (IsJust ordered.order.items s) before after was needed ended) is hands

    by_end : (e : CallEnd) → HandsBack (IsJust ordered.order.items (answer_status ordered.verdict)) before after was needed e → e ≢ BadOptions
        → Calls (OrdersAs before after was needed) same old new e
    by_end (Told s) it not_bad = (r, r', held, holds, (Ok ordered, orders, it, not_bad))
    by_end TooLittleRoom it not_bad = (r, r', held, holds, (Ok ordered, orders, it, not_bad))
    by_end OutOfMemory it not_bad = (r, r', held, holds, (Ok ordered, orders, it, not_bad))
    by_end BadOptions it not_bad = (r, r', held, holds, (Ok ordered, orders, it, not_bad))
    by_end Done it not_bad = absurd it
    by_end NoSession it not_bad = absurd it
    by_end NoKey it not_bad = absurd it
