-- After an event that makes no operation ok or failed.
use Rattle.std.proofs.Common.{◌≡◌, ℕ, List, length}
use Rattle.lin_events.specs.declared.calls.Call.{Call}
use Rattle.lin_events.specs.declared.calls.Name.{Name}
use Rattle.lin_events.specs.declared.calls.Reply.{Reply}
use Rattle.lin_events.specs.declared.events.Body.{Body}
use Rattle.lin_events.specs.declared.events.Body.TheVariants.{Invoke, Ok, Fail, Info}
use Rattle.lin_events.specs.declared.events.Event.{Event}
use Rattle.lin_order.specs.declared.placed.Placed.{Placed}
use Rattle.lin_order.specs.Orders.{Places}
use Rattle.lin_order.specs.Configurations.{EndsIn}
use Rattle.lin_order.specs.ConfigurationLaws.{with_event}
use Rattle.lin_events.specs.lemmas.OneMore.{ok_before, failed_before, open_kept}
use Rattle.lin_order.specs.lemmas.OneMore.{call_kept}
use Rattle.lin_order.specs.lemmas.Again.{never_failed, order_again, placed_again, order_before, run_before, run_kept, was_open, none_past}

-- an event that makes no operation ok or failed
abbrev pub IsQuiet : Body → Type 0
IsQuiet body = ((name : Name) (reply : Reply) → body ≡ Ok name reply → ⊥) × ((name : Name) → body ≡ Fail name → ⊥)

module _ {S : Type 0} (start : S) (step : S → Call → S → Reply → Type 0) (h : List Event) (event : Event) (quiet : IsQuiet event.body) where
  -- a legal order stays one after a quiet event, and ends in the same
  pub ends_kept : (o : List Placed) (c : S × List (ℕ × Reply)) → EndsIn start step h o c → EndsIn start step (with_event h event) o c
  ends_kept o c is = record {
    order_of = order_again h o is.order_of (with_event h event)
        (λ p call there. call_kept h event p.at call)
        (λ p there failed. never_failed h o is.order_of p there (failed_before h event quiet.1 p.at failed))
        (λ at end r ok. is.order_of.each_ok at end r tt (ok_before h event quiet.0 at end r ok))
        (λ p at there b. (b.0, b.1, ok_before h event quiet.0 at b.0 b.1 b.2, b.3));
    runs = run_kept h event step o start c.0 is.runs;
    placed = placed_again h (with_event h event) o c.1 is.placed
        (λ at p key call r there. open_kept h event quiet.0 quiet.1 at p key call)
        (was_open h event o (none_past h o is.order_of));
  }

  -- one without an operation at the event was one before
  pub ends_before : (o : List Placed) (c : S × List (ℕ × Reply)) → ((r : Reply) → Places o (length h) r → ⊥) → EndsIn start step (with_event h event) o c → EndsIn start step h o c
  ends_before o c absent is = record {
    order_of = order_before h event o absent is.order_of;
    runs = run_before h event step o start c.0 absent is.runs;
    placed = placed_again (with_event h event) h o c.1 is.placed
        (was_open h event o absent)
        (λ at p key call r there. open_kept h event quiet.0 quiet.1 at p key call);
  }

pub invoke_quiet : (body : Body) (call : Call) → body ≡ Invoke call → IsQuiet body
invoke_quiet body call is = (λ name reply e. cc, λ name e. cc)

pub info_quiet : (body : Body) (name : Name) → body ≡ Info name → IsQuiet body
info_quiet body name is = (λ other reply e. cc, λ other e. cc)
