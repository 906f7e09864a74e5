-- What the members of a compressed frontier lead to are configurations.
use Rattle.std.proofs.Common.{◌≡◌, ℕ, Bool, Bor, true, false, List, Contains, IfSome, Option, None, Some, refl, slice_get, subst}
use Rattle.std.proofs.lemmas.Option.{slice_get_read}
use Rattle.std.specs.Slice.{IsItemAt}
use Rattle.lin_events.specs.declared.items.Item.{Item}
use Rattle.lin_events.specs.declared.calls.Call.{Call}
use Rattle.lin_events.specs.declared.calls.Name.{Name}
use Rattle.lin_events.specs.declared.calls.Reply.{Reply}
use Rattle.lin_events.specs.declared.events.Event.{Event}
use Rattle.lin_events.specs.WellFormed.{IsWellFormed}
use Rattle.lin_lists.specs.lemmas.Taken.{Contains-slice_get}
use Rattle.lin_objects.specs.Observing.{IsObserving}
use Rattle.lin_objects.specs.Overwriting.{IsOverwriting}
use Rattle.lin_order.specs.declared.placed.Placed.{Placed}
use Rattle.lin_members.specs.declared.members.Path.{Path}
use Rattle.lin_members.specs.Compressed.{IsCompressed, LeadsWithin}
use Rattle.lin_members.specs.Members.{Member}
use Rattle.lin_members.specs.OverwrittenLaws.{SoundWithLaw}
use Rattle.lin_members.specs.RoundLaws.{SoundLaw}

-- what is lent at a place is the member there
pub shown_at : {A : Type 0} (xs ys : List A) → xs ≡ ys → (i : ℕ) (found : Option (Bor A)) → IsItemAt xs i found → IfSome found (λ x. slice_get ys i ≡ Some x.now)
shown_at xs ys same i None is = tt
shown_at xs ys same i (Some x) is = subst (λ l. slice_get l i ≡ Some x.now) same (slice_get_read xs _ i x.now refl is.3.0 is.1)

-- so what holds of each member holds of that
pub shown_holds : {A : Type 0} (P : A → Type 0) (ys : List A) → ((x : A) → Contains ys x → P x) → (i : ℕ) (found : Option (Bor A)) → IfSome found (λ x. slice_get ys i ≡ Some x.now) → IfSome found (λ x. P x.now)
shown_holds P ys each i None is = tt
shown_holds P ys each i (Some x) is = each x.now (Contains-slice_get ys i x.now is)

pub members_lead_within : {S : Type 0} (start : S) (step : S → Call → S → Reply → Type 0) (observes : Call → Bool) → SoundLaw start step → SoundWithLaw start step → IsObserving step observes
    → (overwriting : Bool) → (overwriting ≡ true → IsOverwriting start step observes) → (functions : Item → Name → Bool) (h : List Event) → IsWellFormed functions h → (members : List (Member S × Path)) (nodes : List (ℕ × (Placed × Option ℕ)))
    → IsCompressed start step observes overwriting h members nodes → (m : Member S × Path) → Contains members m → LeadsWithin start step observes overwriting h m
members_lead_within start step observes sound sound_with observing false over functions h well_formed members nodes is m there c leads =
    let s = is.covering.spelled m there in
    sound observes observing functions h well_formed s.states s.rounds m.0 s.trail c leads
members_lead_within start step observes sound sound_with observing true over functions h well_formed members nodes is m there c leads =
    let s = is.covering.spelled m there in
    sound_with observes observing (over refl) functions h well_formed s.states s.rounds m s.trail (is.covering.overwritten refl m there s.rounds s.spelled) c leads
