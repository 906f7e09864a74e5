-- An object that has an event.
use Rattle.std.proofs.Common.{◌≡◌, ◌<◌, ℕ, suc, Bool, true, false, List, [], ◌∷◌, length, refl, sym, ap, ◌∙◌, arith}
use Rattle.std.proofs.lemmas.Bool.{false≢true}
use Rattle.lin_events.specs.declared.items.Item.{Item}
use Rattle.lin_events.specs.Sameness.{Decides-item_eq}
use Rattle.lin_events.specs.Items.{item_eq}
use Rattle.lin_events.specs.declared.events.Event.{Event}
use Rattle.lin_events.specs.Operations.{IsEvent}
use Rattle.lin_order.specs.Parts.{part}
use Rattle.lin_session.proofs.Around.{part-same}

pub event_there : (h : List Event) (key : Item) → 0 < length (part key h) → (at : ℕ) × (event : Event) × IsEvent h at event × (event.key ≡ key)
event_there [] key some = absurd (omega (arith, some))
event_there (event ∷ h) key some = by (λ more. event_there h key more) (item_eq event.key key) refl
  where
    by : (0 < length (part key h) → (at : ℕ) × (e : Event) × IsEvent h at e × (e.key ≡ key)) → (b : Bool) → item_eq event.key key ≡ b → (at : ℕ) × (e : Event) × IsEvent (event ∷ h) at e × (e.key ≡ key)
    by rest true e = (0, event, refl, (Decides-item_eq event.key key).0 e)
    by rest false e =
        let more : 0 < length (part key h) = omega (arith, some, ap length (part-same key event h (λ same. false≢true (sym e ∙ (Decides-item_eq event.key key).1 same)))) in
        let r = rest more in
        (suc r.0, r.1, r.2, r.3)
