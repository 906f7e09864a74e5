-- Events that are read through picks.
use Rattle.std.proofs.Common.{◌≡◌, ◌<◌, ℕ, zero, suc, List, [], ◌∷◌, length, take, Some, refl, sym, ap, ◌∙◌, arith, get_or, slice_get, All}
use Rattle.std.specs.List.{cons_option}
use Rattle.std.proofs.lemmas.List.Elements.{All-tail, All-head}
use Rattle.std.proofs.lemmas.Option.{slice_get-get_or, slice_get_read}
use Rattle.lin_events.specs.declared.events.Event.{Event}
use Rattle.lin_events.specs.Operations.{IsEvent}
use Rattle.lin_order.specs.Parts.{events_at}

-- the events at the picks, one by one
there_is : (h : List Event) (at : ℕ) → at < length h → (event : Event) × (slice_get h at ≡ Some event)
there_is [] at inside = absurd (omega arith)
there_is (e ∷ rest) zero inside = (e, refl)
there_is (e ∷ rest) (suc at) inside = there_is rest at (omega arith)

picked : (h : List Event) (at : ℕ) (picks : List ℕ) (inside : at < length h) → events_at h (at ∷ picks) ≡ (there_is h at inside).0 ∷ events_at h picks
picked h at picks inside = ap (λ o. cons_option o (events_at h picks)) (there_is h at inside).1

pub length-events_at : (h : List Event) (picks : List ℕ) → All (λ at. at < length h) picks → length (events_at h picks) ≡ length picks
length-events_at h [] inside = refl
length-events_at h (at ∷ picks) inside =
    let first = All-head (λ n. n < length h) at picks inside in
    let rest = length-events_at h picks (All-tail (λ n. n < length h) at picks inside) in
    ap length (picked h at picks first) ∙ ap (λ n. suc n) rest

-- those at the first picks are the first ones
pub events_take : (h : List Event) (picks : List ℕ) (n : ℕ) → All (λ at. at < length h) picks → events_at h (take n picks) ≡ take n (events_at h picks)
events_take h [] zero inside = refl
events_take h [] (suc n) inside = refl
events_take h (at ∷ picks) zero inside = refl
events_take h (at ∷ picks) (suc n) inside =
    let first = All-head (λ m. m < length h) at picks inside in
    let rest = events_take h picks n (All-tail (λ m. m < length h) at picks inside) in
    picked h at (take n picks) first ∙ ap (λ l. (there_is h at first).0 ∷ l) rest ∙ sym (ap (take (suc n)) (picked h at picks first))

pub event_picked : (h : List Event) (picks : List ℕ) (k at : ℕ) → All (λ n. n < length h) picks → slice_get picks k ≡ Some at → slice_get (events_at h picks) k ≡ slice_get h at
event_picked h [] k at inside there = cc
event_picked h (n ∷ picks) zero at inside there =
    let first = All-head (λ m. m < length h) n picks inside in
    ap (λ l. slice_get l 0) (picked h n picks first) ∙ sym (there_is h n first).1 ∙ ap (λ m. slice_get h m) (some_same there)
  where
    some_same : Some n ≡ Some at → n ≡ at
    some_same e = cc
event_picked h (n ∷ picks) (suc k) at inside there =
    ap (λ l. slice_get l (suc k)) (picked h n picks (All-head (λ m. m < length h) n picks inside)) ∙ event_picked h picks k at (All-tail (λ m. m < length h) n picks inside) there

-- the event that is read through a pick
pub event_there : (h : List Event) (picks : List ℕ) (k : ℕ) (event : Event) → All (λ at. at < length h) picks → k < length picks → event ≡ get_or h (get_or picks k 0) event → IsEvent (events_at h picks) k event
event_there h picks k event inside below is =
    event_picked h picks k (get_or picks k 0) inside (slice_get-get_or picks k 0 below) ∙ slice_get_read h (length h) (get_or picks k 0) event refl (inside k 0 below) is
