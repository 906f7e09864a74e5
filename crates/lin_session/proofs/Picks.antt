-- The positions of a key's events in a prefix that grows and shrinks by one event.
use Rattle.std.proofs.Common.{◌≡◌, ◌≢◌, ◌<◌, ◌-◌, ℕ, suc, true, false, List, [], ◌∷◌, ◌++◌, length, slice_get, take, get_or, Contains, Some, None, Option, IsTrue, inl, inr, refl, sym, ap, subst, ◌∙◌, arith}
use Rattle.std.specs.Option.{option_map_or}
use Rattle.std.proofs.lemmas.Bool.{cases_order}
use Rattle.std.proofs.lemmas.List.{take-take, take_all, length-take-le}
use Rattle.std.proofs.lemmas.Option.{same_Some, slice_get_within, get_or_from_slice_get}
use Rattle.lin_events.specs.declared.items.Item.{Item}
use Rattle.lin_events.specs.Sameness.{Decides-item_eq}
use Rattle.lin_events.specs.Items.{item_eq}
use Rattle.lin_events.specs.declared.events.Event.{Event}
use Rattle.lin_events.specs.Operations.{IsEvent}
use Rattle.lin_order.specs.Orders.{is_of_key}
use Rattle.lin_order.specs.Parts.{ArePositionsOf, IsNth, IsCut}
use Rattle.lin_order.specs.PartLaws.{PartsOfPrefixes, PartsGrow}
use Rattle.lin_lists.specs.lemmas.Lists.{get_taken, take_next}
use Rattle.lin_lists.specs.lemmas.Taken.{get_of_take}

-- an event of the key stands at the position
pub event_of_key : (h : List Event) (key : Item) (at : ℕ) → IsTrue (is_of_key h key at) → (event : Event) × IsEvent h at event × (event.key ≡ key)
event_of_key h key at of_it = by (slice_get h at) refl of_it
  where
    by : (o : Option Event) → slice_get h at ≡ o → option_map_or (λ event. item_eq event.key key) o false ≡ true → (event : Event) × IsEvent h at event × (event.key ≡ key)
    by None is of_none = cc
    by (Some event) is of_event = (event, is, (Decides-item_eq event.key key).0 of_event)

pub of_key_event : (h : List Event) (key : Item) (at : ℕ) (event : Event) → IsEvent h at event → event.key ≡ key → IsTrue (is_of_key h key at)
of_key_event h key at event stands is = ap (λ o. option_map_or (λ (e : Event). item_eq e.key key) o false) stands ∙ (Decides-item_eq event.key key).1 is

module _ (h : List Event) (key : Item) (last : ℕ) (event : Event) (stands : IsEvent h last event) (picks : List ℕ) (picked : ArePositionsOf key (take (suc last) h) picks) where
  of_nth : (k at : ℕ) → IsNth picks k at → (e : Event) × IsEvent h at e × (e.key ≡ key) × (at < suc last)
  of_nth k at nth =
      let read = get_or_from_slice_get picks k at at nth in
      let of_it = subst (λ p. IsTrue (is_of_key (take (suc last) h) key p)) read (picked.sound k at (slice_get_within picks k at nth)) in
      let e = event_of_key (take (suc last) h) key at of_it in
      let g = get_taken (suc last) h at e.0 e.1 in
      (e.0, g.1, e.2, g.0)

  -- where the last event is of the key, its position is the last one
  cut_last : event.key ≡ key → IsCut picks (length picks - 1) last
  cut_last same k at nth =
      let there = picked.complete last (of_key_event (take (suc last) h) key last event (get_of_take (suc last) h last (omega arith) ∙ stands) same) in
      let of_it = of_nth k at nth in
      let within = slice_get_within picks k at nth in
      let read = get_or_from_slice_get picks k at last nth in (
        λ below. below_last there of_it.3 within read below,
        λ before. place there of_it.3 within read before,
      )
    where
      below_last : Contains picks last → at < suc last → k < length picks → get_or picks k last ≡ at → k < length picks - 1 → at < last
      below_last there upto within read below =
          let end = length picks - 1 in
          let nth_end = picked.rising k end last below (omega arith) in
          let bound = (picked.sound end last (omega arith)) in
          let e = event_of_key (take (suc last) h) key (get_or picks end last) bound in
          let g = get_taken (suc last) h (get_or picks end last) e.0 e.1 in
          omega (arith, nth_end, g.0, read)

      place : Contains picks last → at < suc last → k < length picks → get_or picks k last ≡ at → at < last → k < length picks - 1
      place (j, j_within, j_is) upto within read before = elim (cases_order j k) [
        | inl equal ↦ let r : get_or picks k last ≡ last = ap (λ i. get_or picks i last) (sym equal) ∙ j_is in absurd (omega (arith, r, read))
        | inr rest ↦ elim rest [
          | inl below ↦ let r = picked.rising j k last below within in absurd (omega (arith, r, read, j_is))
          | inr above ↦ omega arith
        ]
      ]

  -- where it isn't, all positions are below it
  cut_none : event.key ≢ key → IsCut picks (length picks) last
  cut_none other k at nth =
      let of_it = of_nth k at nth in (
        λ below. elim (cases_order at last) [
          | inl equal ↦ absurd (other (ap (λ (e : Event). e.key) (same_Some _ _ (sym stands ∙ ap (slice_get h) (sym equal) ∙ of_it.1)) ∙ of_it.2))
          | inr rest ↦ elim rest [
            | inl before ↦ before
            | inr after ↦ absurd (omega (arith, of_it.3))
          ]
        ],
        λ before. slice_get_within picks k at nth,
      )

  pub picks_less : PartsOfPrefixes → event.key ≡ key → ArePositionsOf key (take last h) (take (length picks - 1) picks)
  picks_less law same =
      subst (λ l. ArePositionsOf key l (take (length picks - 1) picks)) (take-take last (suc last) h (omega arith)) (law key (take (suc last) h) picks (length picks - 1) last picked (cut_last same)).positions_of

  pub picks_stay : PartsOfPrefixes → event.key ≢ key → ArePositionsOf key (take last h) picks
  picks_stay law other =
      let cut = (law key (take (suc last) h) picks (length picks) last picked (cut_none other)).positions_of in
      subst (ArePositionsOf key (take last h)) (take_all (length picks) picks (omega arith))
      (subst (λ l. ArePositionsOf key l (take (length picks) picks)) (take-take last (suc last) h (omega arith)) cut)

module _ (law : PartsGrow) (h : List Event) (key : Item) (last : ℕ) (event : Event) (stands : IsEvent h last event) (picks : List ℕ) (picked : ArePositionsOf key (take last h) picks) where
  pub picks_more : event.key ≡ key → ArePositionsOf key (take (suc last) h) (picks ++ last ∷ [])
  picks_more same =
      let more = (law key (take last h) event).position picks same picked in
      let fits = slice_get_within h last event stands in
      subst (λ l. ArePositionsOf key l (picks ++ last ∷ [])) (sym (take_next last h event stands))
      (subst (λ n. ArePositionsOf key (take last h ++ event ∷ []) (picks ++ n ∷ [])) (length-take-le last h (omega arith)) more)

  pub picks_same : event.key ≢ key → ArePositionsOf key (take (suc last) h) picks
  picks_same other = subst (λ l. ArePositionsOf key l picks) (sym (take_next last h event stands)) ((law key (take last h) event).no_position picks other picked)
