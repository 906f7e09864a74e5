-- Locality: linearizable for each object, and as a whole.
use Rattle.std.proofs.Common.{◌≢◌, ℕ, zero, suc, List, [], ◌∷◌, map, AllPairs, Contains, inl, inr, refl, sym, subst, arith}
use Rattle.std.specs.List.{AllZip}
use Rattle.std.proofs.lemmas.Option.{same_Some}
use Rattle.std.proofs.lemmas.List.Elements.{All-weaker, Contains-append_right}
use Rattle.std.proofs.lemmas.List.Kept.{AllPairs-cons}
use Rattle.lin_events.specs.declared.items.Item.{Item}
use Rattle.lin_events.specs.declared.events.Event.{Event}
use Rattle.lin_events.specs.Operations.{IsEvent}
use Rattle.lin_objects.specs.Steps.{start}
use Rattle.lin_order.specs.Orders.{part_of}
use Rattle.lin_order.specs.Linearizable.{IsLegalOrderFor, IsLinearizableFor}
use Rattle.lin_order.specs.Merging.{AbsentKeysAreLegal, IsLocal}
use Rattle.lin_order.proofs.Parts.{parts_are_legal_lem}
use Rattle.lin_order.proofs.Positions.{event_of_key}
use Rattle.lin_order.proofs.MergedLegal.{key_cases, merged_orders_lem}
use Rattle.lin_order.proofs.Sorting.{merge_exists}

pub absent_keys_lem : AbsentKeysAreLegal
absent_keys_lem kinds h key absent = record {
  order_of = record {
    operations = λ k d inside. absurd (omega arith);
    once = λ i j d before within. absurd (omega arith);
    none_failed = λ k d inside. absurd (omega arith);
    each_ok = λ at end reply of_it ok. let found = event_of_key h key at of_it in absurd (absent at found.0 found.1 found.2);
    real_time = λ i j d before within. absurd (omega arith);
  };
  legal = (start (kinds key), refl);
}

-- the keys of a history, each once
record AreKeys (h : List Event) (keys : List Item) : Type 0 where
  pub distinct : AllPairs (λ x y. x ≢ y) keys
  pub complete : (at : ℕ) (event : Event) → IsEvent h at event → Contains keys event.key

keys_exist : (h : List Event) → (keys : List Item) × AreKeys h keys
keys_exist [] = ([], record { distinct = λ i j d before within. absurd (omega arith); complete = λ at event stands. cc })
keys_exist (e ∷ h) =
    let rest = keys_exist h in
    elim (key_cases rest.0 e.key) [
      | inl there ↦ (rest.0, record { distinct = rest.1.distinct; complete = first_or rest.0 there rest.1.complete })
      | inr new ↦ (
        e.key ∷ rest.0,
        record {
          distinct = AllPairs-cons (λ x y. x ≢ y) e.key rest.0 (All-weaker (λ k. k ≢ e.key) (λ k. e.key ≢ k) (λ k differ same. differ (sym same)) rest.0 new) rest.1.distinct;
          complete = first_or (e.key ∷ rest.0) (0, omega arith, refl) (λ at event stands. Contains-append_right (e.key ∷ []) rest.0 event.key (rest.1.complete at event stands));
        },
      )
    ]
  where
    first_or : (keys : List Item) → Contains keys e.key → ((at : ℕ) (event : Event) → IsEvent h at event → Contains keys event.key) → (at : ℕ) (event : Event) → IsEvent (e ∷ h) at event → Contains keys event.key
    first_or keys here rest zero event stands = subst (λ (x : Event). Contains keys x.key) (same_Some e event stands) here
    first_or keys here rest (suc at) event stands = rest at event stands

pub is_local_lem : IsLocal
is_local_lem kinds h = (
  λ whole key. (part_of h key whole.0, parts_are_legal_lem kinds h whole.0 whole.1 key),
  λ each.
      let keys = keys_exist h in
      let parts = map (λ key. (each key).0) keys.0 in
      let merged = merge_exists parts in
      (merged.0, merged_orders_lem kinds h parts merged.0 (record { keys = keys.0; distinct = keys.1.distinct; legal = legal_of each keys.0; complete = keys.1.complete }) merged.1),
)
  where
    legal_of : (each : (key : Item) → IsLinearizableFor kinds key h) (keys : List Item) → AllZip (λ key order. IsLegalOrderFor kinds key h order) keys (map (λ key. (each key).0) keys)
    legal_of each [] = tt
    legal_of each (key ∷ keys) = ((each key).1, legal_of each keys)
