use Rattle.std.proofs.Common.{◌≡◌, List, sym, ap, subst, ◌∙◌}
use Rattle.std.specs.Result.{OnOk, OnErr}
use Rattle.std.specs.declared.result.Result.{Result}
use Rattle.std.specs.declared.result.Result.TheVariants.{Ok, Err}
use Rattle.std.specs.List.{insert}
use Rattle.lin_events.specs.declared.items.Item.{Item}
use Rattle.lin_objects.specs.Bags.{NeverFalls, bag_of, with_one}
use Rattle.lin_objects.specs.lemmas.Bags.{bag_same, falls_with}
use Rattle.lin_objects.proofs.bags.IntBag.insert.Goals as goal

-- the bag with the item put in, or as it was
still_ordered : {X E : Type 0} → (r : Result X E) (item : Item) (old now : List Item) → NeverFalls old → OnOk r (now ≡ with_one item old) → OnErr r (now ≡ old) → NeverFalls now
still_ordered (Ok x) item old now never put kept = subst NeverFalls (sym put) (falls_with item old never)
still_ordered (Err e) item old now never put kept = subst NeverFalls (sym kept) never

-- which is the bag of the item and the others
all_of : {X E : Type 0} → (r : Result X E) (item : Item) (old now : List Item) → NeverFalls old → OnOk r (now ≡ with_one item old) → OnOk r (now ≡ with_one item (bag_of old))
all_of (Ok x) item old now never put = put ∙ ap (with_one item) (sym (bag_same old never))
all_of (Err e) item old now never put = put

-- where the item was put
placed : (c : goal.After-insert) → OnOk c.insert.result (c.insert.new.self ≡ with_one c.args.item c.self.inside.items)
placed c =
    let m : Item = c.args.item in
    let old : List Item = c.self.inside.items in
    let place : with_one m old ≡ insert old c.place_for-at.result m = subst (λ l. with_one m l ≡ insert l c.place_for-at.result m) c.as_slice.ensures c.place_for-at.ensures.put in
    subst (λ l. OnOk c.insert.result (c.insert.new.self ≡ l)) (sym place) c.insert.ensures.ok

pub invariant_of-self : goal.invariant_of-self
invariant_of-self c = still_ordered c.insert.result c.args.item c.self.inside.items c.insert.new.self c.self.invariant (placed c) c.insert.ensures.err

pub returns-clause-all : goal.returns-clause-all
returns-clause-all c =
    subst (λ old. OnOk c.insert.result (c.insert.new.self ≡ with_one c.args.item (bag_of old))) c.self.view_is
    (all_of c.insert.result c.args.item c.self.inside.items c.insert.new.self c.self.invariant (placed c))
