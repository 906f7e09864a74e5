use Rattle.std.proofs.Common.{◌≡◌, List, sym, subst, OnOk, OnErr}
use Rattle.std.specs.declared.result.Result.{Result}
use Rattle.std.specs.declared.result.Result.TheVariants.{Ok, Err}
use Rattle.std.specs.List.{insert}
use Rattle.lin_lists.specs.Sets.{IsRising, with_member}
use Rattle.lin_events.specs.declared.items.Item.{Item}
use Rattle.lin_events.specs.Items.{item_cmp}
use Rattle.lin_events.specs.lemmas.Rising.{rising_inserted}
use Rattle.lin_events.proofs.lists.IntSet.insert.Goals as goal

-- the set with the member put in, or as it was
still_rising : {X E : Type 0} → (r : Result X E) (member : Item) (old now : List Item) → IsRising item_cmp old → OnOk r (now ≡ with_member item_cmp member old) → OnErr r (now ≡ old) → IsRising item_cmp now
still_rising (Ok x) member old now rising put kept = rising_inserted member old now rising put
still_rising (Err e) member old now rising put kept = subst (IsRising item_cmp) (sym kept) rising

pub invariant_of-self : goal.invariant_of-self
invariant_of-self c =
    let m = c.args.member in
    let old : List Item = c.self.inside.items in
    let place : with_member item_cmp m old ≡ insert old c.in-Some.at m =
    subst (λ l. with_member item_cmp m l ≡ insert l c.in-Some.at m) c.as_slice.ensures c.in-Some.ensures.some.1 in
    still_rising c.insert.result m old c.insert.new.self c.self.invariant (subst (λ l. OnOk c.insert.result (c.insert.new.self ≡ l)) (sym place) c.insert.ensures.ok) c.insert.ensures.err
