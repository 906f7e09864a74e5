-- Bags of items, in which an item may be several times, as lists that never fall: so equal bags are the same list.
use Rattle.std.specs.Prelude.{◌≢◌, List, [], ◌∷◌, All, if◌then◌else◌}
use Rattle.std.specs.Ordering.{match_ordering}
use Rattle.std.specs.declared.cmp.Ordering.TheVariants.{Greater}
use Rattle.lin_events.specs.declared.items.Item.{Item}
use Rattle.lin_events.specs.Items.{item_cmp, item_eq}

-- no item is above a later one
abbrev pub NeverFalls : List Item → Type 0
NeverFalls [] = Unit {0}
NeverFalls (x ∷ xs) = All (λ y. item_cmp x y ≢ Greater) xs × NeverFalls xs

-- the item put ahead of the first one that isn't below it
abbrev pub with_one : Item → List Item → List Item
with_one x [] = x ∷ []
with_one x (y ∷ ys) = match_ordering (item_cmp y x) (y ∷ with_one x ys) (x ∷ y ∷ ys) (x ∷ y ∷ ys)

-- the bag of some items
abbrev pub bag_of : List Item → List Item
bag_of [] = []
bag_of (x ∷ xs) = with_one x (bag_of xs)

-- the items, but for the first one that is this, if one is
abbrev pub without_one : Item → List Item → List Item
without_one x [] = []
without_one x (y ∷ ys) = if item_eq y x then ys else y ∷ without_one x ys
