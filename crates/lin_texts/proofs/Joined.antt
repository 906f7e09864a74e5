-- Lists of items as texts.
use Rattle.std.proofs.Common.{◌≡◌, List, [], ◌∷◌, ◌++◌, ℕ, codes, map, refl, sym, ap, ◌∙◌}
use Rattle.std.specs.List.{join_by}
use Rattle.std.proofs.lemmas.List.Folds.{flat_map-map}
use Rattle.lin_events.specs.declared.items.Item.{Item}
use Rattle.lin_names.specs.Spelled.{printed, spelled}
use Rattle.lin_texts.specs.Items.{item_text, spelled_text}
use Rattle.lin_texts.specs.Texts.{list_text, members_text}

module _ (names : List (List ℕ)) where
  joined_map : (xs : List Item) → list_text names xs ≡ join_by spelled_text (codes ",") (map (spelled names) xs)
  joined_map [] = refl
  joined_map (x ∷ xs) = ap (λ s. item_text names x ++ s) (sym (flat_map-map (λ y. codes "," ++ spelled_text y) (spelled names) xs))

  -- items that stand in the order of print
  pub list_is_members : (xs ys : List Item) → map (spelled names) ys ≡ printed names xs → list_text names ys ≡ members_text names xs
  list_is_members xs ys is = joined_map ys ∙ ap (join_by spelled_text (codes ",")) is
