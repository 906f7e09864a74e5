use Rattle.std.proofs.Common.{◌≡◌, ◌∙◌, ◌++◌, ℕ, List, [], ◌∷◌, ap, codes, map, refl, sym}
use Rattle.std.specs.List.{join_by}
use Rattle.std.proofs.lemmas.List.Folds.{flat_map-map}
use Rattle.lin_events.specs.declared.items.Item.{Item}
use Rattle.lin_names.specs.Spelled.{spelled}
use Rattle.lin_texts.specs.Items.{item_text, spelled_text}
use Rattle.lin_texts.specs.lemmas.Putting.{all_pieces}
use Rattle.lin_possibilities.proofs.whole.put_each.Goals as goal

as_seen : (names : List (List ℕ)) (xs : List Item) → join_by (item_text names) (codes ",") xs ≡ join_by spelled_text (codes ",") (map (spelled names) xs)
as_seen names [] = refl
as_seen names (x ∷ xs) = ap (λ l. item_text names x ++ l) (sym (flat_map-map (λ s. codes "," ++ spelled_text s) (spelled names) xs))

pub returns : goal.returns
returns c =
    all_pieces (item_text c.args.names.now) (codes ",") c.args.items.now c.in-Some.others.now c.loop-item.item-index c.in-Some.first.now
    c.args.words.now.items c.put_item.new.line.items c.loop-item.words.items c.in-Some.ensures.cases c.loop-item-test.false
    c.in_ok-put_item.ensures.put c.loop-item.invariant
    ∙ ap (λ l. c.args.words.now.items ++ l) (as_seen c.args.names.now c.args.items.now)
