-- How wide the widest of some texts is, text by text.
use Rattle.std.proofs.Common.{◌≡◌, ◌+◌, ◌<◌, ◌≤◌, ℕ, List, [], ◌∷◌, ◌++◌, length, get_or, map, max, take, sym, ap, ◌∙◌, arith}
use Rattle.std.proofs.lemmas.List.{map-append, take_all, take_more}
use Rattle.lin_tables.specs.Tables.{widest}

widest_push : (texts : List (List ℕ)) (text : List ℕ) → widest (texts ++ text ∷ []) ≡ max (widest texts) (length text)
widest_push [] text = omega arith
widest_push (first ∷ texts) text = let rest = widest_push texts text in omega (arith, rest)

module _ {X : Type 0} (f : X → List ℕ) (xs : List X) (at width : ℕ) where
  -- one more text
  pub widest_next : (d : X) (next : ℕ) → at < length xs → width ≡ widest (map f (take at xs)) → next ≡ max width (length (f (get_or xs at d))) → next ≡ widest (map f (take (at + 1) xs))
  widest_next d next inside so_far is =
      let more : map f (take (at + 1) xs) ≡ map f (take at xs) ++ f (get_or xs at d) ∷ [] = ap (map f) (take_more xs at d inside) ∙ map-append f (take at xs) (get_or xs at d ∷ []) in
      is ∙ ap (λ w. max w (length (f (get_or xs at d)))) so_far ∙ sym (ap widest more ∙ widest_push (map f (take at xs)) (f (get_or xs at d)))

  -- in the end all are counted
  pub widest_all : length xs ≤ at → width ≡ widest (map f (take at xs)) → width ≡ widest (map f xs)
  widest_all end so_far = so_far ∙ ap (λ l. widest (map f l)) (take_all at xs end)
