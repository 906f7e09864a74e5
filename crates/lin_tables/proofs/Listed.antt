-- Items one after another, as they are seen in print.
use Rattle.std.proofs.Common.{◌≡◌, ◌<◌, ℕ, List, [], ◌∷◌, ◌++◌, ap, decimal, refl, sym, ◌∙◌, codes, length, map, subst, take, if◌then◌else◌}
use Rattle.std.specs.List.{join_by}
use Rattle.std.proofs.lemmas.Bool.{lt-leb}
use Rattle.std.proofs.lemmas.List.{length-map, take-map}
use Rattle.std.proofs.lemmas.List.Folds.{flat_map-map}
use Rattle.lin_events.specs.declared.items.Item.{Item}
use Rattle.lin_texts.specs.lemmas.Putting.{put_next}
use Rattle.lin_names.specs.Spelled.{Spelled, spelled}
use Rattle.lin_tables.specs.Values.{item_worded, spelled_worded, told_worded}
use Rattle.lin_tables.specs.declared.spellings.Wording.{Wording}

pub listed : (wording : Wording) (names : List (List ℕ)) (xs : List Item) → join_by (item_worded wording names) (codes ",") xs ≡ join_by (spelled_worded wording names) (codes ",") (map (spelled names) xs)
listed wording names [] = refl
listed wording names (x ∷ xs) = ap (λ l. item_worded wording names x ++ l) (sym (flat_map-map (λ s. codes "," ++ spelled_worded wording names s) (spelled names) xs))

-- of more than eight the first eight are told, and how many there are
many_told : (wording : Wording) (names : List (List ℕ)) (ss : List Spelled) → 8 < length ss
    → told_worded wording names ss ≡ join_by (spelled_worded wording names) (codes ",") (take 8 ss) ++ codes ",... " ++ decimal (length ss) ++ codes " in all"
many_told wording names ss many = ap (λ b. if b then join_by (spelled_worded wording names) (codes ",") ss
    else join_by (spelled_worded wording names) (codes ",") (take 8 ss) ++ codes ",... " ++ decimal (length ss) ++ codes " in all") (lt-leb _ _ many)

pub first_told : (wording : Wording) (names : List (List ℕ)) (xs : List Item) (old told dots counted : List ℕ) → 8 < length xs
    → told ≡ old ++ join_by (spelled_worded wording names) (codes ",") (map (spelled names) (take 8 xs)) → dots ≡ told ++ codes ",... " → counted ≡ dots ++ decimal (length xs)
    → counted ++ codes " in all" ≡ old ++ told_worded wording names (map (spelled names) xs)
first_told wording names xs old told dots counted many is_told is_dots is_counted =
    let ss = map (spelled names) xs in
    let count : length ss ≡ length xs = length-map xs (spelled names) in
    let firsts = is_told ∙ ap (λ l. old ++ join_by (spelled_worded wording names) (codes ",") l) (sym (take-map (spelled names) 8 xs)) in
    let counts = put_next old dots counted _ _ (put_next old told dots _ _ firsts is_dots) (is_counted ∙ ap (λ n. dots ++ decimal n) (sym count)) in
    put_next old counted _ _ _ counts refl ∙ ap (λ l. old ++ l) (sym (many_told wording names ss (subst (λ n. 8 < n) (sym count) many)))
