-- The pairs of an order that were read, and those that are left.
use Rattle.std.proofs.Common.{◌≡◌, ℕ, ◌+◌, ◌≤◌, List, [], ◌∷◌, ◌++◌, Option, Result, Ok, Err, None, Some, MatchOption, MatchResult, true, false, codes, cond, true≢false, is_some, length, drop, map, refl, sym, ap, subst, ◌∙◌, append_assoc}
use Rattle.std.specs.Str.{bytes_eq}
use Rattle.lin_names.specs.Names.{AgreesWith, Begins, Numbering}
use Rattle.lin_names.specs.lemmas.Begins.{agrees_before}
use Rattle.lin_order.specs.declared.placed.Placed.{Placed}
use Rattle.lin_texts.specs.Parts.{Part, filled_from, IsFirstFilled}
use Rattle.lin_texts.specs.Orders.{SaidPair, before_pairs, order_written, pair_of, pair_written, pairs_of, pairs_of_words, IsOrderBy, IsRefusedAs}
use Rattle.lin_texts.specs.Saying.{AreOrdered, IsAsSaid}
use Rattle.lin_texts.specs.declared.faults.OrderFault.{OrderFault}
use Rattle.lin_texts.specs.declared.parts.Division.TheVariants as division
use Rattle.lin_texts.proofs.Members.{map_more}

abbrev pub after_pairs : List SaidPair → Result (List SaidPair) ℕ → Result (List SaidPair) ℕ
after_pairs pairs (Ok more) = Ok (pairs ++ more)
after_pairs pairs (Err place) = Err place

after_pairs-more : (pairs : List SaidPair) (at : ℕ) (pair : SaidPair) (r : Result (List SaidPair) ℕ)
    → after_pairs pairs (before_pairs at (Some pair) r) ≡ after_pairs (pairs ++ pair ∷ []) r
after_pairs-more pairs at pair (Ok more) = ap Ok (sym (append_assoc pairs (pair ∷ []) more))
after_pairs-more pairs at pair (Err place) = refl

no_pairs_before : (r : Result (List SaidPair) ℕ) → r ≡ after_pairs [] r
no_pairs_before (Ok pairs) = refl
no_pairs_before (Err place) = refl

abbrev pub words : ℕ → List ℕ → List Part
words at s = filled_from division.Pairs at s

-- the pairs so far, as they are said and numbered
pub record AreRead (names : List (List ℕ)) (text : List ℕ) (from : ℕ) (order : List Placed) : Type 0 where
  pub pairs : List SaidPair
  pub within : from ≤ length text
  pub read : pairs_of (words 0 text) ≡ after_pairs pairs (pairs_of (words from (drop from text)))
  pub orders : (number : Numbering) → AgreesWith names number → order ≡ map (pair_of number) pairs

-- what was read is some pair
some_pair : (names : List (List ℕ)) (said : Option SaidPair) (pair : Placed) → IsAsSaid pair_of names said (Some pair)
    → (p : SaidPair) × (said ≡ Some p) × ((number : Numbering) → AgreesWith names number → pair ≡ pair_of number p)
some_pair names None pair is = absurd is
some_pair names (Some p) pair is = (p, refl, is)

-- one more pair was read
pub pairs_more : (old new : List (List ℕ)) (text : List ℕ) (from : ℕ) (word : Part) (order more : List Placed) (pair : Placed) → Begins old new
    → AreRead old text from order → IsFirstFilled division.Pairs text from word → IsAsSaid pair_of new (pair_written word.text) (Some pair)
    → more ≡ order ++ pair ∷ [] → AreRead new text (word.at + length word.text) more
pairs_more old new text from word order more pair begun so_far first is grown =
    let end = word.at + length word.text in
    let rest = pairs_of (words end (drop end text)) in
    let (p, said, made) = some_pair new (pair_written word.text) pair is in
    record {
      pairs = so_far.pairs ++ p ∷ [];
      within = first.3;
      read =
          so_far.read ∙ ap (λ ws. after_pairs so_far.pairs (pairs_of ws)) first.0
          ∙ ap (λ o. after_pairs so_far.pairs (before_pairs word.at o rest)) said
          ∙ after_pairs-more so_far.pairs word.at p rest;
      orders = λ number agrees.
          grown ∙ ap (λ o. o ++ pair ∷ []) (so_far.orders number (agrees_before old new number begun agrees))
          ∙ ap (λ q. map (pair_of number) so_far.pairs ++ q ∷ []) (made number agrees) ∙ sym (map_more (pair_of number) so_far.pairs p);
    }

-- what isn't the word `empty` alone is pairs
pub pairs_not_empty : (word : Part) (rest : List Part) → bytes_eq word.text (codes "empty") ≡ false → pairs_of_words (word ∷ rest) ≡ pairs_of (word ∷ rest)
pairs_not_empty word [] other = ap (λ b. cond b (Ok []) (pairs_of (word ∷ []))) other
pairs_not_empty word (next ∷ rest) other = refl

pub pairs_and_more : (word : Part) (rest : List Part) → (rest ≡ [] → ⊥) → pairs_of_words (word ∷ rest) ≡ pairs_of (word ∷ rest)
pairs_and_more word [] some = absurd (some refl)
pairs_and_more word (next ∷ rest) some = refl

-- a word was found
pub words_left : {X : Type 0} (r : Option X) (part_of : X → Part) (text : List ℕ) (from : ℕ) → is_some r ≡ true
    → MatchOption r (words from (drop from text) ≡ []) (λ x. IsFirstFilled division.Pairs text from (part_of x)) → words from (drop from text) ≡ [] → ⊥
words_left None part_of text from some found none = true≢false (sym some)
words_left (Some x) part_of text from some found none = no_word _ _ (sym none ∙ found.0)
  where
    no_word : (word : Part) (rest : List Part) → [] ≡ word ∷ rest → ⊥
    no_word word rest e = cc

-- what the pairs come to, the order does
pub order_is_pairs : {X : Type 0} (names : List (List ℕ)) (text : List ℕ) (r : Result X OrderFault) (items : X → List Placed)
    → order_written text ≡ pairs_of (words 0 text)
    → MatchResult r (λ x. AreOrdered names (pairs_of (words 0 text)) (items x)) (IsRefusedAs (pairs_of (words 0 text)))
    → MatchResult r (λ x. IsOrderBy names text (items x)) (IsRefusedAs (order_written text))
order_is_pairs names text r items same read = subst (λ pairs. MatchResult r (λ x. AreOrdered names pairs (items x)) (IsRefusedAs pairs)) (sym same) read
