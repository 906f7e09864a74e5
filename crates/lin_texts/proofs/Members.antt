-- The members between braces that were read, and those that are left.
use Rattle.std.proofs.Common.{◌≡◌, ℕ, suc, ◌+◌, ◌<◌, ◌≤◌, cond, drop-cons, true, false, List, [], ◌∷◌, ◌++◌, Option, Some, None, length, drop, option_map, refl, sym, ap, ◌∙◌, append_assoc, append-nil, arith, ne_eqb, map, subst}
use Rattle.lin_events.specs.declared.items.Item.{Item}
use Rattle.lin_names.specs.Names.{AgreesWith, Begins, Numbering}
use Rattle.lin_names.specs.Spelled.{Spelled, numbered}
use Rattle.lin_names.specs.declared.said.Said.{Said}
use Rattle.lin_names.specs.lemmas.Begins.{agrees_before}
use Rattle.lin_texts.specs.Items.{item_written}
use Rattle.lin_texts.specs.Parts.{Part, parts_from, parts_behind}
use Rattle.lin_texts.specs.Orders.{is_rising, only_rising, before_all, items_of, members_written}
use Rattle.lin_texts.specs.Saying.{IsAsSaid}
use Rattle.lin_texts.specs.declared.parts.Division.TheVariants as division
use Rattle.lin_texts.proofs.Rising.{rising_front, IsLast}

-- the members before those that are left, where each is an item
abbrev pub after_members : List Spelled → Option (List Spelled) → Option (List Spelled)
after_members members more = option_map (λ (xs : List Spelled). members ++ xs) more

after_members-more : (members : List Spelled) (x : Spelled) (r : Option (List Spelled))
    → after_members members (before_all (Some x) r) ≡ after_members (members ++ x ∷ []) r
after_members-more members x None = refl
after_members-more members x (Some xs) = ap Some (sym (append_assoc members (x ∷ []) xs))

-- what is said within something else
pub said_within : {S X T Y : Type 0} (made : Numbering → S → X) (whole : Numbering → T → Y) (f : S → T) (g : X → Y)
    → ((number : Numbering) (s : S) → g (made number s) ≡ whole number (f s))
    → (names : List (List ℕ)) (said : Option S) (read : Option X) → IsAsSaid made names said read → IsAsSaid whole names (option_map f said) (option_map g read)
said_within made whole f g same names None None is = tt
said_within made whole f g same names None (Some x) is = is
said_within made whole f g same names (Some s) None is = is
said_within made whole f g same names (Some s) (Some x) is = λ number agrees. ap g (is number agrees) ∙ same number s

-- what the parts from a place on decide
pub record Reads (text : List ℕ) (from : ℕ) (saids : List Spelled) : Type 0 where
  pub some : 0 < length text
  pub within : from ≤ length text
  pub rising : is_rising saids ≡ true
  pub read : items_of (parts_from division.Members 0 text) ≡ after_members saids (items_of (parts_from division.Members from (drop from text)))

-- the items are these, by each numbering that agrees with the names
abbrev pub AreNumbered : List (List ℕ) → List Item → List Spelled → Type 0
AreNumbered names items saids = (number : Numbering) → AgreesWith names number → items ≡ map (numbered number) saids

-- the members so far, as they are said and numbered
pub record AreRead (names : List (List ℕ)) (text : List ℕ) (from : ℕ) (last : Option Said) (members : List Item) : Type 0 where
  pub saids : List Spelled
  pub reads : Reads text from saids
  pub ends : IsLast last saids
  pub numbers : AreNumbered names members saids

pub map_more : {X Y : Type 0} (f : X → Y) (xs : List X) (x : X) → map f (xs ++ x ∷ []) ≡ map f xs ++ f x ∷ []
map_more f [] x = refl
map_more f (y ∷ xs) x = ap (λ ys. f y ∷ ys) (map_more f xs x)

-- one more item was numbered
pub numbered_more : (old new : List (List ℕ)) (items more : List Item) (saids : List Spelled) (x : Item) (s : Spelled) → Begins old new
    → AreNumbered old items saids → ((number : Numbering) → AgreesWith new number → x ≡ numbered number s) → more ≡ items ++ x ∷ []
    → AreNumbered new more (saids ++ s ∷ [])
numbered_more old new items more saids x s begun so_far is grown = λ number agrees.
    grown ∙ ap (λ xs. xs ++ x ∷ []) (so_far number (agrees_before old new number begun agrees))
    ∙ ap (λ y. map (numbered number) saids ++ y ∷ []) (is number agrees) ∙ sym (map_more (numbered number) saids s)

pub none_said : {S X : Type 0} (made : Numbering → S → X) (names : List (List ℕ)) (said : Option S) → None ≡ said → IsAsSaid made names said None
none_said made names said none = subst (λ s. IsAsSaid made names s None) none tt

pub some_said : {S X : Type 0} (made : Numbering → S → X) (names : List (List ℕ)) (said : Option S) (s : S) (x : X) → Some s ≡ said
    → ((number : Numbering) → AgreesWith names number → x ≡ made number s) → IsAsSaid made names said (Some x)
some_said made names said s x is made_so = subst (λ o. IsAsSaid made names o (Some x)) is made_so

whole : (text : List ℕ) → 0 < length text → members_written text ≡ only_rising (items_of (parts_from division.Members 0 text))
whole text some =
    ap (λ b. cond b (Some []) (only_rising (items_of (parts_from division.Members 0 text))))
    (ne_eqb (length text) 0 (λ (e : length text ≡ 0). absurd (omega arith)))

not_rising : (members : List Spelled) (r : Option (List Spelled)) → is_rising members ≡ false → only_rising (after_members members r) ≡ None
not_rising members None falls = refl
not_rising members (Some xs) falls =
    ap (λ b. cond b (Some (members ++ xs)) None) (rising_front members xs falls)

reads_one : (text : List ℕ) (from end : ℕ) (members : List Spelled) (part : Part) (x : Spelled) → Reads text from members
    → parts_from division.Members from (drop from text) ≡ part ∷ parts_behind division.Members end (drop end text)
    → Some x ≡ item_written part.text
    → items_of (parts_from division.Members 0 text) ≡ after_members (members ++ x ∷ []) (items_of (parts_behind division.Members end (drop end text)))
reads_one text from end members part x so_far parts is =
    let rest = items_of (parts_behind division.Members end (drop end text)) in
    so_far.read ∙ ap (λ ps. after_members members (items_of ps)) parts
    ∙ ap (λ p. after_members members (before_all p rest)) (sym is) ∙ after_members-more members x rest

-- an item that is not above the ones before it
pub members_fall : (text : List ℕ) (from end : ℕ) (members : List Spelled) (part : Part) (x : Spelled) → Reads text from members
    → parts_from division.Members from (drop from text) ≡ part ∷ parts_behind division.Members end (drop end text)
    → Some x ≡ item_written part.text → is_rising (members ++ x ∷ []) ≡ false → None ≡ members_written text
members_fall text from end members part x so_far parts is falls =
    sym (whole text so_far.some ∙ ap only_rising (reads_one text from end members part x so_far parts is)
    ∙ not_rising (members ++ x ∷ []) _ falls)

-- the last item
pub members_end : (text : List ℕ) (from end : ℕ) (members : List Spelled) (part : Part) (x : Spelled) → Reads text from members
    → parts_from division.Members from (drop from text) ≡ part ∷ parts_behind division.Members end (drop end text)
    → Some x ≡ item_written part.text → is_rising (members ++ x ∷ []) ≡ true → drop end text ≡ []
    → Some (members ++ x ∷ []) ≡ members_written text
members_end text from end members part x so_far parts is rises none =
    let new = members ++ x ∷ [] in
    sym (whole text so_far.some ∙ ap only_rising (reads_one text from end members part x so_far parts is)
    ∙ ap (λ s. only_rising (after_members new (items_of (parts_behind division.Members end s)))) none
    ∙ ap (λ xs. only_rising (Some xs)) (append-nil new)
    ∙ ap (λ b. cond b (Some new) None) rises)

-- one more item
pub members_more : (text : List ℕ) (from end next : ℕ) (members new : List Spelled) (part : Part) (x : Spelled) → Reads text from members
    → parts_from division.Members from (drop from text) ≡ part ∷ parts_behind division.Members end (drop end text)
    → Some x ≡ item_written part.text → new ≡ members ++ x ∷ [] → is_rising new ≡ true → end < length text → next ≡ end + 1
    → Reads text next new
members_more text from end next members new part x so_far parts is grown rises inside place = record {
  some = so_far.some;
  within = omega arith;
  rising = rises;
  read =
      let after : suc end ≡ next = omega arith in
      let rest : parts_behind division.Members end (drop end text) ≡ parts_from division.Members next (drop next text) =
      ap (parts_behind division.Members end) (drop-cons text end 0 inside) ∙ ap (λ k. parts_from division.Members k (drop k text)) after in
      reads_one text from end members part x so_far parts is
      ∙ ap (λ xs. after_members xs (items_of (parts_behind division.Members end (drop end text)))) (sym grown)
      ∙ ap (λ ps. after_members new (items_of ps)) rest;
}
