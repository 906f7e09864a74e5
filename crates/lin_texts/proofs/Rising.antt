-- Lists of items that rise strictly in print and grow at their end.
use Rattle.std.proofs.Common.{◌≡◌, suc, ◌-◌, Bool, true, false, ◌&&◌, List, [], ◌∷◌, ◌++◌, length, Option, None, Some, MatchOption, All, slice_get, refl, sym, ap, ◌∙◌, Decides, arith, true≢false}
use Rattle.std.specs.List.{list_all}
use Rattle.std.proofs.lemmas.Bool.Decides.{Decides-by_and}
use Rattle.std.specs.Ordering.{is_lt}
use Rattle.std.specs.declared.cmp.Ordering.{Ordering}
use Rattle.std.specs.declared.cmp.Ordering.TheVariants.{Less, Equal, Greater}
use Rattle.lin_lists.specs.Sets.{IsRising}
use Rattle.lin_names.specs.Spelled.{Spelled, seen, spelled_cmp}
use Rattle.lin_names.specs.declared.said.Said.{Said}
use Rattle.lin_names.specs.lemmas.Printed.{spelled_total}
use Rattle.lin_texts.specs.Orders.{is_below, is_rising}

both : (a b : Bool) → a && b ≡ true → (a ≡ true) × (b ≡ true)
both true b h = (refl, h)
both false b h = absurd (true≢false (sym h))

and_false : (b : Bool) → b && false ≡ false
and_false true = refl
and_false false = refl

less_of : (o : Ordering) → is_lt o ≡ true → o ≡ Less
less_of Less h = refl
less_of Equal h = absurd (true≢false (sym h))
less_of Greater h = absurd (true≢false (sym h))

below_below : (a b c : Spelled) → is_below a b ≡ true → is_below b c ≡ true → is_below a c ≡ true
below_below a b c h k = ap is_lt (spelled_total.trans a b c (less_of (spelled_cmp a b) h) (less_of (spelled_cmp b c) k))

all_above : (a b : Spelled) (ys : List Spelled) → is_below a b ≡ true → list_all (is_below b) ys ≡ true → list_all (is_below a) ys ≡ true
all_above a b [] less above = refl
all_above a b (y ∷ ys) less above =
    let parts = both (is_below b y) (list_all (is_below b) ys) above in
    ap (λ t. t && list_all (is_below a) ys) (below_below a b y less parts.0) ∙ all_above a b ys less parts.1

-- what decides whether a rising list goes on rising is its last item
rising_more : (xs : List Spelled) (last y : Spelled) → is_rising xs ≡ true → slice_get xs (length xs - 1) ≡ Some last
    → is_rising (xs ++ y ∷ []) ≡ is_below last y
rising_more [] last y rises at = absurd (cc)
rising_more (x ∷ []) last y rises at =
    let same : x ≡ last = cc in
    ap (λ z. (is_below z y && true) && true) same ∙ by (is_below last y)
  where
    by : (b : Bool) → (b && true) && true ≡ b
    by true = refl
    by false = refl
rising_more (x ∷ w ∷ xs) last y rises at =
    let rest = both (list_all (is_below x) (w ∷ xs)) (is_rising (w ∷ xs)) rises in
    let first = both (is_below x w) (list_all (is_below x) xs) rest.0 in
    let here : length (x ∷ w ∷ xs) - 1 ≡ suc (length (w ∷ xs) - 1) = omega arith in
    let more = rising_more (w ∷ xs) last y rest.1 (ap (slice_get (x ∷ w ∷ xs)) (sym here) ∙ at) in
    by (is_below last y) first.0 more
  where
    by : (b : Bool) → is_below x w ≡ true → is_rising ((w ∷ xs) ++ y ∷ []) ≡ b
        → list_all (is_below x) ((w ∷ xs) ++ y ∷ []) && is_rising ((w ∷ xs) ++ y ∷ []) ≡ b
    by true less more =
        let above = both (list_all (is_below w) (xs ++ y ∷ [])) (is_rising (xs ++ y ∷ [])) more in
        ap (λ t. (is_below x w && list_all (is_below x) (xs ++ y ∷ [])) && t) more
        ∙ ap (λ t. (is_below x w && t) && true) (all_above x w (xs ++ y ∷ []) less above.0) ∙ ap (λ t. (t && true) && true) less
    by false less more =
        ap (λ t. list_all (is_below x) ((w ∷ xs) ++ y ∷ []) && t) more ∙ and_false (list_all (is_below x) ((w ∷ xs) ++ y ∷ []))

-- what is said last
abbrev pub IsLast : Option Said → List Spelled → Type 0
IsLast last saids = MatchOption last (saids ≡ []) (λ (s : Said). slice_get saids (length saids - 1) ≡ Some (seen s))

last_of : (xs : List Spelled) (y : Spelled) → slice_get (xs ++ y ∷ []) (length (xs ++ y ∷ []) - 1) ≡ Some y
last_of [] y = refl
last_of (x ∷ []) y = refl
last_of (x ∷ w ∷ xs) y =
    let here : length (x ∷ w ∷ xs ++ y ∷ []) - 1 ≡ suc (length (w ∷ xs ++ y ∷ []) - 1) = omega arith in
    ap (slice_get (x ∷ w ∷ xs ++ y ∷ [])) here ∙ last_of (w ∷ xs) y

pub is_last : (xs : List Spelled) (s : Said) → IsLast (Some s) (xs ++ seen s ∷ [])
is_last xs s = last_of xs (seen s)

-- what is above the last goes on rising, and nothing else
pub rises_on : (last : Option Said) (xs : List Spelled) (y : Spelled) (above : Bool) → IsLast last xs → is_rising xs ≡ true
    → MatchOption last (above ≡ true) (λ (s : Said). is_below (seen s) y ≡ above) → is_rising (xs ++ y ∷ []) ≡ above
rises_on None [] y above none rises is = sym is
rises_on None (x ∷ xs) y above none rises is = absurd (cc)
rises_on (Some s) xs y above at rises is = rising_more xs (seen s) y rises at ∙ is

front_all : (p : Spelled → Bool) (xs ys : List Spelled) → list_all p xs ≡ false → list_all p (xs ++ ys) ≡ false
front_all p [] ys h = absurd (true≢false h)
front_all p (x ∷ xs) ys h = by (p x) h (front_all p xs ys)
  where
    by : (b : Bool) → b && list_all p xs ≡ false → (list_all p xs ≡ false → list_all p (xs ++ ys) ≡ false) → b && list_all p (xs ++ ys) ≡ false
    by true e rest = rest e
    by false e rest = refl

-- a list that begins with one that does not rise does not rise
pub rising_front : (xs ys : List Spelled) → is_rising xs ≡ false → is_rising (xs ++ ys) ≡ false
rising_front [] ys h = absurd (true≢false h)
rising_front (x ∷ xs) ys h = by (list_all (is_below x) xs) (λ e. e) h (rising_front xs ys)
  where
    by : (b : Bool) → (b ≡ false → list_all (is_below x) xs ≡ false) → b && is_rising xs ≡ false
        → (is_rising xs ≡ false → is_rising (xs ++ ys) ≡ false) → list_all (is_below x) (xs ++ ys) && is_rising (xs ++ ys) ≡ false
    by true first falls rest = ap (λ t. list_all (is_below x) (xs ++ ys) && t) (rest falls) ∙ and_false (list_all (is_below x) (xs ++ ys))
    by false first falls rest = ap (λ t. t && is_rising (xs ++ ys)) (front_all (is_below x) xs ys (first refl))

-- whether all items of a list are above one
pub above_all : (x : Spelled) (xs : List Spelled) → Decides (list_all (is_below x) xs) (All (λ y. spelled_cmp x y ≡ Less) xs)
above_all x xs = Decides-by_and (is_below x) (λ y. spelled_cmp x y ≡ Less) (list_all (is_below x)) (λ y. (less_of (spelled_cmp x y), λ less. ap is_lt less)) refl (λ _ _. refl) xs

pub is_rising_of : (xs : List Spelled) → IsRising spelled_cmp xs → is_rising xs ≡ true
is_rising_of [] rises = refl
is_rising_of (x ∷ xs) rises = ap (λ b. b && is_rising xs) ((above_all x xs).1 rises.0) ∙ is_rising_of xs rises.1
