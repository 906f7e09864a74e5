-- Usual maps: the values that their bytes spell.
use Rattle.std.proofs.Common.{◌≡◌, ℕ, suc, ℤ, ◌+◌, ◌<◌, Bool, true, false, List, [], ◌∷◌, ◌++◌, Option, Some, None, codes, drop, drop-cons, length, get_or, option_map, append-nil, append_assoc, refl, sym, ap, subst, ◌∙◌, arith, if◌then◌else◌}
use Rattle.std.specs.Str.{bytes_eq}
use Rattle.lin_bytes.specs.Bytes.{Class, class, opener, hash, behind, opens_set, a_vector, a_set, a_map}
use Rattle.lin_edn.specs.Grammar.{One, one, Element, Opens, collection, bracket, set_bracket, Row, empty, element}
use Rattle.lin_edn.specs.Run.{run_value, of_number, is_keyword, integer}
use Rattle.lin_edn.specs.Value.{Value, nil, bool, keyword, atom, vector, map, values_of, entry, entries_of, pairs_from}
use Rattle.lin_history.specs.Table.{bare, is_word, here, under}
use Rattle.lin_history.specs.inner.Usual.{in_turn, IsPlaced, IsPut, IsAdded, IsValueAt, IsUpTo, IsMapAt}
use Rattle.lin_history.specs.declared.usual.Extent.{Extent}
use Rattle.lin_history.specs.declared.usual.ValueExtents.{ValueExtents}

-- no run is a tagged element
bare_if : (b : Bool) (v w : Value) → bare v ≡ v → bare w ≡ w → bare (if b then v else w) ≡ (if b then v else w)
bare_if true v w h i = h
bare_if false v w h i = i

bare_number : (p : ℕ) (w : List ℕ) (z : Option ℤ) → bare (of_number p w z) ≡ of_number p w z
bare_number p w (Some z) = refl
bare_number p w None = bare_if (is_keyword w) (keyword p w) (atom p w) refl refl

pub bare_run : (p : ℕ) (w : List ℕ) → bare (run_value p w) ≡ run_value p w
bare_run p w =
    bare_if (bytes_eq w (codes "nil")) nil _ refl (bare_if (bytes_eq w (codes "true")) (bool true) _ refl
    (bare_if (bytes_eq w (codes "false")) (bool false) _ refl (bare_number p w (integer w))))

-- a run is only the word that it is
other_if : (x : List ℕ) (b : Bool) (v w : Value) → is_word x v ≡ false → is_word x w ≡ false → is_word x (if b then v else w) ≡ false
other_if x true v w h i = h
other_if x false v w h i = i

other_number : (x : List ℕ) (p : ℕ) (w : List ℕ) (z : Option ℤ) → bytes_eq w x ≡ false → is_word x (of_number p w z) ≡ false
other_number x p w (Some z) h = refl
other_number x p w None h = other_if x (is_keyword w) (keyword p w) (atom p w) h refl

other_word : (x : List ℕ) (p : ℕ) (w : List ℕ) → bytes_eq w x ≡ false → is_word x (run_value p w) ≡ false
other_word x p w h =
    other_if x (bytes_eq w (codes "nil")) nil _ refl (other_if x (bytes_eq w (codes "true")) (bool true) _ refl
    (other_if x (bytes_eq w (codes "false")) (bool false) _ refl (other_number x p w (integer w) h)))

-- a key that is none of the four
none_put : (x : List ℕ) (p : ℕ) (w : List ℕ) (old : Option Extent) (at : Extent) → bytes_eq w x ≡ false → IsPut (is_word x (run_value p w)) old at old
none_put x p w old at h = subst (λ b. IsPut b old at old) (sym (other_word x p w h)) refl

pub none_added : (ps : ValueExtents) (p : ℕ) (w : List ℕ) (at : Extent) → bytes_eq w (codes ":process") ≡ false → bytes_eq w (codes ":type") ≡ false →
    bytes_eq w (codes ":f") ≡ false → bytes_eq w (codes ":value") ≡ false → IsAdded ps (run_value p w) at ps
none_added ps p w at a b c d = record {
  process = none_put (codes ":process") p w ps.process at a;
  types = none_put (codes ":type") p w ps.event_type at b;
  function = none_put (codes ":f") p w ps.function at c;
  values = none_put (codes ":value") p w ps.value at d;
}

-- one byte of a text
pub at_byte : (s : List ℕ) (i : ℕ) → i < length s → drop i s ≡ get_or s i 0 ∷ drop (i + 1) s
at_byte s i lt = let e : suc i ≡ i + 1 = omega arith in drop-cons s i 0 lt ∙ ap (λ k. get_or s i 0 ∷ drop k s) e

pub one_at : (s : List ℕ) (i : ℕ) (k : Class) → i < length s → class (get_or s i 0) ≡ k → One k i (drop i s) (get_or s i 0 ∷ []) (i + 1) (drop (i + 1) s)
one_at s i k lt h = subst (λ l. One k i l (get_or s i 0 ∷ []) (i + 1) (drop (i + 1) s)) (sym (at_byte s i lt)) (one h)

-- what opens a vector or a set
opens_vector : (c : ℕ) → c ≡ 91 → class c ≡ opener a_vector
opens_vector c h = rw h refl

hashes : (c : ℕ) → c ≡ 35 → class c ≡ hash
hashes c h = rw h refl

set_behind : (c : ℕ) → c ≡ 123 → behind c ≡ opens_set
set_behind c h = rw h refl

pub vector_opens : (s : List ℕ) (from : ℕ) → from < length s → get_or s from 0 ≡ 91 → Opens a_vector from (drop from s) (from + 1) (drop (from + 1) s)
vector_opens s from lt h = bracket (one_at s from (opener a_vector) lt (opens_vector (get_or s from 0) h))

pub set_opens : (s : List ℕ) (from : ℕ) → from + 1 < length s → get_or s from 0 ≡ 35 → get_or s (from + 1) 0 ≡ 123 →
    Opens a_set from (drop from s) (from + 2) (drop (from + 2) s)
set_opens s from lt h b =
    let place : from + 1 + 1 ≡ from + 2 = omega arith in
    let first : One hash from (drop from s) (get_or s from 0 ∷ []) (from + 1) (get_or s (from + 1) 0 ∷ drop (from + 1 + 1) s) =
    subst (λ l. One hash from (drop from s) (get_or s from 0 ∷ []) (from + 1) l) (at_byte s (from + 1) lt) (one_at s from hash (omega arith) (hashes (get_or s from 0) h)) in
    subst (λ i. Opens a_set from (drop from s) i (drop i s)) place (set_bracket first (set_behind (get_or s (from + 1) 0) b))

-- values in it
pub row_ends : (s : List ℕ) (levels inner at c : ℕ) (vs : List Value) → Row levels inner (drop inner s) vs at (drop at s) → at < length s → get_or s at 0 ≡ c →
    Row levels inner (drop inner s) vs at (c ∷ drop (at + 1) s)
row_ends s levels inner at c vs row lt h = subst (Row levels inner (drop inner s) vs at) (at_byte s at lt ∙ ap (λ b. b ∷ drop (at + 1) s) h) row

-- the vector of two
pub two_in : (s : List ℕ) (from last levels : ℕ) (v w : Value) → Opens a_vector from (drop from s) (from + 1) (drop (from + 1) s) →
    Row levels (from + 1) (drop (from + 1) s) (v ∷ w ∷ []) last (drop last s) → last < length s → get_or s last 0 ≡ 93 →
    Element (suc levels) from (drop from s) (vector (values_of (v ∷ w ∷ []))) (last + 1) (drop (last + 1) s)
two_in s from last levels v w opens row lt h = collection opens (row_ends s levels (from + 1) last 93 (v ∷ w ∷ []) row lt h) refl

-- keys and values in turn
turn_more : (es : List (Value × Value)) (k v : Value) → (in_turn es ++ k ∷ []) ++ v ∷ [] ≡ in_turn (es ++ (k, v) ∷ [])
turn_more [] k v = refl
turn_more (e ∷ es) k v = ap (λ l. e.0 ∷ e.1 ∷ l) (turn_more es k v)

turn_pairs : (es : List (Value × Value)) → pairs_from None (in_turn es) ≡ Some (entries_of es)
turn_pairs [] = refl
turn_pairs (e ∷ es) = ap (option_map (entry e.0 e.1)) (turn_pairs es)

-- an entry more
under_more : (x : List ℕ) (es : List (Value × Value)) (k v : Value) → under x (entries_of (es ++ (k, v) ∷ [])) ≡ under x (entries_of es) ++ here x k v
under_more x [] k v = append-nil (here x k v)
under_more x (e ∷ es) k v = ap (λ l. here x e.0 e.1 ++ l) (under_more x es k v) ∙ sym (append_assoc (here x e.0 e.1) (under x (entries_of es)) (here x k v))

placed_more : (s : List ℕ) (levels : ℕ) (vs : List Value) (b : Bool) (old new : Option Extent) (p : Extent) (v : Value) (used : ℕ) → IsPut b old p new → IsPlaced s levels vs old →
    IsValueAt s levels p v used → IsPlaced s levels (vs ++ (if b then bare v ∷ [] else [])) new
placed_more s levels vs true old new p v used put placed here =
    let none : vs ≡ [] = subst (IsPlaced s levels vs) put.0 placed in
    subst (IsPlaced s levels (vs ++ bare v ∷ [])) (sym put.1) (v, used, ap (λ l. l ++ bare v ∷ []) none, here)
placed_more s levels vs false old new p v used put placed here =
    subst (IsPlaced s levels (vs ++ [])) (sym put) (subst (λ l. IsPlaced s levels l old) (sym (append-nil vs)) placed)

under_placed : (s : List ℕ) (levels : ℕ) (x : List ℕ) (es : List (Value × Value)) (k v : Value) (old new : Option Extent) (p : Extent) (used : ℕ) → IsPut (is_word x k) old p new →
    IsPlaced s levels (under x (entries_of es)) old → IsValueAt s levels p v used → IsPlaced s levels (under x (entries_of (es ++ (k, v) ∷ []))) new
under_placed s levels x es k v old new p used put placed here =
    subst (λ l. IsPlaced s levels l new) (sym (under_more x es k v)) (placed_more s levels (under x (entries_of es)) (is_word x k) old new p v used put placed here)

-- the row of an entry more
row_more : (s : List ℕ) (start from at used levels : ℕ) (es : List (Value × Value)) (k v : Value) →
    Row levels (start + 1) (drop (start + 1) s) (in_turn es) from (drop from s) →
    ((n o : ℕ) (t : List ℕ) (vs : List Value) → Row n o t vs from (drop from s) → Row n o t (vs ++ k ∷ []) at (drop at s)) →
    Element levels at (drop at s) v used (drop used s) → Row levels (start + 1) (drop (start + 1) s) (in_turn (es ++ (k, v) ∷ [])) used (drop used s)
row_more s start from at used levels es k v row front here =
    subst (λ l. Row levels (start + 1) (drop (start + 1) s) l used (drop used s)) (turn_more es k v)
    (element (front levels (start + 1) (drop (start + 1) s) (in_turn es) row) here)

-- an entry whose key comes next, with blanks round it
pub entry_behind : (s : List ℕ) (start from at used levels : ℕ) (p : Extent) (k v : Value) (old new : ValueExtents) → p.at ≡ at → IsUpTo s start levels from old →
    ((n o : ℕ) (t : List ℕ) (vs : List Value) → Row n o t vs from (drop from s) → Row n o t (vs ++ k ∷ []) at (drop at s)) →
    IsValueAt s levels p v used → IsAdded old k p new → IsUpTo s start levels used new
entry_behind s start from at used levels p k v old new there upto front here added =
    let es = upto.0 in
    let are = upto.1 in (
      es ++ (k, v) ∷ [],
      record {
        process = under_placed s levels (codes ":process") es k v old.process new.process p used added.process are.process here;
        types = under_placed s levels (codes ":type") es k v old.event_type new.event_type p used added.types are.types here;
        function = under_placed s levels (codes ":f") es k v old.function new.function p used added.function are.function here;
        values = under_placed s levels (codes ":value") es k v old.value new.value p used added.values are.values here;
      },
      row_more s start from at used levels es k v upto.2 front (subst (λ i. Element levels i (drop i s) v used (drop used s)) there here.0),
    )

pub entry_more : (s : List ℕ) (start from until at used levels : ℕ) (p : Extent) (k v : Value) (old new : ValueExtents) → p.at ≡ at → IsUpTo s start levels from old →
    ((n : ℕ) → Element n from (drop from s) k until (drop until s)) →
    ((n p : ℕ) (t : List ℕ) (vs : List Value) → Row n p t vs until (drop until s) → Row n p t vs at (drop at s)) →
    IsValueAt s levels p v used → IsAdded old k p new → IsUpTo s start levels used new
entry_more s start from until at used levels p k v old new there upto key whites here added =
    entry_behind s start from at used levels p k v old new there upto (λ n o t vs row. whites n o t (vs ++ k ∷ []) (element row (key n))) here added

-- blanks more
pub blanks_more : (s : List ℕ) (start from at levels : ℕ) (ps : ValueExtents) → IsUpTo s start levels from ps →
    ((n p : ℕ) (t : List ℕ) (vs : List Value) → Row n p t vs from (drop from s) → Row n p t vs at (drop at s)) → IsUpTo s start levels at ps
blanks_more s start from at levels ps upto whites = (upto.0, upto.1, whites levels (start + 1) (drop (start + 1) s) (in_turn upto.0) upto.2)

-- before the first entry
pub none_yet : (s : List ℕ) (start levels : ℕ) → IsUpTo s start levels (start + 1) (record { process = None; event_type = None; function = None; value = None })
none_yet s start levels = ([], record { process = refl; types = refl; function = refl; values = refl }, empty)

opens_map : (c : ℕ) → c ≡ 123 → class c ≡ opener a_map
opens_map c h = rw h refl

-- behind the last entry
pub map_closed : (s : List ℕ) (from at levels : ℕ) (ps : ValueExtents) → from < length s → get_or s from 0 ≡ 123 → at < length s → get_or s at 0 ≡ 125 →
    IsUpTo s from levels at ps → IsMapAt s from levels ps (at + 1)
map_closed s from at levels ps lt begins inside ends upto = (
  entries_of upto.0,
  upto.1,
  collection (bracket (one_at s from (opener a_map) lt (opens_map (get_or s from 0) begins)))
      (subst (λ l. Row levels (from + 1) (drop (from + 1) s) (in_turn upto.0) at l) (at_byte s at inside ∙ ap (λ c. c ∷ drop (at + 1) s) ends) upto.2)
      (ap (option_map map) (turn_pairs upto.0)),
)
