-- Collections that are found in place, in words of the grammar.
use Rattle.std.proofs.Common.{◌≡◌, ℕ, suc, ◌+◌, ◌-◌, ◌<◌, ◌≤◌, Bool, true, false, ◌&&◌, ◌==◌, List, [], ◌∷◌, ◌++◌, length, drop, get_or, Option, Some, None, refl, sym, ap, subst, arith, ◌∙◌, true≢false}
use Rattle.std.specs.Option.{is_some}
use Rattle.lin_bytes.specs.Bytes.{Kind, a_list, a_vector, a_set, a_map, class, opener, hash, behind, opens_set, closing}
use Rattle.lin_edn.specs.Grammar.{One, Opens, bracket, set_bracket, Element, collection, Row, empty, element}
use Rattle.lin_edn.specs.Scans.{IsStopAt, is_dark}
use Rattle.lin_edn.specs.Simple.{IsSimple, FindsSimple}
use Rattle.lin_edn.specs.Skimming.{Shape, brackets}
use Rattle.lin_edn.specs.inner.Skimming.{closes, grown}
use Rattle.lin_edn.specs.Value.{Value, made}
use Rattle.lin_edn.proofs.Ahead.{at_byte, opens_map}
use Rattle.lin_edn.proofs.Filling.{IsLeft, none_left_out, more_left, none_there, none_behind}
use Rattle.lin_edn.proofs.Fronts.{made_grown, made_empty}
use Rattle.lin_edn.proofs.Standing.{one_at, hashes}
use Rattle.lin_edn.proofs.Limit.{same_number}

opens_vector : (c : ℕ) → c ≡ 91 → class c ≡ opener a_vector
opens_vector c h = rw h refl

opens_list : (c : ℕ) → c ≡ 40 → class c ≡ opener a_list
opens_list c h = rw h refl

set_behind : (c : ℕ) → c ≡ 123 → behind c ≡ opens_set
set_behind c h = rw h refl

pub vector_opens : (s : List ℕ) (from : ℕ) → from < length s → get_or s from 0 ≡ 91 → Opens a_vector from (drop from s) (from + 1) (drop (from + 1) s)
vector_opens s from lt h = bracket (one_at s from (opener a_vector) lt (opens_vector (get_or s from 0) h))

pub list_opens : (s : List ℕ) (from : ℕ) → from < length s → get_or s from 0 ≡ 40 → Opens a_list from (drop from s) (from + 1) (drop (from + 1) s)
list_opens s from lt h = bracket (one_at s from (opener a_list) lt (opens_list (get_or s from 0) h))

pub set_opens : (s : List ℕ) (from : ℕ) → from + 1 < length s → get_or s from 0 ≡ 35 → get_or s (from + 1) 0 ≡ 123 →
    Opens a_set from (drop from s) (from + 2) (drop (from + 2) s)
set_opens s from lt h b =
    let place : from + 1 + 1 ≡ from + 2 = omega arith in
    let first : One hash from (drop from s) (get_or s from 0 ∷ []) (from + 1) (get_or s (from + 1) 0 ∷ drop (from + 1 + 1) s) =
    subst (λ l. One hash from (drop from s) (get_or s from 0 ∷ []) (from + 1) l) (at_byte s (from + 1) lt) (one_at s from hash (omega arith) (hashes (get_or s from 0) h)) in
    subst (λ i. Opens a_set from (drop from s) i (drop i s)) place (set_bracket first (set_behind (get_or s (from + 1) 0) b))

pub map_opens : (s : List ℕ) (from : ℕ) → from < length s → get_or s from 0 ≡ 123 → Opens a_map from (drop from s) (from + 1) (drop (from + 1) s)
map_opens s from lt h = bracket (one_at s from (opener a_map) lt (opens_map (get_or s from 0) h))

-- values stand in a collection up to a place, whether it can be closed there, and what is still to come
abbrev pub IsFilled : List ℕ → ℕ → ℕ → ℕ → ℕ → Shape → ℕ → Type 0
IsFilled s from inner end levels shape at = (k : Kind) × (vs : List Value) × Opens k from (drop from s) inner (drop inner s)
    × Row levels inner (drop inner s) vs at (drop at s) × (shape ≡ brackets k (is_some (made k vs)))
    × IsLeft s from end levels k vs at

pub none_filled : (s : List ℕ) (from inner end levels at : ℕ) (shape : Shape) (k : Kind) → Opens k from (drop from s) inner (drop inner s) → shape ≡ brackets k true →
    ((n p : ℕ) (t : List ℕ) (vs : List Value) → Row n p t vs inner (drop inner s) → Row n p t vs at (drop at s)) → IsStopAt is_dark s inner end at →
    IsFilled s from inner end levels shape at
none_filled s from inner end levels at shape k opens is whites all = (
  k,
  [],
  opens,
  whites levels inner (drop inner s) [] empty,
  is ∙ ap (brackets k) (sym (made_empty k)),
  none_left_out s from inner at end levels k opens all,
)

pub more_filled : (s : List ℕ) (from inner end levels at used next : ℕ) (shape more : Shape) (v : Value) → from < at → IsFilled s from inner end levels shape at →
    ((k : Kind) (b : Bool) → shape ≡ brackets k b → more ≡ brackets k (grown k b)) → Element levels at (drop at s) v used (drop used s) →
    ((n p : ℕ) (t : List ℕ) (vs : List Value) → Row n p t vs used (drop used s) → Row n p t vs next (drop next s)) → is_dark (get_or s at 0) ≡ true → closes shape (get_or s at 0) ≡ false →
    IsStopAt is_dark s used end next → IsFilled s from inner end levels more next
more_filled s from inner end levels at used next shape more v begun filled grows e whites dark unclosed all =
    let k = filled.0 in
    let vs = filled.1 in (
      k,
      vs ++ v ∷ [],
      filled.2,
      whites levels inner (drop inner s) (vs ++ v ∷ []) (element filled.3 e),
      grows k (is_some (made k vs)) filled.4 ∙ ap (brackets k) (sym (made_grown k vs v)),
      more_left s from end levels at used next k vs v filled.5 begun dark (ap (λ l. closes l (get_or s at 0)) (sym filled.4) ∙ unclosed) e all,
    )

both : (a b : Bool) → (a && b) ≡ true → (a ≡ true) × (b ≡ true)
both true true h = (refl, refl)
both true false h = absurd (true≢false (sym h))
both false b h = absurd (true≢false (sym h))

there : (o : Option Value) → is_some o ≡ true → (v : Value) × (o ≡ Some v)
there (Some v) h = (v, refl)
there None h = absurd (true≢false (sym h))

-- behind its last value it is closed
pub closed_here : (s : List ℕ) (from inner end levels at : ℕ) (shape : Shape) → 0 < levels → IsFilled s from inner end (levels - 1) shape at → at < length s →
    closes shape (get_or s at 0) ≡ true → (v : Value) × Element levels from (drop from s) v (at + 1) (drop (at + 1) s)
closed_here s from inner end levels at shape room filled inside ends =
    let k = filled.0 in
    let vs = filled.1 in
    let can = both (closing k == get_or s at 0) (is_some (made k vs)) (ap (λ l. closes l (get_or s at 0)) (sym filled.4) ∙ ends) in
    let byte : get_or s at 0 ≡ closing k = sym (same_number (closing k) (get_or s at 0) can.0) in
    let whole = there (made k vs) can.1 in
    let one_less : suc (levels - 1) ≡ levels = omega arith in (
      whole.0,
      subst (λ n. Element n from (drop from s) whole.0 (at + 1) (drop (at + 1) s)) one_less
          (collection filled.2 (subst (λ l. Row (levels - 1) inner (drop inner s) vs at l) (at_byte s at inside ∙ ap (λ c. c ∷ drop (at + 1) s) byte) filled.3) whole.1),
    )

-- no collection of simple bytes stands where no more of it is found
abbrev pub StandsNone : List ℕ → ℕ → ℕ → ℕ → Type 0
StandsNone s from end levels = (v : Value) (used : ℕ) → levels ≤ 64 → Element levels from (drop from s) v used (drop used s) → IsSimple s from used → used < end → ⊥

at_levels : (s : List ℕ) (from end levels : ℕ) → 0 < levels → StandsNone s from end (suc (levels - 1)) → StandsNone s from end levels
at_levels s from end levels room h = let e : suc (levels - 1) ≡ levels = omega arith in subst (StandsNone s from end) e h

pub stuck : (s : List ℕ) (from inner end levels at : ℕ) (shape : Shape) → 0 < levels → from < at → IsFilled s from inner end (levels - 1) shape at → is_dark (get_or s at 0) ≡ true →
    closes shape (get_or s at 0) ≡ false → FindsSimple s at end (levels - 1) at → StandsNone s from end levels
stuck s from inner end levels at shape room begun filled dark unclosed found =
    at_levels s from end levels room (λ v used few e simple lt. none_there s from end (levels - 1) at used filled.0 filled.1 v filled.5 begun dark
    (ap (λ l. closes l (get_or s at 0)) (sym filled.4) ∙ unclosed) found few e simple lt)

pub over : (s : List ℕ) (from inner end levels at : ℕ) (shape : Shape) → 0 < levels → IsFilled s from inner end (levels - 1) shape at → end ≤ at → StandsNone s from end levels
over s from inner end levels at shape room filled behind =
    at_levels s from end levels room (λ v used few e simple lt. none_behind s from end (levels - 1) at used filled.0 filled.1 v filled.5 behind few e simple lt)
