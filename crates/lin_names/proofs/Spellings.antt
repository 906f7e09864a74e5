-- Spellings as the code keeps them.
use Rattle.std.proofs.Common.{◌≡◌, ◌<◌, ℕ, zero, suc, Bool, true, false, List, [], ◌∷◌, ◌++◌, length, get_or, Option, Some, None, IfSome, IfNone, slice_get, option_map, is_some, position, refl, sym, ap, ◌∙◌, true≢false, if◌then◌else◌, ◌||◌, append-nil, arith, ◌⊎◌, inl, inr}
use Rattle.std.specs.List.{list_any, IsDistinct}
use Rattle.std.specs.Str.{bytes_eq}
use Rattle.std.specs.Global.{Vec}
use Rattle.std.specs.Cmp.Lexicographic.{bytes_decides}
use Rattle.std.proofs.lemmas.List.Quantifiers.{position-Some}
use Rattle.std.proofs.lemmas.Map.Keys.{any_passes_from_place, apart_from_distinct}
use Rattle.std.proofs.lemmas.Option.{get_or_from_slice_get, slice_get_within, slice_get-get_or}
use Rattle.std.proofs.lemmas.Bool.{cases_order}
use Rattle.indexmap.specs.IndexSet.{insert_key}
use Rattle.lin_names.specs.Names.{items_of, IsSpelling, AreEachOnce, Begins, number_of, interned}

-- something stands at each place of a list
pub element_at : {A : Type 0} (xs : List A) (i : ℕ) → i < length xs → (x : A) × (slice_get xs i ≡ Some x)
element_at [] i within = absurd (omega arith)
element_at (x ∷ xs) zero within = (x, refl)
element_at (x ∷ xs) (suc i) within = element_at xs i (omega arith)

pub length-items : (ks : List (Vec ℕ)) → length (items_of ks) ≡ length ks
length-items [] = refl
length-items (k ∷ ks) = ap suc (length-items ks)

-- the spelling at a place is that of the key there
pub get-items : (ks : List (Vec ℕ)) (n : ℕ) → slice_get (items_of ks) n ≡ option_map (λ (v : Vec ℕ). v.items) (slice_get ks n)
get-items [] n = refl
get-items (k ∷ ks) zero = refl
get-items (k ∷ ks) (suc n) = get-items ks n

pub any-items : (w : List ℕ) (ks : List (Vec ℕ)) → list_any (bytes_eq w) (items_of ks) ≡ list_any (λ (k : Vec ℕ). bytes_eq w k.items) ks
any-items w [] = refl
any-items w (k ∷ ks) = ap (λ b. bytes_eq w k.items || b) (any-items w ks)

-- a key that spells these bytes
key_of : (ks : List (Vec ℕ)) (w : List ℕ) (n : ℕ) → IsSpelling (items_of ks) w n → (k : Vec ℕ) × (slice_get ks n ≡ Some k) × (k.items ≡ w)
key_of [] w n h = cc
key_of (k ∷ ks) w zero h = (k, refl, cc)
key_of (k ∷ ks) w (suc n) h = key_of ks w n h

-- what a search finds has that spelling
pub found_in : (ks : List (Vec ℕ)) (w : List ℕ) (r : Option ℕ) → r ≡ position (λ (k : Vec ℕ). bytes_eq w k.items) ks → IfSome r (IsSpelling (items_of ks) w)
found_in ks w None e = tt
found_in [] w (Some n) e = cc
found_in (k ∷ ks) w (Some n) e =
    let (within, passes, first) = position-Some (λ (x : Vec ℕ). bytes_eq w x.items) (k ∷ ks) n k (sym e) in
    get-items (k ∷ ks) n ∙ ap (option_map (λ (v : Vec ℕ). v.items)) (slice_get-get_or (k ∷ ks) n k within)
    ∙ ap Some (sym ((bytes_decides w (get_or (k ∷ ks) n k).items).0 passes))

-- where none is found, no number has that spelling
pub none_in : (ks : List (Vec ℕ)) (w : List ℕ) (r : Option ℕ) → is_some r ≡ list_any (λ (k : Vec ℕ). bytes_eq w k.items) ks →
    IfNone r ((n : ℕ) → IsSpelling (items_of ks) w n → ⊥)
none_in ks w (Some n) e = tt
none_in ks w None e = λ n h.
    let (k, at, is) = key_of ks w n h in
    true≢false (sym (any_passes_from_place (λ (k : Vec ℕ). bytes_eq w k.items) ks n k at ((bytes_decides w k.items).1 (sym is))) ∙ sym e)

-- no spelling of distinct keys has two numbers
pub once_in : (ks : List (Vec ℕ)) → IsDistinct (λ (x y : Vec ℕ). bytes_eq x.items y.items) ks → AreEachOnce (items_of ks)
once_in ks distinct m n w at_m at_n =
    let (k, is_k, k_w) = key_of ks w m at_m in
    let (l, is_l, l_w) = key_of ks w n at_n in
    let read_m : get_or ks m k ≡ k = get_or_from_slice_get ks m k k is_k in
    let read_n : get_or ks n k ≡ l = get_or_from_slice_get ks n l k is_l in
    let same : bytes_eq k.items l.items ≡ true = (bytes_decides k.items l.items).1 (k_w ∙ sym l_w) in
    let same' : bytes_eq l.items k.items ≡ true = (bytes_decides l.items k.items).1 (l_w ∙ sym k_w) in
    elim (cases_order m n) [
      | inl is ↦ is
      | inr rest ↦ elim rest [
        | inl below ↦
            let apart : bytes_eq (get_or ks m k).items (get_or ks n k).items ≡ false = apart_from_distinct (λ (x y : Vec ℕ). bytes_eq x.items y.items) ks m n k distinct below (slice_get_within ks n l is_l) in
            absurd (true≢false (sym same ∙ sym (ap (λ (x : Vec ℕ). bytes_eq x.items l.items) read_m) ∙ sym (ap (λ (x : Vec ℕ). bytes_eq (get_or ks m k).items x.items) read_n) ∙ apart))
        | inr above ↦
            let apart : bytes_eq (get_or ks n k).items (get_or ks m k).items ≡ false = apart_from_distinct (λ (x y : Vec ℕ). bytes_eq x.items y.items) ks n m k distinct above (slice_get_within ks m k is_k) in
            absurd (true≢false (sym same' ∙ sym (ap (λ (x : Vec ℕ). bytes_eq x.items k.items) read_n) ∙ sym (ap (λ (x : Vec ℕ). bytes_eq (get_or ks n k).items x.items) read_m) ∙ apart))
      ]
    ]

-- a spelling that is there is found
pub any_there : (names : List (List ℕ)) (w : List ℕ) (n : ℕ) → IsSpelling names w n → list_any (bytes_eq w) names ≡ true
any_there names w n at = any_passes_from_place (bytes_eq w) names n w at ((bytes_decides w w).1 refl)

-- and interning it changes nothing
pub interned_there : (names : List (List ℕ)) (w : List ℕ) (n : ℕ) → IsSpelling names w n → names ≡ interned w names
interned_there names w n at = ap (λ b. if b then names else names ++ w ∷ []) (sym (any_there names w n at))

pub items-append : (ks : List (Vec ℕ)) (k : Vec ℕ) → items_of (ks ++ k ∷ []) ≡ items_of ks ++ k.items ∷ []
items-append [] k = refl
items-append (x ∷ ks) k = ap (λ l. x.items ∷ l) (items-append ks k)

-- a key that is put in interns its bytes
pub items-insert : (ks : List (Vec ℕ)) (k : Vec ℕ) → items_of (insert_key (λ (x y : Vec ℕ). bytes_eq x.items y.items) ks k) ≡ interned k.items (items_of ks)
items-insert ks k = by (list_any (λ (x : Vec ℕ). bytes_eq k.items x.items) ks) (list_any (bytes_eq k.items) (items_of ks)) (any-items k.items ks)
  where
    by : (b c : Bool) → c ≡ b → items_of (if b then ks else ks ++ k ∷ []) ≡ (if c then items_of ks else items_of ks ++ k.items ∷ [])
    by true c e = ap (λ d. if d then items_of ks else items_of ks ++ k.items ∷ []) (sym e)
    by false c e = items-append ks k ∙ ap (λ d. if d then items_of ks else items_of ks ++ k.items ∷ []) (sym e)

-- the key at a place spells what it is equal to
pub stored_in : (ks : List (Vec ℕ)) (own : Vec ℕ) (w : List ℕ) (n : ℕ) → own.items ≡ w →
    (k : Vec ℕ) × (slice_get ks n ≡ Some k) × (bytes_eq own.items k.items ≡ true) → IsSpelling (items_of ks) w n
stored_in ks own w n is (k, at, same) = get-items ks n ∙ ap (option_map (λ (v : Vec ℕ). v.items)) at ∙ ap Some (sym ((bytes_decides own.items k.items).0 same) ∙ is)

-- with one more, a list has what it had, and the last
pub get_cases : {A : Type 0} (xs : List A) (y : A) (k : ℕ) (x : A) → slice_get (xs ++ y ∷ []) k ≡ Some x → (slice_get xs k ≡ Some x) ⊎ ((k ≡ length xs) × (y ≡ x))
get_cases [] y zero x h = inr (refl, cc)
get_cases [] y (suc k) x h = cc
get_cases (z ∷ zs) y zero x h = inl h
get_cases (z ∷ zs) y (suc k) x h = elim (get_cases zs y k x h) [
  | inl old ↦ inl old
  | inr new ↦ inr (omega (arith, new.0), new.1)
]

pub stays_once : (w : List ℕ) (names : List (List ℕ)) → AreEachOnce names → AreEachOnce (interned w names)
stays_once w names once = by (list_any (bytes_eq w) names) refl
  where
    by : (b : Bool) → list_any (bytes_eq w) names ≡ b → AreEachOnce (if b then names else names ++ w ∷ [])
    by true e = once
    by false e = λ m n v at_m at_n. elim (get_cases names w m v at_m) [
      | inl old_m ↦ elim (get_cases names w n v at_n) [
        | inl old_n ↦ once m n v old_m old_n
        | inr (last, is) ↦ absurd (true≢false (sym (any_there names w m (old_m ∙ ap Some (sym is))) ∙ e))
      ]
      | inr (last, is) ↦ elim (get_cases names w n v at_n) [
        | inl old_n ↦ absurd (true≢false (sym (any_there names w n (old_n ∙ ap Some (sym is))) ∙ e))
        | inr (last', is') ↦ last ∙ sym last'
      ]
    ]

-- interning leaves what was there in front
pub interned_begins : (w : List ℕ) (names new : List (List ℕ)) → new ≡ interned w names → Begins names new
interned_begins w names new is = by (list_any (bytes_eq w) names) is
  where
    by : (b : Bool) → new ≡ (if b then names else names ++ w ∷ []) → Begins names new
    by true e = ([], e ∙ sym (append-nil names))
    by false e = (w ∷ [], e)

pub number_at : (names : List (List ℕ)) (w : List ℕ) (n : ℕ) → AreEachOnce names → IsSpelling names w n → number_of names w ≡ n
number_at [] w n once at = cc
number_at (v ∷ names) w zero once at = ap (λ b. if b then 0 else suc (number_of names w)) ((bytes_decides w v).1 (same at))
  where
    same : Some v ≡ Some w → w ≡ v
    same e = cc
number_at (v ∷ names) w (suc n) once at = by (bytes_eq w v) refl (number_at names w n later at)
  where
    later : AreEachOnce names
    later k m x at_k at_m = let e : suc k ≡ suc m = once (suc k) (suc m) x at_k at_m in omega arith

    by : (b : Bool) → bytes_eq w v ≡ b → number_of names w ≡ n → (if b then 0 else suc (number_of names w)) ≡ suc n
    by true e rest = once 0 (suc n) w (ap Some (sym ((bytes_decides w v).0 e))) at
    by false e rest = ap suc rest
