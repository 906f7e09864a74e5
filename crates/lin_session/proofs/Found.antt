-- Where keys are listed, and what stands there.
use Rattle.std.proofs.Common.{◌≡◌, ◌<◌, ℕ, Bool, true, false, List, [], ◌∷◌, ◌++◌, length, get_or, position, slice_get, Contains, Option, Some, None, Result, Ok, Err, refl, sym, ap, subst, ◌∙◌, arith, true≢false, if◌then◌else◌, is_some}
use Rattle.std.specs.Prelude.{IfErr, IfSome, IfNone, IsErrAnd, IsOk, OnErr}
use Rattle.std.specs.List.{list_any}
use Rattle.std.proofs.lemmas.List.Quantifiers.{position-Some}
use Rattle.std.proofs.lemmas.Map.Views.{list_any-from_Contains, Contains-from_any}
use Rattle.std.proofs.lemmas.Option.{slice_get-get_or, slice_get_within, slice_get_read}
use Rattle.indexmap.specs.IndexSet.{insert_key}
use Rattle.lin_events.specs.declared.items.Item.{Item}
use Rattle.lin_events.specs.Sameness.{Decides-item_eq, item_eq_equiv}
use Rattle.lin_events.specs.Items.{item_eq}

-- the place that a look-up gives is the key's
pub found_at : (keys : List Item) (key : Item) (r : Option ℕ) → r ≡ position (item_eq key) keys → IfSome r (λ i. slice_get keys i ≡ Some key)
found_at keys key None is = tt
found_at keys key (Some i) is =
    let p = position-Some (item_eq key) keys i key (sym is) in
    slice_get-get_or keys i key p.0 ∙ ap Some (sym ((Decides-item_eq key (get_or keys i key)).0 p.1))

pub not_found : (keys : List Item) (key : Item) (r : Option ℕ) → is_some r ≡ list_any (item_eq key) keys → IfNone r (Contains keys key → ⊥)
not_found keys key (Some i) is = tt
not_found keys key None is = λ there. true≢false (sym (list_any-from_Contains item_eq_equiv key keys there) ∙ sym is)

-- what stands at the place of a key
pub object_at : {A : Type 0} (keys : List Item) (objects : List A) (i : ℕ) (key : Item) (object : A) → length objects ≡ length keys → slice_get keys i ≡ Some key → object ≡ get_or objects i object
    → slice_get objects i ≡ Some object
object_at keys objects i key object aligned key_at read =
    let within = slice_get_within keys i key key_at in
    slice_get_read objects (length objects) i object refl (omega arith) read

pub object_within : {A : Type 0} (keys : List Item) (objects : List A) (i : ℕ) (object : A) → length objects ≡ length keys → i < length keys → object ≡ get_or objects i object → slice_get objects i ≡ Some object
object_within keys objects i object aligned within read = slice_get_read objects (length objects) i object refl (omega arith) read

-- a key that isn't listed goes last
pub inserted_last : (keys : List Item) (key : Item) → (Contains keys key → ⊥) → insert_key item_eq keys key ≡ keys ++ key ∷ []
inserted_last keys key absent = by (list_any (item_eq key) keys) refl
  where
    by : (b : Bool) → list_any (item_eq key) keys ≡ b → insert_key item_eq keys key ≡ keys ++ key ∷ []
    by true e = absurd (absent (Contains-from_any (λ x y. (Decides-item_eq x y).0) key keys e))
    by false e = ap (λ b. if b then keys else keys ++ key ∷ []) e

-- what holds holds after an error too
pub on_err_since : {T E : Type 0} {P : Type 0} (r : Result T E) → P → OnErr r P
on_err_since (Ok x) p = tt
on_err_since (Err e) p = p

-- what holds where nothing is found, and follows there
pub none_weaker : {T : Type 0} (r : Option T) (P Q : Type 0) → (P → Q) → IfNone r P → IfNone r Q
none_weaker (Some x) P Q weaker p = tt
none_weaker None P Q weaker p = weaker p

pub empty_list : {T : Type 0} (xs : List T) → length xs ≡ 0 → xs ≡ []
empty_list [] none = refl
empty_list (x ∷ xs) none = absurd (omega (arith, none))

-- what is an error isn't a success
pub not_ok : {T E : Type 0} (r : Result T E) (e : E) → r ≡ Err e → IsOk r → ⊥
not_ok (Ok x) e is ok = cc
not_ok (Err f) e is ok = cc

-- what holds of a fault holds of it where it is passed on
pub passed_on : {T E : Type 0} (r : Result T E) (fault : E) (Q : E → Type 0) → IsErrAnd r (λ f. f ≡ fault) → Q fault → IfErr r Q
passed_on (Ok x) fault Q same q = tt
passed_on (Err f) fault Q same q = subst Q (sym same) q
