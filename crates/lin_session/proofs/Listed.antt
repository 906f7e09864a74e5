-- The marks of the objects that are listed.
use Rattle.std.proofs.Common.{◌≡◌, ◌≢◌, ◌<◌, ℕ, zero, suc, Bool, true, false, List, [], ◌∷◌, ◌++◌, length, slice_get, set, Contains, Some, ◌⊎◌, inl, inr, refl, sym, ap, subst, ◌∙◌, arith, if◌then◌else◌}
use Rattle.std.specs.List.{list_any}
use Rattle.std.proofs.lemmas.Map.Views.{list_any-from_Contains, Contains-from_any}
use Rattle.std.proofs.lemmas.Bool.{false≢true}
use Rattle.std.proofs.lemmas.Option.{same_Some}
use Rattle.lin_events.specs.declared.items.Item.{Item}
use Rattle.lin_events.specs.Sameness.{Decides-item_eq, item_eq_equiv}
use Rattle.lin_events.specs.Items.{item_eq}
use Rattle.lin_engines.specs.Lanes.{told_of}
use Rattle.lin_engines.specs.Replays.{reach_of_replay}
use Rattle.lin_chain.specs.declared.beside.Beside.{Beside}
use Rattle.lin_chain.specs.declared.beside.Beside.TheVariants as beside
use Rattle.lin_chain.specs.declared.chain.Chain.{Chain}
use Rattle.lin_chain.specs.declared.found.Found.{Found}
use Rattle.lin_chain.specs.declared.found.Found.TheVariants as found
use Rattle.lin_chain.specs.Chains.{first_of, mark_beside, mark_in, told_beside, told_by_found}
use Rattle.lin_chain.specs.Work.{Mark, unasked}
use Rattle.lin_session.specs.declared.kept.Object.{Object}
use Rattle.lin_session.specs.Objects.{beside_teller, found_teller, known_in, listed_known}
use Rattle.lin_session.specs.Known.{mark_from, mark_of, told_by}
use Rattle.lin_lists.specs.lemmas.Taken.{slice_get-Contains, Contains-slice_get}

-- no key is listed twice
abbrev pub IsOnce : List Item → Type 0
IsOnce keys = (i j : ℕ) (x : Item) → slice_get keys i ≡ Some x → slice_get keys j ≡ Some x → i ≡ j

pub once_rest : (key : Item) (keys : List Item) → IsOnce (key ∷ keys) → IsOnce keys
once_rest key keys once i j x at_i at_j = let e = once (suc i) (suc j) x at_i at_j in omega (arith, e)

pub once_head : (key : Item) (keys : List Item) → IsOnce (key ∷ keys) → (i : ℕ) (x : Item) → slice_get keys i ≡ Some x → key ≢ x
once_head key keys once i x at same = let e = once zero (suc i) x (ap Some same) at in omega (arith, e)

same_key : (x y : Item) → item_eq x y ≡ true → x ≡ y
same_key x y e = (Decides-item_eq x y).0 e

other_key : (x y : Item) → x ≢ y → item_eq x y ≡ false
other_key x y other = by (item_eq x y) refl
  where
    by : (b : Bool) → item_eq x y ≡ b → item_eq x y ≡ false
    by true e = absurd (other (same_key x y e))
    by false e = e

pub is_listed : (keys : List Item) (key : Item) → ((i : ℕ) × (slice_get keys i ≡ Some key)) ⊎ (Contains keys key → ⊥)
is_listed keys key = by (list_any (item_eq key) keys) refl
  where
    by : (b : Bool) → list_any (item_eq key) keys ≡ b → ((i : ℕ) × (slice_get keys i ≡ Some key)) ⊎ (Contains keys key → ⊥)
    by true e = inl (slice_get-Contains keys key (Contains-from_any (λ x y. (Decides-item_eq x y).0) key keys e))
    by false e = inr (λ there. false≢true (sym e ∙ list_any-from_Contains item_eq_equiv key keys there))

-- who tells of a chain's object tells what the chain does
found_same : (of : Found) (count : ℕ) → told_by (found_teller of) count ≡ told_by_found of count
found_same found.Nothing count = refl
found_same (found.Order order of) count = refl
found_same (found.Failure at) count = refl

beside_same : (of : Beside) (count : ℕ) → told_by (beside_teller of) count ≡ told_beside of count
beside_same beside.Nothing count = refl
beside_same (beside.Exact lane) count = refl
beside_same (beside.Going lane) count = refl

beside_mark : (of : Beside) → (beside_teller of).mark ≡ mark_beside of
beside_mark beside.Nothing = refl
beside_mark (beside.Exact lane) = refl
beside_mark (beside.Going lane) = refl

pub mark_same : (chain : Chain) → mark_from (known_in chain) ≡ mark_in chain
mark_same chain = λ i. record {
  told = λ count. first_of (found_same chain.found count i) (first_of (beside_same chain.beside count i) (told_of chain.frontier.said (reach_of_replay chain.frontier.engine) chain.frontier.mark count));
  frontier = chain.frontier.mark;
  beside = beside_mark chain.beside i;
  searched = chain.searched;
  stopped = chain.stopped;
}

abbrev mark_at : Object → Mark
mark_at object = mark_from (known_in object.chain)

at_listed : (keys : List Item) (objects : List Object) → IsOnce keys → (i : ℕ) (key : Item) (object : Object) → slice_get keys i ≡ Some key → slice_get objects i ≡ Some object
    → mark_of (listed_known keys objects) key ≡ mark_at object
at_listed [] objects once i key object key_at object_at = cc
at_listed (k ∷ keys) [] once i key object key_at object_at = cc
at_listed (k ∷ keys) (o ∷ objects) once zero key object key_at object_at =
    ap (λ b. if b then mark_at o else mark_of (listed_known keys objects) key) ((Decides-item_eq k key).1 (same_Some k key key_at)) ∙ ap (λ (x : Object). mark_at x) (same_Some o object object_at)
at_listed (k ∷ keys) (o ∷ objects) once (suc i) key object key_at object_at =
    ap (λ b. if b then mark_at o else mark_of (listed_known keys objects) key) (other_key k key (once_head k keys once i key key_at)) ∙ at_listed keys objects (once_rest k keys once) i key object key_at object_at

pub mark_listed : (keys : List Item) (objects : List Object) → IsOnce keys → (i : ℕ) (key : Item) (object : Object) → slice_get keys i ≡ Some key → slice_get objects i ≡ Some object
    → mark_of (listed_known keys objects) key ≡ mark_in object.chain
mark_listed keys objects once i key object key_at object_at = at_listed keys objects once i key object key_at object_at ∙ mark_same object.chain

pub mark_unlisted : (keys : List Item) (objects : List Object) (key : Item) → (Contains keys key → ⊥) → mark_of (listed_known keys objects) key ≡ unasked
mark_unlisted [] objects key absent = refl
mark_unlisted (k ∷ keys) [] key absent = refl
mark_unlisted (k ∷ keys) (o ∷ objects) key absent =
    ap (λ b. if b then mark_at o else mark_of (listed_known keys objects) key) (other_key k key (λ same. absent (Contains-slice_get (k ∷ keys) 0 key (ap Some same))))
    ∙ mark_unlisted keys objects key (λ there. let at = slice_get-Contains keys key there in absent (Contains-slice_get (k ∷ keys) (suc at.0) key at.1))

-- an object that changes in other things
pub mark_set_same : (keys : List Item) (objects : List Object) (i : ℕ) (old object : Object) → slice_get objects i ≡ Some old → object.chain ≡ old.chain → (x : Item)
    → mark_of (listed_known keys (set objects i object)) x ≡ mark_of (listed_known keys objects) x
mark_set_same [] objects i old object old_at same x = refl
mark_set_same (k ∷ keys) [] i old object old_at same x = cc
mark_set_same (k ∷ keys) (o ∷ objects) zero old object old_at same x =
    ap (λ c. if item_eq k x then mark_from (known_in c) else mark_of (listed_known keys objects) x) (same ∙ ap (λ (y : Object). y.chain) (sym (same_Some o old old_at)))
mark_set_same (k ∷ keys) (o ∷ objects) (suc i) old object old_at same x =
    ap (λ m. if item_eq k x then mark_at o else m) (mark_set_same keys objects i old object old_at same x)

-- an object that changes
at_set : (keys : List Item) (objects : List Object) → IsOnce keys → (i : ℕ) (key : Item) (old object : Object) → slice_get keys i ≡ Some key → slice_get objects i ≡ Some old → (x : Item)
    → mark_of (listed_known keys (set objects i object)) x ≡ (if item_eq key x then mark_at object else mark_of (listed_known keys objects) x)
at_set [] objects once i key old object key_at old_at x = cc
at_set (k ∷ keys) [] once i key old object key_at old_at x = cc
at_set (k ∷ keys) (o ∷ objects) once zero key old object key_at old_at x =
    let M = mark_of (listed_known keys objects) x in
    ap (λ y. if item_eq y x then mark_at object else M) (same_Some k key key_at) ∙ by M (item_eq key x) (item_eq k x) (ap (λ y. item_eq y x) (same_Some k key key_at))
  where
    by : (m : Mark) (b a : Bool) → a ≡ b → (if b then mark_at object else m) ≡ (if b then mark_at object else (if a then mark_at o else m))
    by m true a e = refl
    by m false a e = sym (ap (λ c. if c then mark_at o else m) e)
at_set (k ∷ keys) (o ∷ objects) once (suc i) key old object key_at old_at x =
    ap (λ m. if item_eq k x then mark_at o else m) (at_set keys objects (once_rest k keys once) i key old object key_at old_at x)
    ∙ by (mark_of (listed_known keys objects) x) (item_eq k x) refl (item_eq key x) refl
  where
    by : (m : Mark) (a : Bool) → item_eq k x ≡ a → (b : Bool) → item_eq key x ≡ b → (if a then mark_at o else (if b then mark_at object else m)) ≡ (if b then mark_at object else (if a then mark_at o else m))
    by m true e true f = absurd (once_head k keys once i key key_at (same_key k x e ∙ sym (same_key key x f)))
    by m true e false f = refl
    by m false e true f = refl
    by m false e false f = refl

pub mark_set : (keys : List Item) (objects : List Object) → IsOnce keys → (i : ℕ) (key : Item) (old object : Object) → slice_get keys i ≡ Some key → slice_get objects i ≡ Some old → (x : Item)
    → mark_of (listed_known keys (set objects i object)) x ≡ (if item_eq key x then mark_in object.chain else mark_of (listed_known keys objects) x)
mark_set keys objects once i key old object key_at old_at x =
    at_set keys objects once i key old object key_at old_at x ∙ ap (λ m. if item_eq key x then m else mark_of (listed_known keys objects) x) (mark_same object.chain)

-- one more of which nothing is known
pub mark_push : (keys : List Item) (objects : List Object) (key : Item) (object : Object) → length objects ≡ length keys → mark_in object.chain ≡ unasked → (x : Item)
    → mark_of (listed_known (keys ++ key ∷ []) (objects ++ object ∷ [])) x ≡ mark_of (listed_known keys objects) x
mark_push [] [] key object aligned new x = ap (λ m. if item_eq key x then m else unasked) (mark_same object.chain ∙ new) ∙ by (item_eq key x)
  where
    by : (b : Bool) → (if b then unasked else unasked) ≡ unasked
    by true = refl
    by false = refl
mark_push [] (o ∷ objects) key object aligned new x = absurd (omega (arith, aligned))
mark_push (k ∷ keys) [] key object aligned new x = absurd (omega (arith, aligned))
mark_push (k ∷ keys) (o ∷ objects) key object aligned new x =
    ap (λ m. if item_eq k x then mark_at o else m) (mark_push keys objects key object (omega (arith, aligned)) new x)

-- what changes the mark of one object so, and leaves each other one
module _ (R : Bool → Mark → Mark → Type 0) (stays : (m : Mark) → R false m m) (keys : List Item) (objects : List Object) where
  pub marks_changed : IsOnce keys → (i : ℕ) (key : Item) (old object : Object) → slice_get keys i ≡ Some key → slice_get objects i ≡ Some old → R true (mark_in old.chain) (mark_in object.chain)
      → (x : Item) → R (item_eq key x) (mark_of (listed_known keys objects) x) (mark_of (listed_known keys (set objects i object)) x)
  marks_changed once i key old object key_at old_at change x =
      subst (R (item_eq key x) (mark_of (listed_known keys objects) x)) (sym (mark_set keys objects once i key old object key_at old_at x)) (by (item_eq key x) refl)
    where
      by : (b : Bool) → item_eq key x ≡ b → R b (mark_of (listed_known keys objects) x) (if b then mark_in object.chain else mark_of (listed_known keys objects) x)
      by true e =
          let there : mark_of (listed_known keys objects) x ≡ mark_in old.chain = ap (mark_of (listed_known keys objects)) (sym (same_key key x e)) ∙ mark_listed keys objects once i key old key_at old_at in
          subst (λ m. R true m (mark_in object.chain)) (sym there) change
      by false e = stays (mark_of (listed_known keys objects) x)

  pub marks_unchanged : (key : Item) → (Contains keys key → ⊥) → R true unasked unasked → (x : Item) → R (item_eq key x) (mark_of (listed_known keys objects) x) (mark_of (listed_known keys objects) x)
  marks_unchanged key absent none x = by (item_eq key x) refl
    where
      by : (b : Bool) → item_eq key x ≡ b → R b (mark_of (listed_known keys objects) x) (mark_of (listed_known keys objects) x)
      by true e =
          let here = mark_unlisted keys objects x (λ there. absent (subst (Contains keys) (sym (same_key key x e)) there)) in
          subst (λ m. R true m m) (sym here) none
      by false e = stays (mark_of (listed_known keys objects) x)

-- what changes all of them
pub marks_zipped : (R : Mark → Mark → Type 0) → R unasked unasked → (keys : List Item) (old new : List Object) → length new ≡ length old
    → ((i : ℕ) (o n : Object) → i < length keys → slice_get old i ≡ Some o → slice_get new i ≡ Some n → R (mark_in o.chain) (mark_in n.chain))
    → (x : Item) → R (mark_of (listed_known keys old) x) (mark_of (listed_known keys new) x)
marks_zipped R none [] old new long each x = none
marks_zipped R none (k ∷ keys) [] [] long each x = none
marks_zipped R none (k ∷ keys) [] (n ∷ new) long each x = absurd (omega (arith, long))
marks_zipped R none (k ∷ keys) (o ∷ old) [] long each x = absurd (omega (arith, long))
marks_zipped R none (k ∷ keys) (o ∷ old) (n ∷ new) long each x =
    let first : R (mark_at o) (mark_at n) = subst (λ m. R m (mark_at n)) (sym (mark_same o.chain)) (subst (R (mark_in o.chain)) (sym (mark_same n.chain)) (each 0 o n (omega arith) refl refl)) in
    by (item_eq k x) first (marks_zipped R none keys old new (omega (arith, long)) (λ i p q within p_at q_at. each (suc i) p q (omega (arith, within)) p_at q_at) x)
  where
    by : (b : Bool) {s t : Mark} → R (mark_at o) (mark_at n) → R s t → R (if b then mark_at o else s) (if b then mark_at n else t)
    by true first rest = first
    by false first rest = rest
