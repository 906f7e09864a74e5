-- The items of a collection, one after another.
use Rattle.std.proofs.Common.{◌≡◌, ℕ, Bool, true, false, suc, ◌+◌, ◌<◌, ◌≤◌, List, [], ◌∷◌, ◌++◌, Option, Some, None, option_map, map, drop, length, get_or, sym, ap, ◌∙◌, refl, arith, drop-cons, append_assoc, append-nil, true≢false}
use Rattle.std.specs.Option.{IsSome, is_some, option_and_then}
use Rattle.std.proofs.lemmas.List.{drop_all}
use Rattle.lin_edn.specs.Value.{Values, values_of}
use Rattle.lin_edn.specs.View.{view}
use Rattle.lin_edn.specs.declared.Edn.{Edn}
use Rattle.lin_lists.specs.Sets.{members_of}
use Rattle.lin_events.specs.declared.items.Item.{Item}
use Rattle.lin_events.specs.Items.{item_cmp}
use Rattle.lin_history.specs.Reading.{Reading}
use Rattle.lin_history.specs.Table.{items_of, item_of, said_of, bare, members_in, reply_takes}
use Rattle.lin_names.specs.Spelled.{Spelled, numbered}
use Rattle.lin_events.specs.declared.calls.Reply.{Reply}
use Rattle.lin_events.specs.declared.calls.Reply.TheVariants.{Members}

-- the items of the elements from a place on
abbrev pub items_from : Reading → ℕ → List Edn → Option (List Item)
items_from m k es = items_of m (values_of (map view (drop k es)))

step : (m : Reading) (es : List Edn) (k : ℕ) (d : Edn) → k < length es → items_from m k es ≡ option_and_then (λ i. option_map (λ is. i ∷ is) (items_from m (k + 1) es)) (item_of m (bare (view (get_or es k d))))
step m es k d h = let e : suc k ≡ k + 1 = omega arith in
    ap (λ l. items_of m (values_of (map view l))) (drop-cons es k d h) ∙ ap (λ n. option_and_then (λ i. option_map (λ is. i ∷ is) (items_from m n es)) (item_of m (bare (view (get_or es k d))))) e

twice : (fs : List Item) (i : Item) (o : Option (List Item)) → option_map (λ is. fs ++ is) (option_map (λ is. i ∷ is) o) ≡ option_map (λ is. (fs ++ i ∷ []) ++ is) o
twice fs i None = refl
twice fs i (Some is) = ap Some (sym (append_assoc fs (i ∷ []) is))

-- none found yet
pub item_start : (fs : List Item) (o : Option (List Item)) → fs ≡ [] → o ≡ option_map (λ is. fs ++ is) o
item_start fs None e = refl
item_start fs (Some is) e = ap (λ l. Some (l ++ is)) (sym e)

-- one more item found
pub item_more : (m : Reading) (all : Option (List Item)) (es : List Edn) (k : ℕ) (d : Edn) (fs gs : List Item) (i : Item) → k < length es →
    item_of m (bare (view (get_or es k d))) ≡ Some i → gs ≡ fs ++ i ∷ [] →
    all ≡ option_map (λ is. fs ++ is) (items_from m k es) → all ≡ option_map (λ is. gs ++ is) (items_from m (k + 1) es)
item_more m all es k d fs gs i h e g b =
    b ∙ ap (option_map (λ is. fs ++ is)) (step m es k d h ∙ ap (option_and_then (λ j. option_map (λ is. j ∷ is) (items_from m (k + 1) es))) e)
    ∙ twice fs i (items_from m (k + 1) es) ∙ ap (λ l. option_map (λ is. l ++ is) (items_from m (k + 1) es)) (sym g)

-- none where an element is no item
pub item_none : (m : Reading) (all : Option (List Item)) (es : List Edn) (k : ℕ) (d : Edn) (fs : List Item) → k < length es →
    item_of m (bare (view (get_or es k d))) ≡ None → all ≡ option_map (λ is. fs ++ is) (items_from m k es) → all ≡ None
item_none m all es k d fs h e b =
    b ∙ ap (option_map (λ is. fs ++ is)) (step m es k d h ∙ ap (option_and_then (λ j. option_map (λ is. j ∷ is) (items_from m (k + 1) es))) e)

pub item_all : (m : Reading) (all : Option (List Item)) (es : List Edn) (k : ℕ) (fs : List Item) → length es ≤ k → all ≡ option_map (λ is. fs ++ is) (items_from m k es) → all ≡ Some fs
item_all m all es k fs h b = b ∙ ap (λ l. option_map (λ is. fs ++ is) (items_of m (values_of (map view l)))) (drop_all k es h) ∙ ap Some (append-nil fs)

pub members_there : (m : Reading) (o : Option (List Item)) (vs : Values) → items_of m vs ≡ o → IsSome o → (r : Reply) × (members_in m vs ≡ Some r) × (reply_takes r ≡ true)
members_there m None vs e h = absurd (true≢false (sym h))
members_there m (Some is) vs e h = (Members (members_of item_cmp is), ap (option_map (λ is. Members (members_of item_cmp is))) e, refl)

-- whether all are items
pub any_more : {A B : Type 0} (f : A → B) (o : Option A) → is_some (option_map f o) ≡ is_some o
any_more f None = refl
any_more f (Some x) = refl

said_more : (m : Reading) (s : Option Spelled) (o : Option (List Item)) → is_some s ≡ true →
    is_some (option_and_then (λ i. option_map (λ is. i ∷ is) o) (option_map (numbered m.number) s)) ≡ is_some o
said_more m None o h = absurd (true≢false (sym h))
said_more m (Some s) o h = any_more (λ is. numbered m.number s ∷ is) o

said_none : (m : Reading) (s : Option Spelled) (o : Option (List Item)) → is_some s ≡ false →
    is_some (option_and_then (λ i. option_map (λ is. i ∷ is) o) (option_map (numbered m.number) s)) ≡ false
said_none m None o h = refl
said_none m (Some s) o h = absurd (true≢false h)

pub some_more : (m : Reading) (all : Bool) (es : List Edn) (k : ℕ) (d : Edn) → k < length es → is_some (said_of (bare (view (get_or es k d)))) ≡ true →
    all ≡ is_some (items_from m k es) → all ≡ is_some (items_from m (k + 1) es)
some_more m all es k d h some b = b ∙ ap is_some (step m es k d h) ∙ said_more m (said_of (bare (view (get_or es k d)))) (items_from m (k + 1) es) some

pub some_none : (m : Reading) (all : Bool) (es : List Edn) (k : ℕ) (d : Edn) → k < length es → is_some (said_of (bare (view (get_or es k d)))) ≡ false →
    all ≡ is_some (items_from m k es) → all ≡ false
some_none m all es k d h none b = b ∙ ap is_some (step m es k d h) ∙ said_none m (said_of (bare (view (get_or es k d)))) (items_from m (k + 1) es) none

pub some_all : (m : Reading) (all : Bool) (es : List Edn) (k : ℕ) → length es ≤ k → all ≡ is_some (items_from m k es) → all ≡ true
some_all m all es k h b = b ∙ ap (λ l. is_some (items_of m (values_of (map view l)))) (drop_all k es h)
