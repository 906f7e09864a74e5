-- What naming a key does to the look-ups.
use Rattle.std.proofs.Common.{◌≡◌, ◌||◌, Bool, true, false, cond, List, [], ◌∷◌, Some, None, refl, sym, ◌∙◌, ap, true≢false}
use Rattle.std.specs.Prelude.{is_some, unwrap_or}
use Rattle.std.specs.Ordering.{is_eq, match_ordering}
use Rattle.std.specs.declared.cmp.Ordering.{Ordering}
use Rattle.std.specs.declared.cmp.Ordering.TheVariants.{Less, Equal, Greater}
use Rattle.std.specs.Map.{lookup}
use Rattle.std.specs.BTreeMap.{insert_entry, is_at}
use Rattle.lin_events.specs.declared.items.Item.{Item}
use Rattle.lin_events.specs.Sameness.{Decides-item_eq, item_eq_equiv, ties}
use Rattle.lin_events.specs.Items.{item_cmp, item_eq}
use Rattle.lin_objects.specs.Kinds.{ChangesOneKind, NamesOneKey}

same_test : {X : Type 0} (b c : Bool) → b ≡ c → (u w r : X) → cond b u r ≡ cond c u (cond b w r)
same_test true true h u w r = refl
same_test false false h u w r = refl
same_test true false h u w r = absurd (true≢false h)
same_test false true h u w r = absurd (true≢false (sym h))

other_test : {X : Type 0} (b c : Bool) → (b ≡ true → c ≡ true → ⊥) → (u w r : X) → cond b w (cond c u r) ≡ cond c u (cond b w r)
other_test true true h u w r = absurd (h refl refl)
other_test true false h u w r = refl
other_test false true h u w r = refl
other_test false false h u w r = refl

-- a map finds by the order what `==` finds
pub lookup_by_order : {X : Type 0} (es : List (Item × X)) (key : Item) → lookup (is_at (item_cmp key)) es ≡ lookup (item_eq key) es
lookup_by_order [] key = refl
lookup_by_order (e ∷ es) key = ap (λ b. cond b (Some e.1) (lookup (is_at (item_cmp key)) es)) (sym (ties key e.0)) ∙ ap (cond (item_eq key e.0) (Some e.1)) (lookup_by_order es key)

pub lookup-insert_entry : {X : Type 0} (es : List (Item × X)) (key x : Item) (v : X) → lookup (item_eq x) (insert_entry item_cmp es key v) ≡ cond (item_eq key x) (Some v) (lookup (item_eq x) es)
lookup-insert_entry [] key x v = ap (λ b. cond b (Some v) None) (item_eq_equiv.symm x key)
lookup-insert_entry {X} (e ∷ es) key x v = by (item_cmp key e.0) refl (lookup-insert_entry es key x v)
  where
    by : (o : Ordering) → item_cmp key e.0 ≡ o
        → lookup (item_eq x) (insert_entry item_cmp es key v) ≡ cond (item_eq key x) (Some v) (lookup (item_eq x) es)
        → lookup (item_eq x) (match_ordering o ((key, v) ∷ e ∷ es) ((e.0, v) ∷ es) (e ∷ insert_entry item_cmp es key v)) ≡ cond (item_eq key x) (Some v) (lookup (item_eq x) (e ∷ es))
    by Less h more = ap (λ b. cond b (Some v) (lookup (item_eq x) (e ∷ es))) (item_eq_equiv.symm x key)
    by Equal h more =
        let at : key ≡ e.0 = (Decides-item_eq key e.0).0 (ties key e.0 ∙ ap is_eq h) in
        let test : item_eq x e.0 ≡ item_eq key x = ap (item_eq x) (sym at) ∙ item_eq_equiv.symm x key in
        same_test (item_eq x e.0) (item_eq key x) test (Some v) (Some e.1) (lookup (item_eq x) es)
    by Greater h more =
        let apart = λ (p : item_eq x e.0 ≡ true) (q : item_eq key x ≡ true).
        true≢false (sym (item_eq_equiv.congr key x e.0 q ∙ p) ∙ ties key e.0 ∙ ap is_eq h) in
        ap (λ r. cond (item_eq x e.0) (Some e.1) r) more
        ∙ other_test (item_eq x e.0) (item_eq key x) apart (Some v) (Some e.1) (lookup (item_eq x) es)

pub changes_one_kind : ChangesOneKind
changes_one_kind kinds key x kind =
    ap (λ o. unwrap_or o kinds.0) (lookup-insert_entry kinds.1 key x kind) ∙ by (item_eq key x)
  where
    by : (b : Bool) → unwrap_or (cond b (Some kind) (lookup (item_eq x) kinds.1)) kinds.0 ≡ cond b kind (unwrap_or (lookup (item_eq x) kinds.1) kinds.0)
    by true = refl
    by false = refl

pub names_one_key : NamesOneKey
names_one_key kinds key x kind = ap is_some (lookup-insert_entry kinds.1 key x kind) ∙ by (item_eq key x)
  where
    by : (b : Bool) → is_some (cond b (Some kind) (lookup (item_eq x) kinds.1)) ≡ b || is_some (lookup (item_eq x) kinds.1)
    by true = refl
    by false = refl
