-- Calls of sets that commute: which of two is taken first makes no difference.
use Rattle.std.specs.Prelude.{◌≡◌, List, [], ◌∷◌, false}
use Rattle.std.proofs.Common.{refl, sym, ap, ◌∙◌, subst, true≢false}
use Rattle.lin_events.specs.declared.items.Item.{Item}
use Rattle.lin_events.specs.Items.{item_cmp}
use Rattle.lin_events.specs.Sameness.{items_tell, items_total}
use Rattle.lin_events.specs.lemmas.Rising.{split}
use Rattle.lin_events.specs.declared.calls.Call.{Call}
use Rattle.lin_events.specs.declared.calls.Call.TheVariants.{Read, Add}
use Rattle.lin_events.specs.declared.calls.Reply.{Reply}
use Rattle.lin_lists.specs.Sets.{with_member}
use Rattle.lin_lists.specs.lemmas.Rising.{put_before, put_behind, put_upon}
use Rattle.lin_objects.specs.declared.kinds.Kind.TheVariants.{Set}
use Rattle.lin_objects.specs.declared.states.State.TheVariants.{Members}
use Rattle.lin_objects.specs.Ahead.{hinders}
use Rattle.lin_objects.specs.Steps.{Step}
use Rattle.lin_objects.specs.lemmas.Order.{◌⊏◌}

-- where the other call can be taken and then this one, this one can be taken first, with the same replies and the same state after both
abbrev pub GoesFirst : {S : Type 0} → (S → Call → S → Reply → Type 0) → Call → Call → Type 0
GoesFirst {S} step call other = (state mid last : S) (before after : Reply) → step state other mid before → step mid call last after
    → (first : S) × step state call first after × step first other last before

-- the item put into the set
abbrev put : Item → List Item → List Item
put = with_member item_cmp

ahead : (x y : Item) (ys : List Item) → x ⊏ y → put x (y ∷ ys) ≡ x ∷ y ∷ ys
ahead = put_before item_cmp items_total items_tell

upon : (x y : Item) (ys : List Item) → x ≡ y → put x (y ∷ ys) ≡ y ∷ ys
upon = put_upon item_cmp items_total items_tell

behind : (x y : Item) (ys : List Item) → y ⊏ x → put x (y ∷ ys) ≡ y ∷ put x ys
behind = put_behind item_cmp items_total items_tell

-- a smaller item and a greater one, where the list has another item first
put_both : (x y : Item) (s : List Item) → x ⊏ y → put x (put y s) ≡ put y (put x s)
put_both x y [] h = ahead x y [] h ∙ sym (behind y x [] h)
put_both x y (z ∷ zs) h = split x z
    (λ q. split y z
    (λ r. ap (put x) (ahead y z zs r) ∙ ahead x y (z ∷ zs) h ∙ ap (λ l. x ∷ l) (sym (ahead y z zs r)) ∙ sym (behind y x (z ∷ zs) h) ∙ ap (put y) (sym (ahead x z zs q)))
    (λ r. over x y z zs h q (upon y z zs r))
    (λ r. ap (put x) (behind y z zs r) ∙ ahead x z (put y zs) q ∙ ap (λ l. x ∷ l) (sym (behind y z zs r)) ∙ sym (behind y x (z ∷ zs) h) ∙ ap (put y) (sym (ahead x z zs q))))
    (λ q.
    let greater : z ⊏ y = subst (λ w. w ⊏ y) q h in
    ap (put x) (behind y z zs greater) ∙ upon x z (put y zs) q ∙ sym (behind y z zs greater) ∙ ap (put y) (sym (upon x z zs q)))
    (λ q.
    let greater : z ⊏ y = items_total.trans z x y q h in
    ap (put x) (behind y z zs greater) ∙ behind x z (put y zs) q ∙ ap (λ l. z ∷ l) (put_both x y zs h) ∙ sym (behind y z (put x zs) greater) ∙ ap (put y) (sym (behind x z zs q)))
  where
    -- where the greater one is there
    over : (x y z : Item) (zs : List Item) → x ⊏ y → x ⊏ z → put y (z ∷ zs) ≡ z ∷ zs → put x (put y (z ∷ zs)) ≡ put y (put x (z ∷ zs))
    over x y z zs h q same = ap (put x) same ∙ ahead x z zs q ∙ ap (λ l. x ∷ l) (sym same) ∙ sym (behind y x (z ∷ zs) h) ∙ ap (put y) (sym (ahead x z zs q))

-- which of two items is put into a set first makes no difference
put_either : (x y : Item) (s : List Item) → put x (put y s) ≡ put y (put x s)
put_either x y s = split x y (λ q. put_both x y s q) (λ q. subst (λ w. put x (put w s) ≡ put w (put x s)) q refl) (λ q. sym (put_both y x s q))

-- calls of a set go first of those that don't hinder them
pub set_goes_first : (call : Call) (reply : Reply) (other : Call) → hinders Set call reply other ≡ false → GoesFirst (Step Set) call other
set_goes_first (Add x) reply (Add y) c (Members s) mid last before after one two =
    let then' : Step Set (Members (put y s)) (Add x) last after = subst (λ m. Step Set m (Add x) last after) one.0 two in
    (Members (put x s), (refl, then'.1), (then'.0 ∙ ap Members (put_either x y s), one.1))
set_goes_first Read reply Read c (Members s) mid last before after one two =
    let then' : Step Set (Members s) Read last after = subst (λ m. Step Set m Read last after) one.0 two in
    (Members s, (refl, then'.1), (then'.0, one.1))
set_goes_first (Add x) reply (Add y) c _ mid last before after one two = absurd one
set_goes_first Read reply Read c _ mid last before after one two = absurd one
set_goes_first _ _ _ c _ mid last before after one two = absurd (true≢false c)
