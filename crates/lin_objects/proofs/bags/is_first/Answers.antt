use Rattle.std.proofs.Common.{◌≡◌, ◌-◌, Bool, not, true, false, pos, get_or, refl, arith, sym, ap, ◌∙◌, Some, true≢false}
use Rattle.std.proofs.lemmas.Option.{slice_get-get_or}
use Rattle.lin_events.specs.declared.items.Item.TheVariants.{Int}
use Rattle.lin_events.specs.Sameness.{Decides-item_eq, item_same}
use Rattle.lin_objects.specs.lemmas.Bags.{just_ahead}
use Rattle.lin_objects.proofs.bags.is_first.Goals as goal

from_not : (b : Bool) → not b ≡ false → b ≡ true
from_not true e = refl
from_not false e = absurd (true≢false e)

pub returns-else-at-eq0-clause-first : goal.returns-else-at-eq0-clause-first
returns-else-at-eq0-clause-first c = λ differ k lt same.
    let e = just_ahead c.args.items.now k c.args.at (Int (pos 0)) c.requires.ordered lt c.requires.place same in
    absurd (true≢false (sym differ ∙ c.ne.ensures ∙ ap not ((Decides-item_eq _ _).1 e)))

pub returns-else-at-eq0-clause-again : goal.returns-else-at-eq0-clause-again
returns-else-at-eq0-clause-again c = λ is.
    let xs = c.args.items.now in
    let same : get_or xs (c.args.at - 1) (Int (pos 0)) ≡ get_or xs c.args.at (Int (pos 0)) = item_same _ _ (from_not _ (sym c.ne.ensures ∙ is)) in
    (c.args.at - 1, omega arith, slice_get-get_or xs (c.args.at - 1) (Int (pos 0)) (omega arith) ∙ ap Some same ∙ sym (slice_get-get_or xs c.args.at (Int (pos 0)) c.requires.place))
