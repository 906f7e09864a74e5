use Rattle.std.proofs.Common.{◌≡◌, ◌+◌, ◌<◌, ◌≤◌, ◌∷◌, ◌++◌, [], Some, length, get_or, pos, ap, subst, sym, ◌∙◌}
use Rattle.std.specs.Global.{Vec}
use Rattle.std.specs.Prelude.{slice_get}
use Rattle.std.proofs.lemmas.Option.{slice_get-get_or}
use Rattle.lin_events.specs.declared.items.Item.{Item}
use Rattle.lin_events.specs.declared.items.Item.TheVariants.{Int}
use Rattle.lin_objects.specs.inner.Taking.{IsAgainAt, IsFirstAt}
use Rattle.lin_objects.specs.Bags.{without_one}
use Rattle.lin_objects.specs.declared.states.State.{State}
use Rattle.lin_objects.specs.lemmas.Bags.{first_taken}
use Rattle.lin_objects.proofs.Taken.{AreTaken, all_taken, as_taken, none_taken, taken, takes_again, takes_first}
use Rattle.lin_events.specs.declared.calls.Reply.{Reply}
use Rattle.lin_objects.proofs.taking.taken_out.Goals as goal
use Rattle.lin_objects.proofs.taking.taken_out.Goals.{then-is_first+in_ok-without+in_ok-push, else-is_first}

pub loop-at-init : goal.loop-at-init
loop-at-init c = subst (AreTaken c.args.bag.now 0) (sym c.requires.empty) (none_taken c.args.bag.now)

pub returns : goal.returns
returns c = all_taken c.args.bag.now c.loop-at.at c.loop-at.out.items c.requires.some
    (subst (λ l. length l ≤ c.loop-at.at) c.as_slice-at-end.ensures.items c.loop-at-test.false) c.loop-at.invariant

pub loop-at-preserved : goal.loop-at-preserved
loop-at-preserved c =
    let q = c.args.bag.now in
    let at = c.loop-at.at in
    let y : Item = get_or q at (Int (pos 0)) in
    let there : slice_get q at ≡ Some y = slice_get-get_or q at (Int (pos 0)) (subst (λ l. at < length l) c.as_slice-at-end.ensures.items c.loop-at-test.true) in
    elim c.if-is_first.branch [
      | then-is_first+in_ok-without+in_ok-push w ↦ (
          let first : IsFirstAt q at = subst (λ l. IsFirstAt l at) c.as_slice.ensures.items (c.is_first.ensures.first w.if-is_first.true) in
          let gone : w.in_ok-without.field-0 ≡ without_one y q = w.in_ok-without.ensures ∙ first_taken q at y there first in
          let item = ap (λ l. get_or l at (Int (pos 0))) w.as_slice-then-is_first.ensures.items in
          let pushed : c.if-is_first.out.items ≡ c.loop-at.out.items ++ taken q y ∷ [] =
          subst (λ p. c.if-is_first.out.items ≡ c.loop-at.out.items ++ p ∷ []) (as_taken q y _ _ gone item) (ap (λ (v : Vec (State × Reply)). v.items) w.out-is ∙ w.in_ok-push.ensures.items) in
          subst (AreTaken q (at + 1)) (sym pushed) (takes_first q at y c.loop-at.out.items there first c.loop-at.invariant))
      | else-is_first w ↦ (
          let again : IsAgainAt q at = subst (λ l. IsAgainAt l at) c.as_slice.ensures.items (c.is_first.ensures.again w.if-is_first.false) in
          subst (λ (v : Vec (State × Reply)). AreTaken q (at + 1) v.items) (sym w.out-is) (takes_again q at y c.loop-at.out.items there again c.loop-at.invariant))
    ]
