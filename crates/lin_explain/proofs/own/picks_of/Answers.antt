use Rattle.std.proofs.Common.{◌+◌, ◌∙◌, take, refl, subst, sym, true≢false}
use Rattle.lin_events.specs.Sameness.{Decides-item_eq}
use Rattle.lin_order.specs.Parts.{ArePositionsOf, part}
use Rattle.lin_explain.proofs.Parting.{with_one, without_one}
use Rattle.lin_explain.proofs.own.picks_of.Goals as goal
use Rattle.lin_explain.proofs.own.picks_of.Goals.{then-is_of+in_ok-push, else-is_of}

pub loop-at-preserved : goal.loop-at-preserved
loop-at-preserved c =
    let key = c.args.key in
    let h = c.args.present.now.history in
    let at = c.loop-at.at in
    let picks = c.loop-at.picks.items in
    let events = part key (take at h) in
    elim c.if-is_of.branch [
      | then-is_of+in_ok-push w ↦
          let next = with_one c.parts_grow.ensures.more key h at c.in-Some.event.now c.in-Some.ensures.found events picks (refl, c.loop-at.invariant) ((Decides-item_eq c.in-Some.event.now.key key).0 (sym w.if-is_of.ensures)) in
          subst (λ p. ArePositionsOf key (take (at + 1) h) p.items) (sym w.picks-is) (subst (ArePositionsOf key (take (at + 1) h)) (sym w.in_ok-push.ensures.items) next.1)
      | else-is_of w ↦
          let next = without_one c.parts_grow.ensures.more key h at c.in-Some.event.now c.in-Some.ensures.found events picks (refl, c.loop-at.invariant) (λ same. true≢false (sym ((Decides-item_eq c.in-Some.event.now.key key).1 same) ∙ sym w.if-is_of.ensures)) in
          subst (λ p. ArePositionsOf key (take (at + 1) h) p.items) (sym w.picks-is) next.1
    ]
