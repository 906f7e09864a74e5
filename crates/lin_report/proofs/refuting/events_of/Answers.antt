use Rattle.std.proofs.Common.{◌≡◌, [], ◌∷◌, ◌++◌, sym, ap, ◌∙◌, true≢false}
use Rattle.lin_events.specs.Sameness.{Decides-item_eq}
use Rattle.lin_report.proofs.Refuted.{part_more, part_same}
use Rattle.lin_report.proofs.refuting.events_of.Goals as goal
use Rattle.lin_report.proofs.refuting.events_of.Goals.{then-eq+in_ok-copy+in_ok-push, else-eq}

pub loop-at-preserved : goal.loop-at-preserved
loop-at-preserved c =
    let key = c.args.key in
    let h = c.args.session.now.present.history in
    let event = c.in-Some.event.now in
    let stands = c.in-Some.ensures.found in
    elim c.if-eq.branch [
      | then-eq+in_ok-copy+in_ok-push w ↦
          let same : event.key ≡ key = (Decides-item_eq event.key key).0 (sym c.eq.ensures ∙ w.if-eq.true) in
          ap (λ v. v.items) w.events-is ∙ w.in_ok-push.ensures.items ∙ ap (λ e. c.loop-at.events.items ++ e ∷ []) w.in_ok-copy.ensures ∙ ap (λ l. l ++ event ∷ []) c.loop-at.invariant
          ∙ sym (part_more c.parts_grow.ensures.more key h c.loop-at.at event stands same)
      | else-eq w ↦
          ap (λ v. v.items) w.events-is ∙ c.loop-at.invariant
          ∙ sym (part_same c.parts_grow.ensures.more key h c.loop-at.at event stands (λ same. true≢false (sym ((Decides-item_eq event.key key).1 same) ∙ sym c.eq.ensures ∙ w.if-eq.false)))
    ]
