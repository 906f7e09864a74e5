use Rattle.std.proofs.Common.{ℕ, List, sym, subst, ◌∙◌}
use Rattle.lin_edn.specs.Skimming.{HasSeen, IsOpenText}
use Rattle.lin_formats.proofs.Feeding.{none_rests, is_zero, is_some}
use Rattle.lin_formats.proofs.places.stop_within.Goals as goal
use Rattle.lin_formats.proofs.places.stop_within.Goals.{then-is_empty-via-then-is_empty, then-is_empty-via-else-is_empty+then-is_comment}

pub returns-then-is_empty-clause-rests : goal.returns-then-is_empty-clause-rests
returns-then-is_empty-clause-rests c =
    let (text, is, known) = c.requires in
    let seen : HasSeen c.go_on-rest.new.self c.args.held.now = subst (λ (l : List ℕ). HasSeen c.go_on-rest.new.self l) (sym is) (c.go_on-rest.ensures.seen c.if-not-rest-2.false text (known c.if-not-rest.false)) in
    elim c.then-is_empty.branch [
      | then-is_empty-via-then-is_empty w ↦ none_rests c.args.held.now (is_zero _ (sym c.is_empty.ensures ∙ w.if-is_empty.true))
      | then-is_empty-via-else-is_empty+then-is_comment w ↦
          subst (λ b. IsOpenText b c.args.held.now) w.if-is_comment.true (w.is_comment.ensures c.args.held.now seen (is_some _ (sym c.is_empty.ensures ∙ w.if-is_empty.false)))
    ]
