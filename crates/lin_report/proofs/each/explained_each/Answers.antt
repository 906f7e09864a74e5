use Rattle.std.proofs.Common.{[], option_map, refl, subst, sym}
use Rattle.lin_report.specs.Explanations.{AreExplained}
use Rattle.lin_report.specs.Explanations.AreExplained.{nothing}
use Rattle.lin_report.proofs.each.explained_each.Goals as goal

pub loop-one-init : goal.loop-one-init
loop-one-init c = record {
  each = subst (AreExplained c.args.names.now c.args.question.0 c.args.session.now.present c.args.question.1 (option_map (λ p. p.now) c.args.places) []) (sym c.new-text.ensures.items) nothing;
  present = refl;
}
