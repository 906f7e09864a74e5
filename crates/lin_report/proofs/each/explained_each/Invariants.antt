use Rattle.std.proofs.Common.{◌≡◌, option_map, take}
use Rattle.lin_report.specs.Explanations.{AreExplained}
use Rattle.lin_report.proofs.each.explained_each.Given as goal

abbrev pub invariant-loop-one : goal.invariant-loop-one
invariant-loop-one l = record {
  each : AreExplained l.names l.question.0 l.fn.session.present l.question.1 (option_map (λ p. p.now) l.places) (take l.one-index l.found) l.text.items;
  present : l.session.present ≡ l.fn.session.present;
}
