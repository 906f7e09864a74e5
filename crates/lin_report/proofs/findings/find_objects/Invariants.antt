use Rattle.std.proofs.Common.{◌≡◌, take}
use Rattle.lin_report.specs.Reports.{AreFindings}
use Rattle.lin_report.specs.inner.Still.{IsAllKnown, IsStill}
use Rattle.lin_report.proofs.findings.find_objects.Given as goal

abbrev pub invariant-loop-key : goal.invariant-loop-key
invariant-loop-key l = record {
  found : AreFindings l.fn.session.present (take l.key-index l.keys) l.found.items;
  present : l.session.present ≡ l.fn.session.present;
  still : IsAllKnown l.fn.session → IsStill 0 l.fn.session l.session;
}
