use Rattle.std.proofs.Common.{◌≡◌, All, map, take}
use Rattle.lin_certificate_lines.specs.Groups.{IsBetween}
use Rattle.lin_certificate_lines.proofs.registers.pairs_of.Given as goal

abbrev pub invariant-loop-other : goal.invariant-loop-other
invariant-loop-other l = record {
  begin : map (λ pair. pair.0) l.pairs.items ≡ take l.other-index l.others;
  between : All (λ pair. IsBetween l.told.events.now pair.0 l.operation pair.1) l.pairs.items;
}
