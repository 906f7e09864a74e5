use Rattle.std.proofs.Common.{◌≡◌, ◌≤◌, count_by, take, codes}
use Rattle.std.specs.Str.{bytes_eq}
use Rattle.lin_program.proofs.said.input_count.Given as goal

abbrev pub invariant-loop-name : goal.invariant-loop-name
invariant-loop-name l = record {
  counted : l.count ≡ count_by (λ n. bytes_eq n.now (codes "-")) (take l.name-index l.names);
  within : l.count ≤ l.name-index;
}
