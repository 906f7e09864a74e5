use Rattle.std.proofs.Common.{[], arith}
use Rattle.std.proofs.lemmas.Option.{slice_get_within}
use Rattle.lin_locks.specs.inner.Known.{part_of}
use Rattle.lin_locks.proofs.Going.{filled_begins}
use Rattle.lin_locks.proofs.Siding.{sides_begin}
use Rattle.lin_locks.proofs.standings.Standing.new.Goals as goal

pub returns : goal.returns
returns c = record {
  running = λ at process key call opened. absurd (let inside = slice_get_within [] at _ opened.begins in omega (arith, inside));
  sides = record {
    sides = sides_begin (part_of c.new.result) (part_of c.new-2.result) c.new.ensures.open c.new.ensures.debts c.new-2.ensures.open c.new-2.ensures.debts;
    order = filled_begins (part_of c.new.result) (part_of c.new-2.result) c.new.ensures.open c.new.ensures.debts c.new-2.ensures.open c.new-2.ensures.debts c.new-3.result.items c.new-3.ensures.items;
  };
}
