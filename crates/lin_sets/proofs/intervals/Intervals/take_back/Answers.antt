use Rattle.std.proofs.Common.{take, arith, ap, ◌∙◌}
use Rattle.lin_sets.proofs.Undoing.{many}
use Rattle.lin_sets.proofs.intervals.Intervals.take_back.Goals as goal

pub returns-in-Some-clause-told : goal.returns-in-Some-clause-told
returns-in-Some-clause-told c = λ h event all.
    let old = c.args.self.now in
    let one = many h event old.adds.items all.adds in
    c.undo.ensures.told h (record {
      adds = old.adds;
      changes = old.changes;
      event = event;
      all = all;
      taken = c.pop.ensures.rest ∙ ap (λ k. take k old.adds.items) (omega (arith, old.adds.ok.0, one));
      split = c.in-Some.ensures.items;
    })
