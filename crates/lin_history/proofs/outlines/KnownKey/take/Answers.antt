use Rattle.std.proofs.Common.{◌+◌, ap, sym, subst, arith}
use Rattle.lin_edn.specs.Run.{run_value}
use Rattle.lin_edn.specs.Segments.{IsFront}
use Rattle.lin_history.proofs.Maps.{entry_behind}
use Rattle.lin_history.proofs.outlines.KnownKey.take.Goals as goal

pub returns-clause-taken : goal.returns-clause-taken
returns-clause-taken c = λ far start upto.
    let s = c.args.text.now in
    let from = c.args.from in
    let inside = c.self.inside in
    let run = inside.segment.run in
    let at = from + c.size.result in
    let front : IsFront s from run at = subst (IsFront s from run) (ap (λ n. from + n) (sym c.size.ensures.size)) (c.stands.ensures c.if-not-stands.false) in
    let value = c.usual_value-used.ensures.value (let a = c.usual_value-used.ensures.within.0 in let b = c.if-used-at.false in omega arith) in
    entry_behind s start from at c.usual_value-used.result.1 c.args.levels c.usual_value-used.result.0 (run_value front.0 run) value.0 c.args.places.now c.keep.new.places
    c.usual_value-used.ensures.at upto front.1 value.1 (c.keep.ensures c.if-not-keep.false run c.self.invariant front.0)
