use Rattle.std.proofs.Common.{◌++◌, ap, arith, eqb-true, length, length-append, sym, ◌∙◌}
use Rattle.std.specs.Vec.{vec_len}
use Rattle.lin_formats.proofs.Taking.{none_of, ready_fit, ready_many}
use Rattle.lin_formats.proofs.inputs.take_ready.Goals as goal

pub returns-then-len-clause-all : goal.returns-then-len-clause-all
returns-then-len-clause-all c = λ names bytes seen. ready_many names _ _ bytes _ _ c.take_all-more.ensures seen (omega arith)

pub returns-then-is_empty-clause-all : goal.returns-then-is_empty-clause-all
returns-then-is_empty-clause-all c = λ names bytes seen.
    let none = eqb-true (vec_len c.args.events.now) 0 (sym c.is_empty.ensures ∙ c.if-is_empty.true) in
    ready_fit names _ _ bytes _ _ _ c.take_all-more.ensures seen
    (ap (λ es. es ++ c.take_all-more.result.items) (none_of c.args.events.now.items (omega (arith, none)))) (omega (arith, c.if-len.false))

pub returns-in_ok-append-clause-all : goal.returns-in_ok-append-clause-all
returns-in_ok-append-clause-all c = λ names bytes seen. ready_fit names _ _ bytes _ _ _ c.take_all-more.ensures seen c.in_ok-append.ensures.items
    (omega (arith, ap length c.in_ok-append.ensures.items, length-append c.args.events.now.items c.take_all-more.result.items, c.if-len.false))
