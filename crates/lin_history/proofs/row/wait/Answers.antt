use Rattle.std.proofs.Common.{sym, ◌∙◌}
use Rattle.lin_edn.specs.View.{view}
use Rattle.lin_names.specs.lemmas.Begins.{begins_itself}
use Rattle.lin_history.proofs.Waiting.{told_behind_fault, told_on, told_fault_on}
use Rattle.lin_history.proofs.row.wait.Goals as goal

pub returns-then-is_some-clause-begun : goal.returns-then-is_some-clause-begun
returns-then-is_some-clause-begun c = begins_itself c.args.names.now

pub returns-then-is_some-clause-ok : goal.returns-then-is_some-clause-ok
returns-then-is_some-clause-ok c = λ m is.
    told_behind_fault m (view c.args.element.now) c.args.waiting.now.items c.args.ends.now (sym c.is_some.ensures ∙ c.if-is_some.true)

pub returns-in-Ok-clause-ok : goal.returns-in-Ok-clause-ok
returns-in-Ok-clause-ok c = λ m is.
    told_on m (view c.args.element.now) c.args.waiting.now.items c.tell_one.new.ready.items c.args.ends.now
    (sym c.is_some.ensures ∙ c.if-is_some.false) (c.in-Ok.ensures.told m is)

pub returns-in_default-clause-ok : goal.returns-in_default-clause-ok
returns-in_default-clause-ok c = λ m is.
    told_fault_on m (view c.args.element.now) c.args.waiting.now.items c.tell_one.new.ready.items c.args.ends.now c.in-Err.fault
    (sym c.is_some.ensures ∙ c.if-is_some.false) c.in_default.not-OutOfMemory (c.in-Err.ensures.told m is)
