use Rattle.std.proofs.Common.{[], ◌∷◌, ◌++◌, OnErr, Result, Ok, Err, ◌∙◌, ap, subst, sym}
use Rattle.lin_wellformed.specs.Tables.{AreListed, IsLastPlace, processes_in}
use Rattle.lin_wellformed.proofs.TableLemmas.{same_processes, last_as, still_listed, one_listed, one_process}
use Rattle.lin_wellformed.proofs.tables.Table.take_in.Goals as goal

pub invariant_of-self-in_err-last : goal.invariant_of-self-in_err-last
invariant_of-self-in_err-last c = subst (AreListed c.number.new.self) (sym c.in_err-last.ensures.err) (still_listed c.self.inside.numbers c.number.new.self c.self.inside.events c.number.ensures.kept c.self.invariant)

on_err : {T E P : Type 0} (r : Result T E) → P → OnErr r P
on_err (Ok x) p = tt
on_err (Err e) p = p

pub returns-in_err-last-clause-err : goal.returns-in_err-last-clause-err
returns-in_err-last-clause-err c = on_err c.from_residual-in_err-last.result (ap (processes_in c.number.new.self) c.in_err-last.ensures.err ∙ same_processes c.self.inside.numbers c.number.new.self c.self.inside.events c.number.ensures.kept c.self.invariant ∙ c.self.view_is)

pub invariant_of-self-2 : goal.invariant_of-self-2
invariant_of-self-2 c = subst (AreListed c.number.new.self) (sym c.in_ok-last.ensures.pushed)
    (one_listed c.number.new.self c.self.inside.events c.in_ok-number.number c.args.process c.in_ok-number.ensures.number (still_listed c.self.inside.numbers c.number.new.self c.self.inside.events c.number.ensures.kept c.self.invariant))

pub returns-clause-last : goal.returns-clause-last
returns-clause-last c =
    let listed = still_listed c.self.inside.numbers c.number.new.self c.self.inside.events c.number.ensures.kept c.self.invariant in
    let same = same_processes c.self.inside.numbers c.number.new.self c.self.inside.events c.number.ensures.kept c.self.invariant ∙ c.self.view_is in
    subst (λ l. IsLastPlace l c.args.process c.in_ok-last.last) same
    (last_as c.number.new.self c.self.inside.events c.in_ok-number.number c.args.process c.number.ensures.once listed c.in_ok-number.ensures.number c.in_ok-last.last c.in_ok-last.ensures.last)

pub returns-clause-taken : goal.returns-clause-taken
returns-clause-taken c =
    let same = same_processes c.self.inside.numbers c.number.new.self c.self.inside.events c.number.ensures.kept c.self.invariant ∙ c.self.view_is in
    ap (processes_in c.number.new.self) c.in_ok-last.ensures.pushed ∙ one_process c.number.new.self c.self.inside.events c.in_ok-number.number c.args.process c.in_ok-number.ensures.number ∙ ap (λ l. l ++ c.args.process ∷ []) same
