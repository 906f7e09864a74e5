use Rattle.std.proofs.Common.{ℕ, inl}
use Rattle.lin_edn.specs.Grammar.{Spells, IsBlankText, IsUnfinished}
use Rattle.lin_edn.specs.Reading.{Refuses}
use Rattle.lin_edn.specs.Value.{Value}
use Rattle.lin_history.specs.Reading.{IsReading, Reading}
use Rattle.lin_history.specs.Table.{event, IsAnswer}
use Rattle.lin_report.specs.Commands.{faulty, missing, unfinished}
use Rattle.lin_report.proofs.Maps.{read_alone, read_followed}
use Rattle.lin_report.proofs.commands.read_map.Goals as goal

pub returns-then-branch-clause-read : goal.returns-then-branch-clause-read
returns-then-branch-clause-read c = λ m is.
    let found : (v : Value) × (at : ℕ) × Spells c.args.text.now v at c.in-Ok-Complete.used × ((n : Reading) → IsReading c.args.keyed c.next_event.new.names n → IsAnswer (event n v) c.in-Ok-Complete.said) =
    rw c.in-Ok-Complete.field-0-is at c.in-Ok-Complete.ensures.says in
    read_alone m c.args.target c.args.from c.args.text.now found.0 found.1 _ _ _ found.2 c.in_ok-is_blank-in-Ok-Complete.ensures c.if-branch.true
    (c.command_of.ensures (event m found.0) (found.3 m is))

pub returns-else-branch-clause-read : goal.returns-else-branch-clause-read
returns-else-branch-clause-read c = λ m is.
    let found : (v : Value) × (at : ℕ) × Spells c.args.text.now v at c.in-Ok-Complete.used × ((n : Reading) → IsReading c.args.keyed c.next_event.new.names n → IsAnswer (event n v) c.in-Ok-Complete.said) =
    rw c.in-Ok-Complete.field-0-is at c.in-Ok-Complete.ensures.says in
    read_followed m c.args.target c.args.from c.args.text.now found.0 found.1 _ _ found.2 c.in_ok-is_blank-in-Ok-Complete.ensures c.if-branch.false

pub returns-in-Ok-Partial-clause-read : goal.returns-in-Ok-Partial-clause-read
returns-in-Ok-Partial-clause-read c = λ m is.
    let says : IsUnfinished c.args.text.now _ = rw c.in-Ok-Partial.field-0-is at c.in-Ok-Partial.ensures.says in
    inl (unfinished _ says)

pub returns-in-Ok-Blank-clause-read : goal.returns-in-Ok-Blank-clause-read
returns-in-Ok-Blank-clause-read c = λ m is.
    let says : IsBlankText c.args.text.now _ = rw c.in-Ok-Blank.field-0-is at c.in-Ok-Blank.ensures.says in
    inl (missing _ says)

pub returns-in_default-clause-read : goal.returns-in_default-clause-read
returns-in_default-clause-read c = λ m is.
    let refused : Refuses c.args.text.now c.in-Err.fault.at c.in-Err.fault.cause = c.in-Err.ensures.says in
    inl (faulty c.in-Err.fault.at c.in-Err.fault.cause refused c.in_default.not-OutOfMemory)
