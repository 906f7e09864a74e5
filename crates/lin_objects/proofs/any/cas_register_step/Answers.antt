use Rattle.lin_objects.proofs.any.cas_register_step.Goals as goal

pub returns-in-Value-Read : goal.returns-in-Value-Read
returns-in-Value-Read c =
    let holds = c.in-Value-Read.is-0 in
    let read = c.in-Value-Read.is-1 in
    rw (holds, read) (rw (holds, read) at c.register_step.ensures)

pub returns-in-Value-Write : goal.returns-in-Value-Write
returns-in-Value-Write c =
    let holds = c.in-Value-Write.is-0 in
    let write = c.in-Value-Write.is-1 in
    rw (holds, write) (rw (holds, write) at c.register_step-in-Value-Write.ensures)
