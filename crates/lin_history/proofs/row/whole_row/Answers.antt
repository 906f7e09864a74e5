use Rattle.lin_history.proofs.row.whole_row.Goals as goal

pub returns-in-Closed-clause-told : goal.returns-in-Closed-clause-told
returns-in-Closed-clause-told c = λ m is. (rw c.in-Closed.is at (c.in_ok-used.ensures.told m is)) (c.in-Some.ensures.waits m)
