use Rattle.lin_edn.proofs.reader.settle.Goals as goal

pub returns-in-Inside : goal.returns-in-Inside
returns-in-Inside c = λ s at. let e = rw c.in-Inside.is at c.in_ok-finish.ensures in (e c.args.used, tt)

pub returns-in-Alone : goal.returns-in-Alone
returns-in-Alone c = λ s at. let e = rw c.in-Alone.is at c.in_ok-finish.ensures in e c.args.used
