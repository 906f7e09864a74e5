use Rattle.lin_edn.proofs.reader.end_atom.Goals as goal

pub returns-in-Inside : goal.returns-in-Inside
returns-in-Inside c = λ s at. let e = rw (c.in-Inside.is, c.atom_of.ensures) at c.in_ok-finish.ensures in (e at, tt)

pub returns-in-Alone : goal.returns-in-Alone
returns-in-Alone c = λ s at. let e = rw (c.in-Alone.is, c.atom_of.ensures) at c.in_ok-finish.ensures in e at
