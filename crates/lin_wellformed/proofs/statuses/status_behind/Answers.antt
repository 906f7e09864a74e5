use Rattle.std.proofs.Common.{length, refl, subst}
use Rattle.std.proofs.lemmas.Option.{slice_get_read}
use Rattle.lin_wellformed.specs.Scans.{processes_of}
use Rattle.lin_wellformed.specs.Tables.{IsLastPlace}
use Rattle.lin_wellformed.proofs.StatusLemmas.{status_last, status_none}
use Rattle.lin_wellformed.proofs.statuses.status_behind.Goals as goal

pub returns-in-Some : goal.returns-in-Some
returns-in-Some c = λ process last.
    let h = c.args.events.now in
    let at = c.in-Some.at in
    let stands = slice_get_read h (length h) at c.index-events-at.result refl (c.requires at c.in-Some.is) c.index-events-at.is in
    status_last h process at c.index-events-at.result c.status_after.result stands (subst (IsLastPlace (processes_of h) process) c.in-Some.is last) c.status_after.ensures

pub returns-in-None : goal.returns-in-None
returns-in-None c = λ process none. status_none c.args.events.now process (subst (IsLastPlace (processes_of c.args.events.now) process) c.in-None.is none)
