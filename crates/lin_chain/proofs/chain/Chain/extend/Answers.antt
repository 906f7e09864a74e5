use Rattle.std.proofs.Common.{◌≡◌, length, sym, subst, refl, Result, Ok, Err, OnOk, arith}
use Rattle.lin_events.specs.declared.lists.OutOfMemory.{OutOfMemory}
use Rattle.lin_order.specs.Parts.{events_at}
use Rattle.lin_engines.specs.lemmas.Picks.{length-events_at}
use Rattle.lin_chain.specs.declared.beside.Beside.TheVariants.{Exact}
use Rattle.lin_chain.proofs.Chaining.{IsToldDecided, exact_decides, exact_told}
use Rattle.lin_chain.proofs.chain.Chain.extend.Goals as goal

on_ok : (r : Result (Unit {0}) OutOfMemory) (P Q : Type 0) → OnOk r P → (P → Q) → OnOk r Q
on_ok (Ok x) P Q was then = then was
on_ok (Err e) P Q was then = tt

pub returns-in-Exact-clause-decided : goal.returns-in-Exact-clause-decided
returns-in-Exact-clause-decided c = λ exact enough.
    let h = events_at c.args.events.now c.args.picks.now in
    let long = length-events_at c.args.events.now c.args.picks.now c.requires.inside in
    on_ok c.go_on.result _ _ c.go_on.ensures.all (λ all. exact_decides (record c.begin.new.self { beside = Exact c.go_on.new.self }) (length c.args.picks.now) (exact_told c.go_on.new.self h (length c.args.picks.now) (sym long) all c.go_on.ensures.right))
