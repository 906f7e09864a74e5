use Rattle.std.proofs.Common.{◌<◌, sym, ◌∙◌, arith}
use Rattle.lin_edn.specs.lemmas.Rising.{element_past}
use Rattle.lin_edn.proofs.Simple.{run_found}
use Rattle.lin_edn.proofs.Standing.{one_element, run_stands}
use Rattle.lin_edn.proofs.found.run_until.Goals as goal

pub returns-else-until-end-clause-run : goal.returns-else-until-end-clause-run
returns-else-until-end-clause-run c = λ far n.
    let from_end = c.if-from-end.false in
    let le = c.requires.begun in
    let within = c.requires.inside in
    let ne = c.if-until-end.false in
    let upto = c.run_end-until.ensures.1 in
    run_stands c.args.input.now c.args.from c.run_end-until.result c.args.end (omega arith) (sym c.is_plain.ensures ∙ c.if-not-is_plain.false)
    c.run_end-until.ensures within (omega arith) n

pub returns-then-from-end-clause-found : goal.returns-then-from-end-clause-found
returns-then-from-end-clause-found c = λ n v used few e begins lt.
    let past : c.args.from < used = (element_past e).0 in
    let here = c.if-from-end.true in
    absurd (omega arith)

pub returns-then-until-end-clause-found : goal.returns-then-until-end-clause-found
returns-then-until-end-clause-found c = λ n v used few e begins lt.
    absurd (run_found c.args.input.now c.args.from c.run_end-until.result c.args.end n used v c.run_end-until.ensures c.if-until-end.true e begins lt)

pub returns-else-until-end-clause-found : goal.returns-else-until-end-clause-found
returns-else-until-end-clause-found c = λ n v used few e begins lt.
    let later = c.run_end-until.ensures.0 in
    (one_element few few (returns-else-until-end-clause-run c (omega arith) n) e).1
