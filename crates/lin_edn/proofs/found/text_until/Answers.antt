use Rattle.std.proofs.Common.{◌<◌, arith}
use Rattle.lin_edn.specs.lemmas.Rising.{element_past}
use Rattle.lin_edn.proofs.Simple.{text_found, text_unescaped}
use Rattle.lin_edn.proofs.Standing.{one_element, text_stands}
use Rattle.lin_edn.proofs.found.text_until.Goals as goal

pub returns-then-input-until-eq34-clause-text : goal.returns-then-input-until-eq34-clause-text
returns-then-input-until-eq34-clause-text c = λ far n.
    let from_end = c.if-from-end.false in
    let le = c.requires.begun in
    let within = c.requires.inside in
    let ne = c.if-until-end.false in
    let upto = c.plain_end-until.ensures.1 in
    text_stands c.args.input.now c.args.from c.plain_end-until.result c.args.end (omega arith) c.if-input-from-ne34.false
    c.plain_end-until.ensures within (omega arith) c.if-input-until-eq34.true n

pub returns-then-from-end-clause-found : goal.returns-then-from-end-clause-found
returns-then-from-end-clause-found c = λ begins levels v used few e simple lt.
    let past : c.args.from < used = (element_past e).0 in
    let here = c.if-from-end.true in
    absurd (omega arith)

pub returns-then-until-end-clause-found : goal.returns-then-until-end-clause-found
returns-then-until-end-clause-found c = λ begins levels v used few e simple lt.
    absurd (text_found c.args.input.now c.args.from c.plain_end-until.result c.args.end levels used v c.plain_end-until.ensures c.if-until-end.true e simple begins lt)

pub returns-then-input-until-eq34-clause-found : goal.returns-then-input-until-eq34-clause-found
returns-then-input-until-eq34-clause-found c = λ begins levels v used few e simple lt.
    let later = c.plain_end-until.ensures.0 in
    (one_element few few (returns-then-input-until-eq34-clause-text c (omega arith) levels) e).1

pub returns-else-input-until-eq34-clause-found : goal.returns-else-input-until-eq34-clause-found
returns-else-input-until-eq34-clause-found c = λ begins levels v used few e simple lt.
    let le = c.plain_end-until.ensures.1 in
    let ne = c.if-until-end.false in
    absurd (text_unescaped c.args.input.now c.args.from c.plain_end-until.result c.args.end levels used v c.plain_end-until.ensures (omega arith)
    c.if-input-until-eq34.false e simple begins lt)
