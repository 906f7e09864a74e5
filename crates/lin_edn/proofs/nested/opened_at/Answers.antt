use Rattle.std.proofs.Common.{◌<◌, arith, refl}
use Rattle.lin_bytes.specs.Bytes.{a_vector, a_list, a_map}
use Rattle.lin_edn.proofs.Nesting.{vector_opens, list_opens, map_opens}
use Rattle.lin_edn.specs.lemmas.Rising.{opens_past}
use Rattle.lin_edn.proofs.Simple.{none_opens}
use Rattle.lin_edn.proofs.nested.opened_at.Goals as goal

pub returns-then-input-from-eq91-clause-opens : goal.returns-then-input-from-eq91-clause-opens
returns-then-input-from-eq91-clause-opens c =
    let begun = c.requires.begun in
    let inside = c.requires.inside in
    let more = c.if-from-end.false in
    (a_vector, vector_opens c.args.input.now c.args.from (omega arith) c.if-input-from-eq91.true, refl)

pub returns-then-input-from-eq40-clause-opens : goal.returns-then-input-from-eq40-clause-opens
returns-then-input-from-eq40-clause-opens c =
    let begun = c.requires.begun in
    let inside = c.requires.inside in
    let more = c.if-from-end.false in
    (a_list, list_opens c.args.input.now c.args.from (omega arith) c.if-input-from-eq40.true, refl)

pub returns-then-input-from-eq123-clause-opens : goal.returns-then-input-from-eq123-clause-opens
returns-then-input-from-eq123-clause-opens c =
    let begun = c.requires.begun in
    let inside = c.requires.inside in
    let more = c.if-from-end.false in
    (a_map, map_opens c.args.input.now c.args.from (omega arith) c.if-input-from-eq123.true, refl)

pub returns-then-from-end-clause-none : goal.returns-then-from-end-clause-none
returns-then-from-end-clause-none c = λ k inner t opens le.
    let past : c.args.from < inner = (opens_past opens).0 in
    let here = c.if-from-end.true in
    omega arith

pub returns-then-input-from-ne35-clause-none : goal.returns-then-input-from-ne35-clause-none
returns-then-input-from-ne35-clause-none c = λ k inner t opens le.
    none_opens c.args.input.now c.args.from inner t k c.if-input-from-eq40.false c.if-input-from-eq91.false c.if-input-from-eq123.false c.if-input-from-ne35.true opens
