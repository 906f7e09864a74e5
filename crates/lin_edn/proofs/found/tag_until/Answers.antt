use Rattle.std.proofs.Common.{◌+◌, ◌≤◌, arith, sym, ◌∙◌}
use Rattle.lin_edn.proofs.Simple.{hash_begins, only_tag, tag_begins, tag_ends, tag_named, tag_room}
use Rattle.lin_edn.proofs.Standing.{tag_stands}
use Rattle.lin_edn.proofs.found.tag_until.Goals as goal

pub returns-else-until-end-clause-tag : goal.returns-else-until-end-clause-tag
returns-else-until-end-clause-tag c = λ far.
    let within = c.requires.inside in
    let room = c.if-end-from-lt2.false in
    let ne = c.if-until-end.false in
    let upto = c.run_end-until.ensures.1 in
    tag_stands c.args.input.now c.args.from c.run_end-until.result c.args.end (omega arith) c.if-input-from-ne35.false (sym c.in-Tag.ensures)
    c.run_end-until.ensures within (omega arith)

pub returns-then-end-from-lt2-clause-found : goal.returns-then-end-from-lt2-clause-found
returns-then-end-from-lt2-clause-found c = λ until tag lt.
    let two : c.args.from + 2 ≤ until = tag_room c.args.input.now c.args.from until tag in
    let le = c.requires.begun in
    let few = c.if-end-from-lt2.true in
    absurd (omega arith)

pub returns-then-input-from-ne35-clause-found : goal.returns-then-input-from-ne35-clause-found
returns-then-input-from-ne35-clause-found c = λ until tag lt.
    absurd (hash_begins _ c.if-input-from-ne35.true (tag_begins c.args.input.now c.args.from until tag))

pub returns-in_default : goal.returns-in_default
returns-in_default c = record {
  within = (omega arith, c.requires.begun);
  tag = λ far. absurd (omega arith);
  found = λ until tag lt. absurd (c.in_default.not-Tag (only_tag c.behind_hash.result (c.behind_hash.ensures ∙ tag_named c.args.input.now c.args.from until tag)));
}

pub returns-then-until-end-clause-found : goal.returns-then-until-end-clause-found
returns-then-until-end-clause-found c = λ until tag lt.
    let same = tag_ends c.args.input.now c.args.from c.run_end-until.result c.args.end until c.run_end-until.ensures tag lt in
    let here = c.if-until-end.true in
    absurd (omega arith)

pub returns-else-until-end-clause-found : goal.returns-else-until-end-clause-found
returns-else-until-end-clause-found c = λ until tag lt. tag_ends c.args.input.now c.args.from c.run_end-until.result c.args.end until c.run_end-until.ensures tag lt
