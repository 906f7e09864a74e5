use Rattle.std.proofs.Common.{◌≡◌, ◌+◌, arith, refl}
use Rattle.lin_bytes.specs.Bytes.{a_set}
use Rattle.lin_edn.proofs.Nesting.{set_opens}
use Rattle.lin_edn.proofs.Simple.{set_begins, set_only}
use Rattle.lin_edn.proofs.nested.set_at.Goals as goal

pub returns-clause-opens : goal.returns-clause-opens
returns-clause-opens c =
    let room = c.if-end-from-lt2.false in
    let inside = c.requires.inside in
    (a_set, set_opens c.args.input.now c.args.from (omega arith) c.requires.hash c.if-input-from-ne123.false, refl)

pub returns-then-end-from-lt2-clause-none : goal.returns-then-end-from-lt2-clause-none
returns-then-end-from-lt2-clause-none c = λ k inner t opens le.
    let two : inner ≡ c.args.from + 2 = (set_only c.args.input.now c.args.from inner t k c.requires.hash opens).0 in
    let lt = c.requires.begun in
    let few = c.if-end-from-lt2.true in
    omega arith

pub returns-then-input-from-ne123-clause-none : goal.returns-then-input-from-ne123-clause-none
returns-then-input-from-ne123-clause-none c = λ k inner t opens le.
    set_begins _ c.if-input-from-ne123.true (set_only c.args.input.now c.args.from inner t k c.requires.hash opens).1
