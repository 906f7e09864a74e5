use Rattle.std.proofs.Common.{◌≡◌, ◌+◌, ◌-◌, ◌++◌, [], ◌∷◌, suc, Some, drop, take, get_or, refl, sym, ap, ◌∙◌, arith, append_assoc}
use Rattle.std.proofs.lemmas.List.{append-nil, length-drop, take_all, get_or-drop}
use Rattle.std.proofs.lemmas.Option.{slice_get-get_or}
use Rattle.lin_lists.specs.lemmas.Lists.{take_next}
use Rattle.lin_frontier.proofs.changes.reopen.Goals as goal

pub loop-place-init : goal.loop-place-init
loop-place-init c = record {
  from = omega arith;
  items = sym (ap (λ n. c.args.operations.now.items ++ take n (drop c.args.count c.args.ended.now.items)) (let e : c.args.count - c.args.count ≡ 0 = omega arith in e) ∙ append-nil c.args.operations.now.items);
  len = omega arith;
  capacity = refl;
}

pub loop-place-preserved : goal.loop-place-preserved
loop-place-preserved c =
    let was = c.loop-place.invariant in
    let place = c.loop-place.place in
    let count = c.args.count in
    let rest = drop count c.args.ended.now.items in
    let o = c.index.result.now in
    let k = place - count in
    let next : place + 1 - count ≡ suc k = omega (arith, was.from) in
    let back : count + k ≡ place = omega (arith, was.from) in
    let there = slice_get-get_or rest k o (omega (arith, length-drop count c.args.ended.now.items, was.from, c.loop-place-test.true, c.args.ended.now.ok.0)) in
    let same = get_or-drop count c.args.ended.now.items k o ∙ ap (λ n. get_or c.args.ended.now.items n o) back ∙ sym c.index.ensures in
    record {
      from = omega (arith, was.from);
      items = c.push_reserved.ensures.items ∙ ap (λ l. l ++ o ∷ []) was.items ∙ append_assoc c.args.operations.now.items (take k rest) (o ∷ [])
          ∙ ap (λ l. c.args.operations.now.items ++ l) (sym (ap (λ n. take n rest) next ∙ take_next k rest o (there ∙ ap Some same)));
      len = omega (arith, was.len, c.push_reserved.ensures.len);
      capacity = c.push_reserved.ensures.capacity ∙ was.capacity;
    }

pub returns-clause-operations : goal.returns-clause-operations
returns-clause-operations c =
    let was = c.loop-place.invariant in
    let rest = drop c.args.count c.args.ended.now.items in
    was.items ∙ ap (λ l. c.args.operations.now.items ++ l) (take_all (c.loop-place.place - c.args.count) rest (omega (arith, length-drop c.args.count c.args.ended.now.items, was.from, c.loop-place-test.false, c.args.ended.now.ok.0)))
