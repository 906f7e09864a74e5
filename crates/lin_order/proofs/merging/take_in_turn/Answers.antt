use Rattle.std.proofs.Common.{◌≡◌, ◌+◌, ◌++◌, ◌∷◌, [], cond, is_ok, length, get_or, set, vec_capacity, sym, ap, subst, ◌∙◌, arith}
use Rattle.std.proofs.lemmas.List.{get_or-map, get_or_default, length-map, map-set}
use Rattle.lin_order.specs.Merging.{lists_of}
use Rattle.lin_order.proofs.Turns.{IsTakenTo, number_inside, some_left, taken_more, taken_whole}
use Rattle.lin_order.proofs.merging.take_in_turn.Goals as goal
use Rattle.lin_order.proofs.merging.take_in_turn.Goals.{in-Some, in_default}

pub index_mut-requires : goal.index_mut-requires
index_mut-requires c =
    let k = c.loop-number.number-index in
    let ranks = c.args.ranks.now in
    let r = get_or ranks k (0, 0) in
    let inside = number_inside (lists_of c.args.parts.items) ranks c.requires.ranks k r c.loop-number-test.true (get_or_default ranks k r (0, 0) c.loop-number-test.true)
    (lists_of c.loop-number.parts.items) c.loop-number.order.items c.loop-number.invariant.taken in
    let many : length (lists_of c.loop-number.parts.items) ≡ length c.loop-number.parts.items = length-map c.loop-number.parts.items _ in
    omega arith

pub loop-number-preserved : goal.loop-number-preserved
loop-number-preserved c =
    let k = c.loop-number.number-index in
    let ranks = c.args.ranks.now in
    let r = get_or ranks k (0, 0) in
    let parts = c.loop-number.parts.items in
    let order = c.loop-number.order.items in
    let is : get_or ranks k r ≡ r = get_or_default ranks k r (0, 0) c.loop-number-test.true in
    let inside = number_inside (lists_of c.args.parts.items) ranks c.requires.ranks k r c.loop-number-test.true is (lists_of parts) order c.loop-number.invariant.taken in
    let some = some_left (lists_of c.args.parts.items) ranks c.requires.ranks k r c.loop-number-test.true is (lists_of parts) order c.loop-number.invariant.taken in
    let many : length (lists_of parts) ≡ length parts = length-map parts _ in
    let here : get_or (lists_of parts) r.1 [] ≡ c.index_mut.result.now.items = get_or-map _ parts r.1 c.index_mut.result.now [] (omega arith) ∙ ap (λ v. v.items) (sym c.index_mut.ensures.value) in
    elim c.match-pop.branch [
      | in-Some w ↦
          let pushed : c.match-pop.order.items ≡ order ++ w.in-Some.placed ∷ [] =
          ap (λ v. v.items) w.order-is ∙ w.push.ensures.items ∙ ap (λ p. cond (is_ok p) (order ++ w.in-Some.placed ∷ []) order) w.unwrap.ensures in
          let taken = taken_more (lists_of c.args.parts.items) ranks c.requires.ranks k r c.loop-number-test.true is (lists_of parts) order c.loop-number.invariant.taken
          (lists_of (set parts r.1 c.pop.new.self)) c.pop.new.self.items w.in-Some.placed (here ∙ w.in-Some.ensures.items) (map-set _ parts r.1 c.pop.new.self) in
          let capacity : vec_capacity c.match-pop.order ≡ vec_capacity w.push.new.self = ap vec_capacity w.order-is in
          let grown = w.push.ensures.capacity in
          record {
            taken = subst (λ l. IsTakenTo (lists_of c.args.parts.items) ranks (k + 1) (lists_of (set parts r.1 c.pop.new.self)) l) (sym pushed) taken;
            room = (let room = c.loop-number.invariant.room in omega arith);
          }
      | in_default w ↦
          let none = w.in_default.ensures.cases in
          let empty : length (get_or (lists_of parts) r.1 []) ≡ length c.index_mut.result.now.items = ap length here in
          absurd (omega arith)
    ]

pub returns : goal.returns
returns c = taken_whole (lists_of c.args.parts.items) c.args.ranks.now c.requires.ranks c.loop-number.number-index (lists_of c.loop-number.parts.items) c.loop-number.order.items
    c.loop-number-test.false c.loop-number.auto.number-index-end c.loop-number.invariant.taken
