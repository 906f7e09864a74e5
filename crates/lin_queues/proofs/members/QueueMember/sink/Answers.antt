use Rattle.std.proofs.Common.{◌++◌, ◌∷◌, [], pos, get_or, sym, subst, refl, arith, ◌∙◌, Contains, ◌≤◌}
use Rattle.std.proofs.lemmas.Bool.{false≢true}
use Rattle.std.proofs.lemmas.List.{length-append}
use Rattle.std.proofs.lemmas.Option.{slice_get_within, slice_get-get_or}
use Rattle.lin_events.specs.declared.items.Item.TheVariants.{Int}
use Rattle.lin_queues.specs.Members.{Told, IsInside, first_debt, view_of}
use Rattle.lin_queues.proofs.Telling.{told_sunk, told_passed, told_many, passed_left}
use Rattle.lin_queues.specs.Reaching.{Sinks, rests, passes, owes}
use Rattle.lin_queues.specs.declared.elements.Element.{Element}
use Rattle.lin_queues.proofs.Lists.{one_there}
use Rattle.lin_queues.proofs.members.QueueMember.sink.Goals as goal

pub returns-then-len-most-clause-stuck : goal.returns-then-len-most-clause-stuck
returns-then-len-most-clause-stuck c = λ is whole order n enqueues told owes.
    let low = c.loop-self.self.low in
    let v = view_of c.loop-self.self in
    let all = c.args.elements.now in
    let now = c.loop-self.invariant.told whole order n enqueues told owes in
    let first = get_or all low (record { place = 0; returned = 0; item = Int (pos 0); earlier = 0 }) in
    let at = slice_get-get_or all low (record { place = 0; returned = 0; item = Int (pos 0); earlier = 0 }) c.loop-self-test.true in
    let kept : Contains v.gone low → ⊥ = λ c'. false≢true (sym c.if-is_in.false ∙ c.is_in.ensures.1 (subst (λ l. Contains l low) (sym c.as_slice.ensures.value) c')) in
    let owed = owes low first at c.if-first-by.false (c.loop-self.invariant.left first.place (low, first, omega arith, at, refl, kept)) in
    let after = told_sunk whole order n all v now c.debts_move.ensures.sink enqueues first c.args.time at kept owed in
    let many = told_many whole order n all _ after in
    let more = length-append v.debts (first_debt first c.args.time ∷ []) in
    let len = c.len.ensures in let most = c.if-len-most.true in let ok = c.loop-self.self.debts.ok.0 in
    (after.debtor, after.follows, omega arith)

pub loop-self-preserved-then-is_in : goal.loop-self-preserved-then-is_in
loop-self-preserved-then-is_in c =
    let v = view_of c.loop-self.self in
    record {
      told = λ whole order n enqueues told owes.
          subst (Told whole order n c.args.elements.now) (sym c.pass.ensures)
          (told_passed whole order n c.args.elements.now v (c.loop-self.invariant.told whole order n enqueues told owes) c.loop-self-test.true
          (subst (λ l. Contains l v.low) c.as_slice.ensures.value (c.is_in.ensures.0 c.if-is_in.true)));
      left = λ e inside. c.loop-self.invariant.left e (passed_left c.args.elements.now v v.debts e (subst (λ w. IsInside c.args.elements.now w e) c.pass.ensures inside));
      sinks = λ w sinks. c.loop-self.invariant.sinks w (passes c.loop-self-test.true (subst (λ l. Contains l v.low) c.as_slice.ensures.value (c.is_in.ensures.0 c.if-is_in.true)) (subst (λ u. Sinks c.args.elements.now c.args.by c.args.time u w) c.pass.ensures sinks));
    }

pub loop-self-preserved : goal.loop-self-preserved
loop-self-preserved c =
    let v = view_of c.loop-self.self in
    let all = c.args.elements.now in
    let first = get_or all v.low (record { place = 0; returned = 0; item = Int (pos 0); earlier = 0 }) in
    let at = slice_get-get_or all v.low (record { place = 0; returned = 0; item = Int (pos 0); earlier = 0 }) c.loop-self-test.true in
    let kept : Contains v.gone v.low → ⊥ = λ c'. false≢true (sym c.if-is_in.false ∙ c.is_in.ensures.1 (subst (λ l. Contains l v.low) (sym c.as_slice.ensures.value) c')) in
    record {
      told = λ whole order n enqueues told owes.
          subst (Told whole order n all) (sym c.in_ok-owe.ensures)
          (told_sunk whole order n all v (c.loop-self.invariant.told whole order n enqueues told owes) c.debts_move.ensures.sink enqueues first c.args.time at kept
          (owes v.low first at c.if-first-by.false (c.loop-self.invariant.left first.place (v.low, first, omega arith, at, refl, kept))));
      left = λ e inside. c.loop-self.invariant.left e (passed_left all v (v.debts ++ first_debt first c.args.time ∷ []) e (subst (λ w. IsInside all w e) c.in_ok-owe.ensures inside));
      sinks = λ w sinks. c.loop-self.invariant.sinks w (owes first at kept c.if-first-by.false (subst (λ u. Sinks all c.args.by c.args.time u w) c.in_ok-owe.ensures sinks));
    }

pub returns-then-first-by-clause-sinks : goal.returns-then-first-by-clause-sinks
returns-then-first-by-clause-sinks c = λ is.
    let v = view_of c.loop-self.self in
    let all = c.args.elements.now in
    let at = slice_get-get_or all v.low (record { place = 0; returned = 0; item = Int (pos 0); earlier = 0 }) c.loop-self-test.true in
    let kept : Contains v.gone v.low → ⊥ = λ c'. false≢true (sym c.if-is_in.false ∙ c.is_in.ensures.1 (subst (λ l. Contains l v.low) (sym c.as_slice.ensures.value) c')) in
    c.loop-self.invariant.sinks v (rests (λ first there. (kept, subst (λ (x : Element). c.args.by ≤ x.returned) (one_there all v.low _ first at there) c.if-first-by.true)))

pub returns-clause-sinks : goal.returns-clause-sinks
returns-clause-sinks c = λ is.
    let v = view_of c.loop-self.self in
    c.loop-self.invariant.sinks v (rests (λ first there. absurd (let l = slice_get_within c.args.elements.now v.low first there in let last = c.loop-self-test.false in omega arith)))
