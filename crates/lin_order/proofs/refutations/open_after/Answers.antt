use Rattle.std.proofs.Common.{◌+◌, ℕ, Vec, Global, ap, sym, subst, ◌∙◌, get_or, take, arith}
use Rattle.lin_order.specs.inner.Checking.{AreOpen}
use Rattle.lin_order.specs.lemmas.Each.{contains_here, at_end}
use Rattle.lin_order.proofs.Opening.{AreStillOpen, open_inside, open_newest, open_older, number_read, turn_kept, turn_dropped}
use Rattle.lin_order.proofs.refutations.open_after.Goals as goal
use Rattle.lin_order.proofs.refutations.open_after.Goals.{then-is_open_at+in_ok-push, else-is_open_at, then-is_open_at-2+in_ok-push-2, else-is_open_at-2}

pub is_open_at-requires-clause-within : goal.is_open_at-requires-clause-within
is_open_at-requires-clause-within c =
    let xs = c.args.pending.now in
    let i = c.loop-at.at-index in
    (open_inside c.args.events.now c.args.n (get_or xs i 0) ((c.requires.opened (get_or xs i 0)).0 (contains_here xs i (get_or xs i 0) c.loop-at-test.true (number_read xs i c.loop-at-test.true)))).1

pub is_open_at-requires-clause-before : goal.is_open_at-requires-clause-before
is_open_at-requires-clause-before c =
    let xs = c.args.pending.now in
    let i = c.loop-at.at-index in
    let below = (open_inside c.args.events.now c.args.n (get_or xs i 0) ((c.requires.opened (get_or xs i 0)).0 (contains_here xs i (get_or xs i 0) c.loop-at-test.true (number_read xs i c.loop-at-test.true)))).0 in
    omega arith

pub loop-at-preserved : goal.loop-at-preserved
loop-at-preserved c =
    let items = λ (v : Vec ℕ Global). v.items in
    elim c.if-is_open_at.branch [
      | then-is_open_at+in_ok-push w ↦
          turn_kept (take (c.args.n + 1) c.args.events.now) c.args.pending.now c.loop-at.at-index c.loop-at-test.true c.loop-at.now.items c.if-is_open_at.now.items c.loop-at.invariant
          (ap items w.now-is ∙ w.in_ok-push.ensures.items) (c.is_open_at.ensures.0 w.if-is_open_at.true)
      | else-is_open_at w ↦
          turn_dropped (take (c.args.n + 1) c.args.events.now) c.args.pending.now c.loop-at.at-index c.loop-at-test.true c.loop-at.now.items c.if-is_open_at.now.items c.loop-at.invariant
          (ap items w.now-is) (λ is. let yes' = c.is_open_at.ensures.1 is in let no' = w.if-is_open_at.false in cc)
    ]

pub returns : goal.returns
returns c =
    let items = λ (v : Vec ℕ Global). v.items in
    let h = c.args.events.now in
    let n = c.args.n in
    let g = take (n + 1) h in
    let still = at_end c.args.pending.now c.loop-at.at-index (λ xs. AreStillOpen g xs c.loop-at.now.items) c.loop-at-test.false c.loop-at.invariant in
    elim c.if-is_open_at-2.branch [
      | then-is_open_at-2+in_ok-push-2 w ↦
          subst (AreOpen g) (sym (ap items w.now-is ∙ w.in_ok-push-2.ensures.items)) (open_newest h n c.requires.within c.args.pending.now c.loop-at.now.items c.requires.opened still (c.is_open_at-2.ensures.0 w.if-is_open_at-2.true))
      | else-is_open_at-2 w ↦
          subst (AreOpen g) (sym (ap items w.now-is))
          (open_older h n c.requires.within c.args.pending.now c.loop-at.now.items c.requires.opened still (λ is. let yes' = c.is_open_at-2.ensures.1 is in let no' = w.if-is_open_at-2.false in cc))
    ]
