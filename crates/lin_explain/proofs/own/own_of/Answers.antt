use Rattle.std.proofs.Common.{◌≡◌, ◌≤◌, ◌+◌, ◌∙◌, arith, length, take, subst, sym, true≢false}
use Rattle.lin_events.specs.Sameness.{Decides-item_eq}
use Rattle.lin_order.specs.Parts.{ArePositionsOf, part}
use Rattle.lin_explain.specs.inner.Own.{IsOwn}
use Rattle.lin_explain.proofs.Parting.{with_one, without_one}
use Rattle.lin_explain.proofs.Passing.{own_fits}
use Rattle.lin_explain.proofs.own.own_of.Goals as goal
use Rattle.lin_explain.proofs.own.own_of.Goals.{then-is_beside+in_ok-take_in, else-is_beside}

pub loop-at-preserved : goal.loop-at-preserved
loop-at-preserved c =
    let key = c.args.of.now.key in
    let h = c.args.present.now.history in
    let at = c.loop-at.at in
    let own = c.loop-at.own in
    let so_far : (own.events.items ≡ part key (take at h)) × ArePositionsOf key (take at h) own.picks.items = (c.loop-at.invariant.events_of, c.loop-at.invariant.positions) in
    elim c.if-is_beside.branch [
      | then-is_beside+in_ok-take_in w ↦
          let next = with_one c.parts_grow.ensures.more key h at c.in-Some.event.now c.in-Some.ensures.found own.events.items own.picks.items so_far ((Decides-item_eq c.in-Some.event.now.key key).0 (sym w.if-is_beside.ensures)) in
          subst (IsOwn key (take (at + 1) h)) (sym w.own-is) (record {
            events_of = w.in_ok-take_in.ensures.0 ∙ next.0;
            positions = subst (ArePositionsOf key (take (at + 1) h)) (sym w.in_ok-take_in.ensures.1) next.1;
          })
      | else-is_beside w ↦
          let next = without_one c.parts_grow.ensures.more key h at c.in-Some.event.now c.in-Some.ensures.found own.events.items own.picks.items so_far (λ same. true≢false (sym ((Decides-item_eq c.in-Some.event.now.key key).1 same) ∙ sym w.if-is_beside.ensures)) in
          subst (IsOwn key (take (at + 1) h)) (sym w.own-is) (record { events_of = next.0; positions = next.1 })
    ]

pub returns-clause-few : goal.returns-clause-few
returns-clause-few c =
    let h = c.args.present.now.history in
    let end = c.loop-at.auto.at-end in
    let within = c.requires in
    let fits = own_fits c.args.of.now.key c.loop-at.at h c.loop-at.own c.loop-at.invariant (omega (arith, end, within)) in
    omega (arith, fits, end)
