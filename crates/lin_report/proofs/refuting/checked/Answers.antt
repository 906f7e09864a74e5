use Rattle.std.proofs.Common.{inl, refl, subst, take, ◌∙◌}
use Rattle.lin_order.specs.Parts.{part}
use Rattle.lin_order.specs.Refutations.{IsRefutation, sets_of}
use Rattle.lin_session.specs.Refuting.{Refutes}
use Rattle.lin_report.proofs.Refuted.{refuted_no}
use Rattle.lin_report.proofs.refuting.checked.Goals as goal

pub returns : goal.returns
returns c =
    let now = c.args.session.now.present in
    let n = c.args.prefix in
    let sets = sets_of c.args.refutation.now in
    let shown = c.in_ok-check_refutation.ensures.0 c.if-not-branch.false in
    let events = c.deref.ensures.value ∙ c.in_ok-events.ensures in
    let refutes : Refutes now c.args.key n sets = subst (λ k. IsRefutation (part c.args.key (take n now.history)) k sets) c.kind_of.ensures (subst (λ l. IsRefutation l c.kind_of.result sets) events shown) in
    inl (
      n,
      refuted_no c.refutations_exclude_orders.ensures c.beginnings_are_well_formed.ensures c.parts_keep_operations.ensures.well_formed c.parts_keep_orders.ensures.linearizable
          now c.args.key n sets c.requires.well_formed c.requires.within c.requires.before refutes,
      (sets, refutes),
      c.in_ok-refuted_line.ensures,
      refl,
    )
