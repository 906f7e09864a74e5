use Rattle.std.proofs.Common.{◌-◌, get_or, pos, subst, sym, ◌∙◌, arith, inl, inr, length}
use Rattle.std.proofs.lemmas.Bool.{cases_order}
use Rattle.std.proofs.lemmas.Option.{slice_get-get_or}
use Rattle.lin_events.specs.declared.items.Item.TheVariants.{Int}
use Rattle.lin_queues.specs.Gathering.{MayTake}
use Rattle.lin_queues.specs.Members.{view_of}
use Rattle.lin_queues.specs.Reaching.{Takes}
use Rattle.lin_queues.specs.Opens.{AreDequeues}
use Rattle.lin_queues.proofs.Gaining.{gains_then}
use Rattle.lin_queues.proofs.gathered.Gathered.take.Goals as goal

pub loop-end-preserved : goal.loop-end-preserved
loop-end-preserved c = record {
  told = λ h whole order at links from before is_whole paying enqueues may. elim (cases_order at (c.loop-end.end - 1)) [
    | inl same ↦ c.in_ok-take_if.ensures.told h whole order is_whole (subst (λ l. AreDequeues h l.items) (sym c.loop-end.invariant.dequeues) paying) enqueues
        (subst (MayTake whole order (length h) c.args.elements.now (view_of c.args.member.now) c.args.returned.time c.args.returned.item) same may)
    | inr differ ↦ elim differ [
      | inr behind ↦ c.in_ok-take_if.ensures.kept whole order (length h) c.args.elements.now
          (c.loop-end.invariant.told h whole order at links (let l = c.loop-end-test.true in omega arith) before is_whole paying enqueues may)
      | inl ahead ↦ (
          let skipped = c.end_before-end.ensures.skipped at from ahead in
          let inside = c.loop-end.invariant.within in let test = c.loop-end-test.true in
          let here = slice_get-get_or c.args.elements.now (c.loop-end.end - 1) (record { place = 0; returned = 0; item = Int (pos 0); earlier = 0 }) (omega arith) in
          let linked = links (c.loop-end.end - 1) at (get_or c.args.elements.now (c.loop-end.end - 1) (record { place = 0; returned = 0; item = Int (pos 0); earlier = 0 })) may.element here may.stands ahead (may.item_is ∙ sym skipped.0) in
          let less = skipped.1 in
          absurd (omega arith))
    ]
  ];
  kept = λ whole order n all covered. c.in_ok-take_if.ensures.kept whole order n all (c.loop-end.invariant.kept whole order n all covered);
  gains = gains_then c.args.self.now c.loop-end.self c.take_if.new.self (Takes c.args.elements.now c.args.returned.item c.args.returned.time (view_of c.args.member.now)) c.loop-end.invariant.dequeues c.loop-end.invariant.gains (c.in_ok-take_if.ensures.gains (let t = c.loop-end-test.true in omega arith));
  dequeues = c.take_if.ensures.dequeues ∙ c.loop-end.invariant.dequeues;
  within = (let l = c.loop-end.invariant.within in let less = c.end_before-end.ensures.less in omega arith);
}

pub returns-clause-told : goal.returns-clause-told
returns-clause-told c = λ h whole order at links before is_whole paying enqueues may.
    let l = may.from_low in let g = c.loop-end-test.false in
    c.loop-end.invariant.told h whole order at links (omega arith) before is_whole paying enqueues may
