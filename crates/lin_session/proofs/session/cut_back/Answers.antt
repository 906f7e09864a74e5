use Rattle.std.proofs.Common.{◌≡◌, ◌<◌, ◌≤◌, ◌-◌, ◌+◌, List, length, take, sym, ap, subst, ◌∙◌, arith}
use Rattle.std.proofs.lemmas.List.{length-take, length-take-le, take-take}
use Rattle.lin_order.specs.Orders.{is_of_key}
use Rattle.lin_session.specs.inner.Objects.{marks_in}
use Rattle.std.proofs.Common.{inl, inr, nat_lt}
use Rattle.std.proofs.lemmas.Bool.{cases_lt}
use Rattle.std.proofs.lemmas.List.{take_all}
use Rattle.lin_order.specs.Parts.{part}
use Rattle.lin_session.specs.Known.{count_before}
use Rattle.lin_session.specs.Leaving.{IsTouched}
use Rattle.lin_lists.specs.lemmas.Taken.{element_at}
use Rattle.lin_session.proofs.Touching.{truncated_next}
use Rattle.lin_session.proofs.session.cut_back.Goals as goal

-- a beginning without its last element
shorter : {A : Type 0} (all h less : List A) → h ≡ take (length h) all → less ≡ take (length h - 1) h → less ≡ take (length less) all
shorter all h less front drops =
    let few : length less ≡ length h - 1 = ap length drops ∙ length-take-le (length h - 1) h (omega arith) in
    drops ∙ ap (take (length h - 1)) front ∙ take-take (length h - 1) (length h) all (omega arith) ∙ ap (λ n. take n all) (sym few)

pub loop-events-preserved : goal.loop-events-preserved
loop-events-preserved c =
    let h = c.loop-events.events.items in
    let all = c.args.events.now.items in
    let d = c.drop_last.ensures in
    let few : length c.drop_last.new.events.items ≡ length h - 1 = ap length d.left ∙ length-take-le (length h - 1) h (omega arith) in
    let above : c.args.count + 1 ≤ length h = omega (arith, c.loop-events-test.true, c.len.ensures, c.loop-events.events.ok.0) in
    let inside : length h ≤ length all = omega (arith, ap length c.loop-events.invariant.left, length-take (length h) all) in
    record {
      within = d.within;
      left = shorter all h c.drop_last.new.events.items c.loop-events.invariant.left d.left;
      enough = λ fits. omega (arith, few, above);
      few = λ short. absurd (omega (arith, above, inside, short));
      marks = λ kinds budget kept x.
          let m = length h in
          let some : 0 < m = omega (arith, above) in
          let e = element_at all (m - 1) (omega (arith, above, inside)) in
          let old = marks_in c.args.objects.now x in
          let mid = marks_in c.loop-events.objects x in
          let new = marks_in c.drop_last.new.objects x in
          let now = subst (λ l. IsTouched (is_of_key l x (m - 1)) (count_before l x (m - 1)) mid new) c.loop-events.invariant.left (d.marks kinds budget (c.loop-events.invariant.right kinds budget kept) x) in
          subst (λ n. IsTouched (nat_lt (count_before all x n) (length (part x all))) (count_before all x n) old new) (sym few)
          (truncated_next all x m e.0 old mid new some inside e.1 (c.loop-events.invariant.marks kinds budget kept x) now);
      right = λ kinds budget kept. d.right kinds budget (c.loop-events.invariant.right kinds budget kept);
    }

pub returns-clause-marks : goal.returns-clause-marks
returns-clause-marks c = λ kinds budget kept x.
    let h = c.loop-events.events.items in
    let all = c.args.events.now.items in
    let inv = c.loop-events.invariant in
    let old = marks_in c.args.objects.now x in
    let ends : length h ≤ c.args.count = omega (arith, c.loop-events-test.false, c.len.ensures, c.loop-events.events.ok.0) in
    let front : take (length h) all ≡ take c.args.count all = elim (cases_lt c.args.count (length all)) [
      | inl fewer ↦ ap (λ n. take n all) (omega (arith, ends, inv.enough (omega (arith, fewer))))
      | inr short ↦ sym inv.left ∙ inv.few short ∙ sym (take_all c.args.count all short)
    ] in
    subst (λ l. IsTouched (nat_lt (length (part x l)) (length (part x all))) (length (part x l)) old (marks_in c.loop-events.objects x)) front (inv.marks kinds budget kept x)
