use Rattle.std.proofs.Common.{◌≡◌, ◌≤◌, ◌<◌, ◌∙◌, sym, subst, arith, length, Ok}
use Rattle.lin_edn.proofs.Faults.{fault_of}
use Rattle.lin_edn.proofs.Runs.{ends, goes, stops}
use Rattle.lin_edn.specs.Grammar.{longest}
use Rattle.lin_edn.specs.inner.Levels.{frames_of}
use Rattle.lin_edn.specs.inner.Machine.{Answer, at_end}
use Rattle.lin_edn.specs.inner.Turns.{Answers, mode_of}
use Rattle.lin_edn.specs.declared.Next.{Next}
use Rattle.lin_edn.proofs.reader.scan_on.Goals as goal

same_answer : (a b : Answer) (n : Next) → a ≡ b → Answers b (Ok n) → Answers a (Ok n)
same_answer a b n e h = subst (λ x. Answers x (Ok n)) (sym e) h

pub returns-then-here-input : goal.returns-then-here-input
returns-then-here-input c =
    let s = c.args.input.now in
    let here = c.ahead-here.result in
    let on = rw c.deref.ensures.value at c.ahead-here.ensures in
    let past : length s ≤ here = omega arith in
    same_answer _ _ _ (sym c.loop-at.invariant.0 ∙ on.2 ∙ ends longest s here (frames_of c.loop-at.stack.items) (mode_of s here c.loop-at.mode) past)
    (subst (λ fs. Answers (at_end here (mode_of s here c.loop-at.mode) (frames_of fs)) (Ok c.at_end.result))
    c.deref-then-here-input.ensures.value (c.at_end.ensures s))

pub returns-in-Done : goal.returns-in-Done
returns-in-Done c =
    let s = c.args.input.now in
    let here = c.ahead-here.result in
    let on = rw c.deref.ensures.value at c.ahead-here.ensures in
    let inside : here < length s = omega arith in
    let turn = rw c.in-Done.is at c.in_ok-next.ensures in
    sym c.loop-at.invariant.0 ∙ on.2 ∙ stops longest s here _ _ _ inside turn

pub returns-in-Fault : goal.returns-in-Fault
returns-in-Fault c =
    let s = c.args.input.now in
    let here = c.ahead-here.result in
    let on = rw c.deref.ensures.value at c.ahead-here.ensures in
    let inside : here < length s = omega arith in
    let turn = rw c.in-Fault.is at c.in_ok-next.ensures in
    fault_of _ here c.in-Fault.at c.in-Fault.cause _ (λ b e. sym c.loop-at.invariant.0 ∙ on.2 ∙ stops longest s here _ _ b inside e) turn

pub loop-at-preserved : goal.loop-at-preserved
loop-at-preserved c =
    let s = c.args.input.now in
    let here = c.ahead-here.result in
    let on = rw c.deref.ensures.value at c.ahead-here.ensures in
    let inside : here < length s = omega arith in
    let turn = rw c.in-On.is at c.in_ok-next.ensures in
    (sym (goes longest s here _ _ _ _ inside turn.0) ∙ sym on.2 ∙ c.loop-at.invariant.0, turn.1, omega arith)

pub returns : goal.returns
returns c =
    let s = c.args.input.now in
    let at = c.loop-at.at in
    let past : length s ≤ at = omega arith in
    same_answer _ _ _ (sym c.loop-at.invariant.0 ∙ ends longest s at (frames_of c.loop-at.stack.items) (mode_of s at c.loop-at.mode) past)
    (subst (λ fs. Answers (at_end at (mode_of s at c.loop-at.mode) (frames_of fs)) (Ok c.at_end-2.result))
    c.deref-2.ensures.value (c.at_end-2.ensures s))
