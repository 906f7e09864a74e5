use Rattle.std.proofs.Common.{◌≡◌, ◌+◌, ◌-◌, ◌<◌, ◌≤◌, length, inl, inr, refl, ap, ◌∙◌, sym, subst, arith, true≢false}
use Rattle.lin_events.specs.declared.meter.Meter.{Meter}
use Rattle.lin_events.specs.Meters.{ticked}
use Rattle.lin_objects.specs.Kinds.{kind_of}
use Rattle.lin_wellformed.specs.declared.scan.Scan.{Scan}
use Rattle.lin_wellformed.specs.Scans.{ready_count, IsRight}
use Rattle.lin_wellformed.proofs.ScanLemmas.{settling_start, settling_next, IsOver, settled_right, settled_looked, settled_most, right_shape}
use Rattle.lin_wellformed.proofs.scan.Scan.settle.Goals as goal
use Rattle.lin_wellformed.proofs.scan.Scan.settle.Goals.{then-loop-self-test+else-is_good, else-loop-self-test}

pub loop-self-init : goal.loop-self-init
loop-self-init c = settling_start (kind_of c.args.kinds.now) c.args.events.now c.args.self.now c.args.meter.now c.requires

pub loop-self-smaller : goal.loop-self-smaller
loop-self-smaller c =
    let h = c.args.events.now in
    let count : ready_count c.take_in.new.self ≡ c.loop-self.self.ready + 1 = c.in_ok-take_in.ensures.ready in
    let smaller : length h - ready_count c.take_in.new.self < length h - ready_count c.loop-self.self = omega arith in
    smaller

pub loop-self-preserved : goal.loop-self-preserved
loop-self-preserved c =
    let h = c.args.events.now in
    let now = c.loop-self.self in
    settling_next (kind_of c.args.kinds.now) h c.args.self.now now c.take_in.new.self c.args.meter.now c.loop-self.meter c.tick_scan.new.self c.loop-self.invariant (c.is_good.ensures.0 c.if-is_good.true)
    c.in_ok-take_in.ensures.right c.in_ok-take_in.ensures.ready c.in_ok-take_in.ensures.looked c.tick_scan.ensures

pub returns-in_err-take_in-clause-right : goal.returns-in_err-take_in-clause-right
returns-in_err-take_in-clause-right c = subst (λ s. IsRight s (kind_of c.args.kinds.now) c.args.events.now) (sym c.in_err-take_in.ensures.err) c.loop-self.invariant.right

pub returns-in_err-take_in-clause-no_less : goal.returns-in_err-take_in-clause-no_less
returns-in_err-take_in-clause-no_less c =
    let same : ready_count c.take_in.new.self ≡ ready_count c.loop-self.self = ap (λ (s : Scan). s.ready) c.in_err-take_in.ensures.err in
    let grown : ready_count c.args.self.now ≤ ready_count c.loop-self.self = c.loop-self.invariant.grown in
    omega arith

pub returns-in_err-take_in-clause-settled : goal.returns-in_err-take_in-clause-settled
returns-in_err-take_in-clause-settled c = λ all.
    let grown : ready_count c.args.self.now ≤ ready_count c.loop-self.self = c.loop-self.invariant.grown in
    let more : ready_count c.loop-self.self < length c.args.events.now = c.loop-self-test.true in
    let no : ⊥ = omega arith in
    absurd no

pub returns-in_err-take_in-clause-bounded : goal.returns-in_err-take_in-clause-bounded
returns-in_err-take_in-clause-bounded c =
    let grown : ready_count c.args.self.now ≤ ready_count c.loop-self.self = c.loop-self.invariant.grown in
    let more : ready_count c.loop-self.self < length c.args.events.now = c.loop-self-test.true in
    let most = settled_most (kind_of c.args.kinds.now) c.args.events.now c.args.self.now c.loop-self.self c.args.meter.now c.loop-self.meter c.loop-self.invariant in
    let ticks = ap (λ (m : Meter). m.scans) c.tick_scan.ensures in
    omega arith

pub returns-in_err-take_in-clause-others : goal.returns-in_err-take_in-clause-others
returns-in_err-take_in-clause-others c = (
  ap (λ (m : Meter). m.steps) c.tick_scan.ensures ∙ ap (λ (m : Meter). m.steps) c.loop-self.invariant.counted,
  ap (λ (m : Meter). m.tries) c.tick_scan.ensures ∙ ap (λ (m : Meter). m.tries) c.loop-self.invariant.counted,
)

over : (c : goal.After-result-1) → IsOver c.args.events.now c.loop-self.self
over c = elim c.loop-self-test.branch [
  | then-loop-self-test+else-is_good w ↦ inr (λ good. true≢false (sym (w.is_good.ensures.1 good) ∙ w.if-is_good.false))
  | else-loop-self-test w ↦ inl w.loop-self-test.false
]

pub returns-clause-shape : goal.returns-clause-shape
returns-clause-shape c =
    let kinds = kind_of c.args.kinds.now in
    let h = c.args.events.now in
    right_shape kinds h (record c.loop-self.self { ready = length h }) (settled_right c.bad_positions.ensures.beginnings kinds h c.loop-self.self c.loop-self.invariant.right (over c)) refl

pub returns-clause-right : goal.returns-clause-right
returns-clause-right c = settled_right c.bad_positions.ensures.beginnings (kind_of c.args.kinds.now) c.args.events.now c.loop-self.self c.loop-self.invariant.right (over c)

pub returns-clause-counted : goal.returns-clause-counted
returns-clause-counted c =
    let before = c.args.meter.now in
    c.loop-self.invariant.counted ∙ ap (λ n. record before { scans = ticked before.scans (n - ready_count c.args.self.now) })
    (settled_looked (kind_of c.args.kinds.now) c.args.events.now c.loop-self.self c.loop-self.invariant.right (over c))

pub returns-clause-bounded : goal.returns-clause-bounded
returns-clause-bounded c =
    let within : ready_count c.loop-self.self ≤ length c.args.events.now = c.loop-self.invariant.right.within in
    let most = settled_most (kind_of c.args.kinds.now) c.args.events.now c.args.self.now c.loop-self.self c.args.meter.now c.loop-self.meter c.loop-self.invariant in
    omega arith

pub returns-clause-others : goal.returns-clause-others
returns-clause-others c = (ap (λ (m : Meter). m.steps) c.loop-self.invariant.counted, ap (λ (m : Meter). m.tries) c.loop-self.invariant.counted)
