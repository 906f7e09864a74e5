use Rattle.std.proofs.Common.{◌≡◌, ◌<◌, ◌-◌, ◌++◌, length, length-append, Some, ap, slice_get, refl, arith}
use Rattle.std.proofs.lemmas.List.Elements.{filter-append}
use Rattle.lin_events.specs.Items.{item_eq}
use Rattle.lin_events.specs.declared.events.Event.{Event}
use Rattle.lin_order.specs.Parts.{part}
use Rattle.lin_session.specs.Leaving.{IsTouched}
use Rattle.lin_session.proofs.Listed.{marks_unchanged}
use Rattle.lin_session.proofs.Around.{AreKept-with, AreKept-with_unlisted, IsCutChain, part_few}
use Rattle.lin_session.proofs.Cutting.{marks_cut}
use Rattle.lin_session.proofs.Found.{object_at}
use Rattle.lin_session.proofs.Marking.{touched_unasked}
use Rattle.lin_session.proofs.kept.Objects.put_in.Goals as goal
use Rattle.lin_session.proofs.kept.Objects.put_in.Goals.{After-cut_ahead_of, After-index_mut-object}

-- what stands where the key is listed
old_at : (c : After-index_mut-object) → slice_get c.args.self.now.objects.items c.in-Some.i ≡ Some c.index_mut-object.result.now
old_at c =
    let s = c.args.self.now in
    object_at s.keys.keys s.objects.items c.in-Some.i c.args.key c.index_mut-object.result.now s.aligned c.in-Some.ensures.found c.index_mut-object.ensures.value

cut : (c : After-cut_ahead_of) → IsCutChain (c.index_mut-object.result.now.count - length (part c.args.key c.args.behind.now)) c.index_mut-object.result.now.chain c.cut_ahead_of.new.self.chain
cut c = record { kind = c.cut_ahead_of.ensures.kind; mark = c.cut_ahead_of.ensures.mark; retried = c.cut_ahead_of.ensures.retried }

pub returns-in-Some-clause-right : goal.returns-in-Some-clause-right
returns-in-Some-clause-right c = λ kinds budget before event same ahead few kept.
    let s = c.args.self.now in
    let at = goal.at.returns-in-Some-clause-right c in
    let old = c.index_mut-object.result.now in
    let fits : old.count < 18446744073709551615 =
    omega (arith, few, (kept.each c.in-Some.i c.args.key old c.in-Some.ensures.found (old_at at.After-index_mut-object)).counted, part_few c.args.key (before ++ c.args.behind.now), length-append before c.args.behind.now) in
    AreKept-with kinds budget before c.args.behind.now event c.args.key same s.split ahead s.keys.keys s.objects.items kept c.in-Some.i old _ c.in-Some.ensures.found (old_at at.After-index_mut-object)
    c.cut_ahead_of.ensures.picks (omega (arith, c.cut_ahead_of.ensures.count, c.saturating_add-object.ensures, fits)) c.cut_ahead_of.ensures.right
    (old.count - length (part c.args.key c.args.behind.now)) (cut at.After-cut_ahead_of)

pub returns-in-Some-clause-marks : goal.returns-in-Some-clause-marks
returns-in-Some-clause-marks c = λ kinds budget before kept.
    let s = c.args.self.now in
    let at = goal.at.returns-in-Some-clause-marks c in
    let h = before ++ c.args.behind.now in
    let own = ap length (filter-append (λ (e : Event). item_eq e.key c.args.key) before c.args.behind.now) in
    marks_cut kinds budget h s kept c.in-Some.i c.args.key c.index_mut-object.result.now _ c.in-Some.ensures.found (old_at at.After-index_mut-object) _ (length (part c.args.key before)) (cut at.After-cut_ahead_of)
    (λ exact. omega (arith, exact, own, length-append (part c.args.key before) (part c.args.key c.args.behind.now)))

pub returns-in_default-clause-right : goal.returns-in_default-clause-right
returns-in_default-clause-right c = λ kinds budget before event same ahead few kept.
    let s = c.args.self.now in
    AreKept-with_unlisted kinds budget before c.args.behind.now event c.args.key same s.split ahead s.keys.keys s.objects.items kept c.in_default.ensures.none

pub returns-in_default-clause-marks : goal.returns-in_default-clause-marks
returns-in_default-clause-marks c = λ kinds budget before kept.
    let s = c.args.self.now in
    marks_unchanged (λ b. IsTouched b (length (part c.args.key before))) (λ m. refl) s.keys.keys s.objects.items c.args.key c.in_default.ensures.none (touched_unasked (length (part c.args.key before)))
