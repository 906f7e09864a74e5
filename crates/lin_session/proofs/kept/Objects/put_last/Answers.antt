use Rattle.std.proofs.Common.{◌≡◌, ◌<◌, ◌+◌, ◌++◌, [], append-nil, Some, sym, subst, slice_get, refl, arith}
use Rattle.lin_session.specs.Objects.{AreRight}
use Rattle.lin_session.specs.Leaving.{IsAppended}
use Rattle.lin_session.proofs.Listed.{marks_unchanged}
use Rattle.lin_session.proofs.Around.{AreKept-with, AreKept-with_unlisted, IsCutChain, StaysAhead, part_few}
use Rattle.lin_session.proofs.Cutting.{marks_longer}
use Rattle.lin_session.proofs.Found.{object_at}
use Rattle.lin_session.proofs.Marking.{longer_unasked}
use Rattle.lin_lists.specs.lemmas.Taken.{take_ahead}
use Rattle.lin_session.proofs.kept.Objects.put_last.Goals as goal
use Rattle.lin_session.proofs.kept.Objects.put_last.Goals.{After-cut_at_end, After-index_mut-object}

-- what stands where the key is listed
old_at : (c : After-index_mut-object) → slice_get c.args.self.now.objects.items c.in-Some.i ≡ Some c.index_mut-object.result.now
old_at c =
    let s = c.args.self.now in
    object_at s.keys.keys s.objects.items c.in-Some.i c.args.key c.index_mut-object.result.now s.aligned c.in-Some.ensures.found c.index_mut-object.ensures.value

-- its chain stays right behind any events that it was right for
stays : (c : After-cut_at_end) → StaysAhead c.args.key [] c.index_mut-object.result.now.count c.index_mut-object.result.now.chain c.cut_at_end.new.self.chain
stays c = λ ahead h edited bound right. c.cut_at_end.ensures.right (ahead ++ h) (ahead ++ edited) (take_ahead _ ahead h edited (omega (arith, bound))) right

cut : (c : After-cut_at_end) → IsCutChain c.index_mut-object.result.now.count c.index_mut-object.result.now.chain c.cut_at_end.new.self.chain
cut c = record { kind = c.cut_at_end.ensures.kind; mark = c.cut_at_end.ensures.mark; retried = c.cut_at_end.ensures.retried }

pub returns-in-Some-clause-right : goal.returns-in-Some-clause-right
returns-in-Some-clause-right c = λ kinds budget h event same few kept.
    let s = c.args.self.now in
    let at = goal.at.returns-in-Some-clause-right c in
    let old = c.index_mut-object.result.now in
    let kept_now = subst (AreRight s kinds budget) (sym (append-nil h)) kept in
    let was = kept.each c.in-Some.i c.args.key old c.in-Some.ensures.found (old_at at.After-index_mut-object) in
    let fits : old.count < 18446744073709551615 = omega (arith, few, was.counted, part_few c.args.key h) in
    let count : c.saturating_add-object.result ≡ old.count + 1 = omega (arith, c.cut_at_end.ensures.count, c.saturating_add-object.ensures, fits) in
    AreKept-with kinds budget h [] event c.args.key same s.split kept.within s.keys.keys s.objects.items kept_now c.in-Some.i old _ c.in-Some.ensures.found (old_at at.After-index_mut-object)
    c.cut_at_end.ensures.picks count (stays at.After-cut_at_end) old.count (cut at.After-cut_at_end)

pub returns-in-Some-clause-marks : goal.returns-in-Some-clause-marks
returns-in-Some-clause-marks c = λ kinds budget h kept.
    let s = c.args.self.now in
    let at = goal.at.returns-in-Some-clause-marks c in
    marks_longer kinds budget h s kept c.in-Some.i c.args.key c.index_mut-object.result.now _ c.in-Some.ensures.found (old_at at.After-index_mut-object) (cut at.After-cut_at_end)

pub returns-in_default-clause-right : goal.returns-in_default-clause-right
returns-in_default-clause-right c = λ kinds budget h event same few kept.
    let s = c.args.self.now in
    AreKept-with_unlisted kinds budget h [] event c.args.key same s.split kept.within s.keys.keys s.objects.items (subst (AreRight s kinds budget) (sym (append-nil h)) kept)
    c.in_default.ensures.none

pub returns-in_default-clause-marks : goal.returns-in_default-clause-marks
returns-in_default-clause-marks c = λ kinds budget h kept.
    let s = c.args.self.now in
    marks_unchanged IsAppended (λ m. refl) s.keys.keys s.objects.items c.args.key c.in_default.ensures.none longer_unasked
