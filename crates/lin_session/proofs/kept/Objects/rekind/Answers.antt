use Rattle.std.proofs.Common.{◌≡◌, Some, slice_get, refl}
use Rattle.lin_session.specs.Leaving.{IsRekinded}
use Rattle.lin_session.proofs.Listed.{marks_changed, marks_unchanged}
use Rattle.lin_session.proofs.Found.{object_at}
use Rattle.lin_session.proofs.Rekinding.{AreKept-rekinded, AreKept-rekinded_unlisted}
use Rattle.lin_lists.specs.lemmas.Taken.{one_place}
use Rattle.lin_session.proofs.kept.Objects.rekind.Goals as goal
use Rattle.lin_session.proofs.kept.Objects.rekind.Goals.{After-index_mut-object}

-- what stands where the key is listed
old_at : (c : After-index_mut-object) → slice_get c.args.self.now.objects.items c.in-Some.i ≡ Some c.index_mut-object.result.now
old_at c =
    let s = c.args.self.now in
    object_at s.keys.keys s.objects.items c.in-Some.i c.args.key c.index_mut-object.result.now s.aligned c.in-Some.ensures.found c.index_mut-object.ensures.value

pub returns-in-Some-clause-right : goal.returns-in-Some-clause-right
returns-in-Some-clause-right c = λ kinds other budget h change kept.
    let s = c.args.self.now in
    let b = (goal.at.returns-in-Some-clause-right c).After-index_mut-object in
    AreKept-rekinded kinds other c.args.key c.args.kind change budget h s.split s.keys.keys s.objects.items kept c.in-Some.i c.index_mut-object.result.now _ c.in-Some.ensures.found (old_at b) refl refl
    c.rekind.ensures.mark c.rekind.ensures.kind c.rekind.ensures.right c.rekind.ensures.retried

pub returns-in-Some-clause-marks : goal.returns-in-Some-clause-marks
returns-in-Some-clause-marks c = λ kinds budget h kept.
    let s = c.args.self.now in
    let b = (goal.at.returns-in-Some-clause-marks c).After-index_mut-object in
    marks_changed IsRekinded (λ m. refl) s.keys.keys s.objects.items (one_place s.keys.keys kept.distinct) c.in-Some.i c.args.key c.index_mut-object.result.now _ c.in-Some.ensures.found (old_at b) c.rekind.ensures.mark

pub returns-in_default-clause-right : goal.returns-in_default-clause-right
returns-in_default-clause-right c = λ kinds other budget h change kept.
    let s = c.args.self.now in
    AreKept-rekinded_unlisted kinds other c.args.key c.args.kind change budget h s.split s.keys.keys s.objects.items kept c.in_default.ensures.none

pub returns-in_default-clause-marks : goal.returns-in_default-clause-marks
returns-in_default-clause-marks c = λ kinds budget h kept.
    let s = c.args.self.now in
    marks_unchanged IsRekinded (λ m. refl) s.keys.keys s.objects.items c.args.key c.in_default.ensures.none refl
