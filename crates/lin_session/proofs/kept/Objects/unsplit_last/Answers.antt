use Rattle.std.proofs.Common.{◌≡◌, suc, ◌-◌, length, take, vec_len, subst, refl, ap, ◌∙◌, arith}
use Rattle.lin_session.specs.Objects.{AreKept}
use Rattle.lin_session.proofs.Found.{object_at}
use Rattle.lin_session.proofs.Listed.{mark_set_same}
use Rattle.lin_session.proofs.Splits.{AreKept-less, AreKept-less_unlisted}
use Rattle.lin_session.proofs.kept.Objects.unsplit_last.Goals as goal

pub returns-in-Some-clause-right : goal.returns-in-Some-clause-right
returns-in-Some-clause-right c = λ kinds budget h stands kept.
    let s = c.args.self.now in
    let old = c.index_mut-object.result.now in
    let old_at = object_at s.keys.keys s.objects.items c.in-Some.i c.args.event.now.key old s.aligned c.in-Some.ensures.found c.index_mut-object.ensures.value in
    let one : s.split ≡ suc (s.split - 1) = omega (arith, c.requires) in
    let count : vec_len old.picks ≡ length old.picks.items = omega (arith, old.picks.ok.0) in
    AreKept-less kinds budget h (s.split - 1) c.args.event.now stands s.keys.keys s.objects.items c.parts_of_prefixes.ensures.prefixes (subst (λ n. AreKept kinds budget h n s.keys.keys s.objects.items) one kept)
    c.in-Some.i old _ c.in-Some.ensures.found old_at (c.pop.ensures.rest ∙ ap (λ n. take (n - 1) old.picks.items) count) refl refl

pub returns-in_default-clause-right : goal.returns-in_default-clause-right
returns-in_default-clause-right c = λ kinds budget h stands kept.
    let s = c.args.self.now in
    let one : s.split ≡ suc (s.split - 1) = omega (arith, c.requires) in
    AreKept-less_unlisted kinds budget h (s.split - 1) c.args.event.now stands s.keys.keys s.objects.items c.parts_of_prefixes.ensures.prefixes (subst (λ n. AreKept kinds budget h n s.keys.keys s.objects.items) one kept)
    c.in_default.ensures.none

pub returns-in-Some-clause-marks : goal.returns-in-Some-clause-marks
returns-in-Some-clause-marks c = λ key.
    let s = c.args.self.now in
    let old = c.index_mut-object.result.now in
    let old_at = object_at s.keys.keys s.objects.items c.in-Some.i c.args.event.now.key old s.aligned c.in-Some.ensures.found c.index_mut-object.ensures.value in
    mark_set_same s.keys.keys s.objects.items c.in-Some.i old _ old_at refl key
