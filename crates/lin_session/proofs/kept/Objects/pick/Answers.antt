use Rattle.std.proofs.Common.{subst, sym, add-one, ℕ, List, set, pos}
use Rattle.std.proofs.lemmas.Option.{slice_get-get_or}
use Rattle.lin_events.specs.declared.items.Item.{Item}
use Rattle.lin_events.specs.declared.items.Item.TheVariants.{Int}
use Rattle.lin_events.specs.declared.events.Event.{Event}
use Rattle.lin_objects.specs.declared.kinds.Kind.{Kind}
use Rattle.lin_session.specs.Objects.{AreKept}
use Rattle.lin_session.proofs.Listed.{mark_set_same}
use Rattle.lin_session.proofs.Found.{object_within, on_err_since}
use Rattle.lin_lists.specs.lemmas.Taken.{Contains-slice_get}
use Rattle.lin_session.proofs.Splits.{AreKept-next, AreKept-refused}
use Rattle.lin_session.proofs.kept.Objects.pick.Goals as goal

pub returns-in_err-pick-clause-same : goal.returns-in_err-pick-clause-same
returns-in_err-pick-clause-same c = let s = c.args.self.now in
    let old_at = object_within s.keys.keys s.objects.items c.args.i c.index_mut.result.now s.aligned c.requires.listed c.index_mut.ensures.value in
    let after : (kinds : Item → Kind) (budget : ℕ) (h : List Event) → AreKept kinds budget h s.split s.keys.keys s.objects.items → AreKept kinds budget h s.split s.keys.keys (set s.objects.items c.args.i c.pick.new.self) =
    λ kinds budget h kept. AreKept-refused kinds budget h s.split s.keys.keys s.objects.items kept c.args.i _ c.index_mut.result.now c.pick.new.self (slice_get-get_or s.keys.keys c.args.i (Int (pos 0)) c.requires.listed) old_at c.in_err-pick.ensures.same c.in_err-pick.ensures.count c.in_err-pick.ensures.chain in
    on_err_since {P = (kinds : Item → Kind) (budget : ℕ) (h : List Event) → AreKept kinds budget h s.split s.keys.keys s.objects.items → AreKept kinds budget h s.split s.keys.keys (set s.objects.items c.args.i c.pick.new.self)} c.from_residual.result after

pub returns-clause-next : goal.returns-clause-next
returns-clause-next c = λ kinds budget h event stands key_at kept.
    let s = c.args.self.now in
    let old_at = object_within s.keys.keys s.objects.items c.args.i c.index_mut.result.now s.aligned c.requires.listed c.index_mut.ensures.value in
    subst (λ n. AreKept kinds budget h n s.keys.keys (set s.objects.items c.args.i c.pick.new.self)) (sym (add-one s.split))
    (AreKept-next kinds budget h s.split event stands s.keys.keys s.objects.items c.parts_grow.ensures.more kept c.args.i c.index_mut.result.now c.pick.new.self key_at
    (Contains-slice_get s.keys.keys c.args.i event.key key_at) old_at c.in_ok-pick.ensures.more c.in_ok-pick.ensures.count c.in_ok-pick.ensures.chain)

pub returns-in_err-pick-clause-marks : goal.returns-in_err-pick-clause-marks
returns-in_err-pick-clause-marks c = λ key.
    let s = c.args.self.now in
    let old_at = object_within s.keys.keys s.objects.items c.args.i c.index_mut.result.now s.aligned c.requires.listed c.index_mut.ensures.value in
    mark_set_same s.keys.keys s.objects.items c.args.i c.index_mut.result.now c.pick.new.self old_at c.pick.ensures.chain key

pub returns-clause-marks : goal.returns-clause-marks
returns-clause-marks c = λ key.
    let s = c.args.self.now in
    let old_at = object_within s.keys.keys s.objects.items c.args.i c.index_mut.result.now s.aligned c.requires.listed c.index_mut.ensures.value in
    mark_set_same s.keys.keys s.objects.items c.args.i c.index_mut.result.now c.pick.new.self old_at c.pick.ensures.chain key
