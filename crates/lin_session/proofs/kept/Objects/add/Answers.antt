use Rattle.std.proofs.Common.{◌∙◌, ap, sym, subst, length, arith, ◌++◌, ◌∷◌, [], refl}
use Rattle.std.proofs.lemmas.List.{length_push}
use Rattle.std.proofs.lemmas.Map.Made.{AllPairs-from_IsDistinct}
use Rattle.lin_events.specs.Sameness.{Decides-item_eq}
use Rattle.lin_chain.specs.Chains.{IsFor, IsRight, kind_in, mark_in}
use Rattle.lin_session.proofs.Found.{inserted_last}
use Rattle.lin_session.specs.Objects.{listed_known}
use Rattle.lin_session.specs.Known.{mark_of}
use Rattle.lin_session.proofs.Listed.{mark_push}
use Rattle.lin_session.proofs.Splits.{AreKept-listed}
use Rattle.lin_session.proofs.kept.Objects.add.Goals as goal

pub invariant_of-self-2 : goal.invariant_of-self-2
invariant_of-self-2 c =
    let s = c.args.self.now in
    let keys = ap length (c.in_ok-insert.ensures.keys ∙ inserted_last s.keys.keys c.args.key c.requires.absent) ∙ length_push s.keys.keys c.args.key in
    let objects = ap length (c.push_reserved.ensures.items ∙ ap (λ l. l ++ c.pick.new.self ∷ []) c.in_ok-reserve.ensures.items) ∙ length_push s.objects.items c.pick.new.self in
    record { aligned = omega (arith, keys, objects, s.aligned) }

pub returns-clause-next : goal.returns-clause-next
returns-clause-next c = λ kinds budget h event stands same kind kept.
    let s = c.args.self.now in
    AreKept-listed c.parts_grow.ensures.more kinds budget h s.split _ event c.args.key s.keys.keys _ s.objects.items _ c.pick.new.self stands same kept refl
    (c.in_ok-insert.ensures.keys ∙ inserted_last s.keys.keys c.args.key c.requires.absent)
    (c.push_reserved.ensures.items ∙ ap (λ l. l ++ c.pick.new.self ∷ []) c.in_ok-reserve.ensures.items) s.aligned
    (AllPairs-from_IsDistinct Decides-item_eq _ c.in_ok-insert.ensures.unique) c.requires.absent
    (c.in_ok-pick.ensures.more ∙ ap (λ l. l ++ s.split ∷ []) c.new-object.ensures.picks) (c.in_ok-pick.ensures.count ∙ c.new-object.ensures.count) (ap mark_in c.in_ok-pick.ensures.chain ∙ c.new-object.ensures.mark)
    (ap kind_in c.in_ok-pick.ensures.chain ∙ c.new-object.ensures.kind ∙ sym kind) (λ part'. subst (λ k. IsRight k part') (sym c.in_ok-pick.ensures.chain) (c.new-object.ensures.right part'))
    (λ least. subst (IsFor least) (sym c.in_ok-pick.ensures.chain) (c.new-object.ensures.retried least))

pub returns-clause-marks : goal.returns-clause-marks
returns-clause-marks c = λ key.
    let s = c.args.self.now in
    let keys = c.in_ok-insert.ensures.keys ∙ inserted_last s.keys.keys c.args.key c.requires.absent in
    let objects = c.push_reserved.ensures.items ∙ ap (λ l. l ++ c.pick.new.self ∷ []) c.in_ok-reserve.ensures.items in
    ap (λ k. mark_of (listed_known k c.push_reserved.new.self.items) key) keys ∙ ap (λ o. mark_of (listed_known (s.keys.keys ++ c.args.key ∷ []) o) key) objects
    ∙ mark_push s.keys.keys s.objects.items c.args.key c.pick.new.self s.aligned (ap mark_in c.in_ok-pick.ensures.chain ∙ c.new-object.ensures.mark) key
