use Rattle.std.proofs.Common.{◌≡◌, ◌≤◌, ◌+◌, ◌-◌, ◌++◌, ◌∷◌, List, suc, length, take, drop, subst, sym, ap, ◌∙◌, arith, add-one}
use Rattle.std.proofs.lemmas.List.{length-take-le, take_rest}
use Rattle.lin_events.specs.declared.events.Event.{Event}
use Rattle.lin_session.specs.Objects.{AreRight, split_in}
use Rattle.lin_lists.specs.lemmas.Taken.{split_at}
use Rattle.lin_session.specs.inner.Objects.{marks_in}
use Rattle.std.proofs.Common.{Some, slice_get, refl}
use Rattle.std.proofs.lemmas.Option.{slice_get_read}
use Rattle.lin_session.proofs.Touching.{AreTouched-since, touched_where}
use Rattle.lin_session.proofs.kept.Objects.leave.Goals as goal

pub returns-clause-right : goal.returns-clause-right
returns-clause-right c = λ kinds budget kept.
    let h = c.args.events.now in
    let at = c.args.at in
    let event = c.index-events-at.result in
    let same = ap (λ (e : Event). e.key) c.index-events-at.is in
    let ahead : split_in c.forget_split.new.self ≤ length (take at h) = omega (arith, length-take-le at h (omega (arith, c.requires.place)), c.forget_split.ensures.split) in
    let kept_now = subst (AreRight c.forget_split.new.self kinds budget) (sym (split_at h at event c.requires.place c.index-events-at.is)) (c.forget_split.ensures.right kinds budget kept) in
    let behind : List Event = take (length h - (at + 1)) (drop (at + 1) h) in
    let rest : behind ≡ drop (suc at) h = take_rest h (at + 1) ∙ ap (λ n. drop n h) (add-one at) in
    let r : AreRight c.forget_split.new.self kinds budget (take at h ++ event ∷ behind) → AreRight c.take_out.new.self kinds budget (take at h ++ behind) =
    c.take_out.ensures.right kinds budget (take at h) event same ahead in
    subst (λ l. AreRight c.take_out.new.self kinds budget (take at h ++ l)) rest (r (subst (λ l. AreRight c.forget_split.new.self kinds budget (take at h ++ event ∷ l)) (sym rest) kept_now))

pub returns-clause-marks : goal.returns-clause-marks
returns-clause-marks c = λ kinds budget kept x.
    let h = c.args.events.now in
    let at = c.args.at in
    let event = c.index-events-at.result in
    let same = ap (λ (e : Event). e.key) c.index-events-at.is in
    let kept_now = subst (AreRight c.forget_split.new.self kinds budget) (sym (split_at h at event c.requires.place c.index-events-at.is)) (c.forget_split.ensures.right kinds budget kept) in
    let behind : List Event = take (length h - (at + 1)) (drop (at + 1) h) in
    let rest : behind ≡ drop (suc at) h = take_rest h (at + 1) ∙ ap (λ n. drop n h) (add-one at) in
    let stands : slice_get h at ≡ Some event = slice_get_read h (length h) at event refl c.requires.place c.index-events-at.is in
    let touch = c.take_out.ensures.marks kinds budget (take at h) event same (subst (λ l. AreRight c.forget_split.new.self kinds budget (take at h ++ event ∷ l)) (sym rest) kept_now) in
    touched_where h at event _ stands same (marks_in c.args.self.now) (marks_in c.take_out.new.self)
    (AreTouched-since _ _ (marks_in c.args.self.now) (marks_in c.forget_split.new.self) (marks_in c.take_out.new.self) c.forget_split.ensures.marks touch) x
