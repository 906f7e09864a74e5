use Rattle.std.proofs.Common.{◌≡◌, ◌≤◌, ◌+◌, ◌-◌, ◌++◌, ◌∷◌, List, suc, length, take, drop, refl, subst, sym, ap, ◌∙◌, arith, add-one}
use Rattle.std.proofs.lemmas.List.{length-drop, length-take-le, take_rest, set_split}
use Rattle.lin_events.specs.declared.events.Event.{Event}
use Rattle.lin_session.specs.Objects.{AreRight, split_in}
use Rattle.lin_session.specs.inner.Objects.{marks_in}
use Rattle.lin_session.proofs.Touching.{touched_twice}
use Rattle.lin_session.proofs.kept.Objects.replace.Goals as goal

pub returns-clause-right : goal.returns-clause-right
returns-clause-right c = λ kinds budget kept.
    let h = c.args.events.now in
    let at = c.args.at in
    let event = c.args.event.now in
    let ahead : split_in c.leave.new.self ≤ length (take at h) = omega (arith, length-take-le at h (omega (arith, c.requires.place)), c.leave.ensures.split) in
    let behind : List Event = take (length h - (at + 1)) (drop (at + 1) h) in
    let rest : behind ≡ drop (suc at) h = take_rest h (at + 1) ∙ ap (λ n. drop n h) (add-one at) in
    let r : AreRight c.leave.new.self kinds budget (take at h ++ behind) → AreRight c.put_in.new.self kinds budget (take at h ++ event ∷ behind) =
    c.put_in.ensures.right kinds budget (take at h) event refl ahead (omega (arith, length-take-le at h (omega (arith, c.requires.place)), ap length rest, length-drop (suc at) h, c.requires.place, c.requires.few)) in
    let put = r (subst (λ l. AreRight c.leave.new.self kinds budget (take at h ++ l)) (sym rest) (c.leave.ensures.right kinds budget kept)) in
    subst (AreRight c.put_in.new.self kinds budget) (ap (λ l. take at h ++ event ∷ l) rest ∙ sym (set_split h at event c.requires.place)) put

pub returns-clause-marks : goal.returns-clause-marks
returns-clause-marks c = λ kinds budget kept x.
    let h = c.args.events.now in
    let at = c.args.at in
    let behind : List Event = take (length h - (at + 1)) (drop (at + 1) h) in
    let rest : behind ≡ drop (suc at) h = take_rest h (at + 1) ∙ ap (λ n. drop n h) (add-one at) in
    let touch = c.put_in.ensures.marks kinds budget (take at h) (subst (λ l. AreRight c.leave.new.self kinds budget (take at h ++ l)) (sym rest) (c.leave.ensures.right kinds budget kept)) in
    touched_twice h at _ (marks_in c.args.self.now) (marks_in c.leave.new.self) (marks_in c.put_in.new.self) (c.leave.ensures.marks kinds budget kept) touch x
