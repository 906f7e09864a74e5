use Rattle.std.proofs.Common.{◌≡◌, ◌++◌, ◌∷◌, [], Ok, List, take, refl, sym, ap, subst, ◌∙◌, arith}
use Rattle.lin_objects.specs.declared.kinds.Kind.TheVariants.{Mutex}
use Rattle.lin_order.specs.Linearizable.{IsLinearizableAs}
use Rattle.lin_locks.specs.declared.changes.Change.{Change}
use Rattle.lin_locks.specs.declared.locks.Lock.{Lock}
use Rattle.lin_locks.specs.inner.Known.{known_of}
use Rattle.lin_locks.specs.inner.Turns.{IsRight}
use Rattle.lin_locks.specs.Locks.{reached_in}
use Rattle.lin_locks.proofs.Next.{at_next, inside_next, next_formed, places, right_now, with_next}
use Rattle.lin_locks.proofs.Undoing.{as_much, gone_on, on_err, stayed}
use Rattle.lin_locks.proofs.locks.Lock.take_in.Goals as goal

pub returns-in-Some-clause-goes_on : goal.returns-in-Some-clause-goes_on
returns-in-Some-clause-goes_on c = λ goes h next.
    let old = c.args.self.now in
    let event = c.args.event.now in
    let new : Lock = record { standing = c.follow.new.self; changes = c.push_reserved.new.self } in
    let place : c.len-at.result ≡ reached_in old = omega (arith, c.len-at.ensures, c.reserve.ensures.len, old.changes.ok.0) in
    let said = c.in_ok-change.was ∙ ap Ok c.in-Some.is in
    gone_on old new c.in-Some.change (c.push_reserved.ensures.items ∙ ap (λ (l : List Change). l ++ c.in-Some.change ∷ []) c.reserve.ensures.items) (c.follow.ensures.back c.in-Some.change said (places (known_of old.standing) (take (reached_in old) h) (right_now old h next.told))) c.follow.ensures.kept h next.told (inside_next old h event next)
    (subst (IsRight (known_of c.follow.new.self)) (sym (with_next old h event next))
    (c.follow.ensures.on c.in-Some.change said next.well_formed.0 (take (reached_in old) h) (at_next old h event next c.len-at.result place) (next_formed old h event next) (right_now old h next.told)))

pub returns-in-None-clause-refuted : goal.returns-in-None-clause-refuted
returns-in-None-clause-refuted c = λ goes h next legal.
    let old = c.args.self.now in
    let event = c.args.event.now in
    let place : c.len-at.result ≡ reached_in old = omega (arith, c.len-at.ensures, c.reserve.ensures.len, old.changes.ok.0) in
    c.follow.ensures.fails (c.in_ok-change.was ∙ ap Ok c.in-None.is) next.well_formed.0 (take (reached_in old) h) (at_next old h event next c.len-at.result place) (next_formed old h event next) (right_now old h next.told)
    (subst (IsLinearizableAs Mutex) (with_next old h event next) legal)

pub returns-in-None-clause-stays : goal.returns-in-None-clause-stays
returns-in-None-clause-stays c = λ goes.
    stayed c.args.self.now (record { standing = c.follow.new.self; changes = c.reserve.new.self }) c.reserve.ensures.items (c.follow.ensures.stays (c.in_ok-change.was ∙ ap Ok c.in-None.is)) c.follow.ensures.kept

pub returns-in_err-reserve-clause-refused : goal.returns-in_err-reserve-clause-refused
returns-in_err-reserve-clause-refused c = on_err c.from_residual.result _ (stayed c.args.self.now (record { standing = c.args.self.now.standing; changes = c.reserve.new.self }) c.reserve.ensures.items refl (as_much c.args.self.now.standing))

pub returns-in_err-change-clause-refused : goal.returns-in_err-change-clause-refused
returns-in_err-change-clause-refused c = on_err c.from_residual-in_err-change.result _ (stayed c.args.self.now (record { standing = c.follow.new.self; changes = c.reserve.new.self }) c.reserve.ensures.items c.in_err-change.ensures.refused c.follow.ensures.kept)
