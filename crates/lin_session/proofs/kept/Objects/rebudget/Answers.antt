use Rattle.std.proofs.Common.{sym, refl, subst, arith}
use Rattle.std.proofs.lemmas.Bool.Decides.{Decides-ltb}
use Rattle.lin_session.specs.Objects.{listed_known}
use Rattle.lin_session.specs.inner.Objects.{marks_in}
use Rattle.lin_session.specs.Known.{mark_of}
use Rattle.lin_session.specs.Leaving.{IsRebudgeted}
use Rattle.lin_session.proofs.Raising.{AreKept-raised, AreKept-smaller, marks_raised}
use Rattle.lin_session.proofs.Touching.{not_below}
use Rattle.lin_session.proofs.kept.Objects.rebudget.Goals as goal

pub returns-then-before-after-clause-right : goal.returns-then-before-after-clause-right
returns-then-before-after-clause-right c = λ kinds h kept.
    let s = c.args.self.now in
    AreKept-raised kinds c.args.before c.args.after h s.split s.keys.keys s.objects.items _ kept c.raise_all.ensures.all s.aligned c.raise_all.ensures.each

pub returns-then-before-after-clause-marks : goal.returns-then-before-after-clause-marks
returns-then-before-after-clause-marks c = λ kinds h kept x.
    let s = c.args.self.now in
    subst (λ b. IsRebudgeted b (marks_in s x) (mark_of (listed_known s.keys.keys c.raise_all.new.objects.items) x)) (sym ((Decides-ltb c.args.before c.args.after).1 (omega (arith, c.if-before-after.true))))
    (marks_raised kinds c.args.before c.args.after h s.split s.keys.keys s.objects.items _ kept c.raise_all.ensures.all s.aligned c.raise_all.ensures.each x)

pub returns-else-before-after-clause-right : goal.returns-else-before-after-clause-right
returns-else-before-after-clause-right c = λ kinds h kept.
    let s = c.args.self.now in
    AreKept-smaller kinds c.args.before c.args.after h s.split s.keys.keys s.objects.items (omega (arith, c.if-before-after.false)) kept

pub returns-else-before-after-clause-marks : goal.returns-else-before-after-clause-marks
returns-else-before-after-clause-marks c = λ kinds h kept x.
    let s = c.args.self.now in
    subst (λ b. IsRebudgeted b (marks_in s x) (marks_in s x)) (sym (not_below c.args.before c.args.after (omega (arith, c.if-before-after.false)))) refl
