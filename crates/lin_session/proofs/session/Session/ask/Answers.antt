use Rattle.std.proofs.Common.{◌≡◌, ◌≤◌, ◌+◌, None, inl, inr, refl, sym, ap, length, subst, ◌∙◌, arith}
use Rattle.lin_events.specs.declared.meter.Meter.{Meter}
use Rattle.lin_events.specs.WellFormed.{IsShape}
use Rattle.lin_objects.specs.Kinds.{functions_of, kind_of}
use Rattle.lin_wellformed.specs.Scans.{ready_count}
use Rattle.lin_answers.specs.Answers.{kinds_in}
use Rattle.lin_session.specs.inner.Objects.{marks_in}
use Rattle.lin_session.specs.Marks.{AreExact, IsMarkedAs}
use Rattle.lin_session.specs.Sessions.{AreTakenIn, Standing}
use Rattle.lin_session.specs.Work.{anew}
use Rattle.lin_session.proofs.Found.{not_ok}
use Rattle.lin_session.proofs.Questions.{answered_bad, answered_good, apart, idle, judged, not_ill_formed, not_well_formed, nothing_due, scanned_anew, shape_there, untouched}
use Rattle.lin_session.proofs.Scanned.{up_to_bad, up_to_date, up_to_end}
use Rattle.lin_session.proofs.session.Session.ask.Goals as goal
use Rattle.lin_session.proofs.session.Session.ask.Goals.{After-settle}

pub judge-requires-clause-well_formed : goal.judge-requires-clause-well_formed
judge-requires-clause-well_formed c =
    shape_there (functions_of (kind_of c.self.inside.kinds)) (c.deref.ensures.value ∙ sym c.deref-in-Good.ensures.value) c.in-Good.is c.in_ok-settle.ensures.shape

pub returns-in-Bad-clause-verdict : goal.returns-in-Bad-clause-verdict
returns-in-Bad-clause-verdict c =
    rw (← c.self.view_is) (shape_there (functions_of (kind_of c.self.inside.kinds)) c.deref.ensures.value c.in-Bad.is c.in_ok-settle.ensures.shape)

pub invariant_of-self : goal.invariant_of-self
invariant_of-self c = up_to_date _ _ _ _ _ c.self.invariant _ c.deref.ensures.value c.settle.ensures.right c.settle.ensures.no_less

pub invariant_of-self-in-Bad : goal.invariant_of-self-in-Bad
invariant_of-self-in-Bad c = up_to_bad _ _ _ _ _ c.self.invariant _ c.deref.ensures.value c.settle.ensures.right c.in-Bad.at c.in-Bad.cause c.in_ok-settle.ensures.all
    (subst (IsShape (functions_of (kind_of c.self.inside.kinds)) c.deref.result.now) c.in-Bad.is c.in_ok-settle.ensures.shape)

pub invariant_of-self-in-Good : goal.invariant_of-self-in-Good
invariant_of-self-in-Good c =
    up_to_end _ _ _ _ _ c.self.invariant _ c.deref.ensures.value c.settle.ensures.right c.judge.new.self c.in_ok-settle.ensures.all c.deref-in-Good.result.now c.deref-in-Good.ensures.value
    c.judge.ensures.right c.in_ok-found-in-Good.ensures.split

-- no more is scanned than stood before
scans : (c : After-settle) → c.settle.new.meter.scans ≤ c.self.inside.meter.scans + anew c.self.inside.low (length c.self.inside.events.items)
scans c =
    omega (arith, c.settle.ensures.bounded, ap length c.deref.ensures.value, scanned_anew c.self.inside.low (ready_count c.self.inside.scan) (length c.self.inside.events.items) c.self.invariant.taken_in)

pub returns-in_err-settle-clause-question : goal.returns-in_err-settle-clause-question
returns-in_err-settle-clause-question c = untouched _ _ c.self.view_is c.args.scope _ (inl refl) (scans (goal.at.returns-in_err-settle-clause-question c).After-settle) refl c.settle.ensures.others.0

pub returns-in-Bad-clause-question : goal.returns-in-Bad-clause-question
returns-in-Bad-clause-question c = untouched _ _ c.self.view_is c.args.scope _ (inr refl) (scans (goal.at.returns-in-Bad-clause-question c).After-settle) refl c.settle.ensures.others.0

pub returns-in-Bad-clause-answered : goal.returns-in-Bad-clause-answered
returns-in-Bad-clause-answered c = answered_bad _ _ c.self.view_is c.args.scope _ refl (not_well_formed _ _ c.self.view_is _ _ (shape_there (functions_of (kind_of c.self.inside.kinds)) c.deref.ensures.value c.in-Bad.is c.in_ok-settle.ensures.shape)) refl c.settle.ensures.others.0

pub returns-in_err-found-in-Good-clause-question : goal.returns-in_err-found-in-Good-clause-question
returns-in_err-found-in-Good-clause-question c =
    let scanned = scans (goal.at.returns-in_err-found-in-Good-clause-question c).After-settle in
    judged _ _ c.self.view_is c.args.scope _ (inl refl) (omega (arith, scanned, c.judge.ensures.scans)) c.deref-in-Good.result.now c.deref-in-Good.ensures.value c.settle.new.meter.steps c.settle.ensures.others.0
    c.judge.ensures.carried c.judge.ensures.most (λ nothing. ap (λ (m : Meter). m.steps) (c.judge.ensures.idle nothing)) c.judge.ensures.exact (shape_there (functions_of (kind_of c.self.inside.kinds)) c.deref.ensures.value c.in-Good.is c.in_ok-settle.ensures.shape)

pub returns-in_ok-found-in-Good-clause-question : goal.returns-in_ok-found-in-Good-clause-question
returns-in_ok-found-in-Good-clause-question c =
    let scanned = scans (goal.at.returns-in_ok-found-in-Good-clause-question c).After-settle in
    judged _ _ c.self.view_is c.args.scope _ (inr refl) (omega (arith, scanned, c.judge.ensures.scans)) c.deref-in-Good.result.now c.deref-in-Good.ensures.value c.settle.new.meter.steps c.settle.ensures.others.0
    c.judge.ensures.carried c.judge.ensures.most (λ nothing. ap (λ (m : Meter). m.steps) (c.judge.ensures.idle nothing)) c.judge.ensures.exact (shape_there (functions_of (kind_of c.self.inside.kinds)) c.deref.ensures.value c.in-Good.is c.in_ok-settle.ensures.shape)

pub returns-in_ok-found-in-Good-clause-answered : goal.returns-in_ok-found-in-Good-clause-answered
returns-in_ok-found-in-Good-clause-answered c =
    answered_good _ _ c.self.view_is c.args.scope _ refl c.deref-in-Good.result.now c.deref-in-Good.ensures.value c.settle.new.meter.steps c.settle.ensures.others.0 c.in_ok-found-in-Good.ensures.known c.in_ok-found-in-Good.ensures.spent

pub returns-in_ok-found-in-Good-clause-told : goal.returns-in_ok-found-in-Good-clause-told
returns-in_ok-found-in-Good-clause-told c =
    subst (λ (s : Standing). IsMarkedAs s.present.history c.args.scope (marks_in c.judge.new.self) c.in_ok-found-in-Good.found) c.self.view_is
    (subst (λ l. IsMarkedAs l c.args.scope (marks_in c.judge.new.self) c.in_ok-found-in-Good.found) c.deref-in-Good.ensures.value c.in_ok-found-in-Good.ensures.told)

pub returns-in_ok-found-in-Good-clause-decided : goal.returns-in_ok-found-in-Good-clause-decided
returns-in_ok-found-in-Good-clause-decided c = λ exact many at is_over.
    let inside = subst (λ (s : Standing). AreExact (kinds_in s.present) s.present.history c.args.scope) (sym c.self.view_is) exact in
    let enough = subst (λ (s : Standing). 1024 ≤ s.present.budget) (sym c.self.view_is) many in
    c.judge.ensures.decided (subst (λ l. AreExact (kind_of c.self.inside.kinds) l c.args.scope) (sym c.deref-in-Good.ensures.value) inside) enough at (c.in_ok-found-in-Good.was ∙ is_over)

pub returns-in_err-settle-clause-known : goal.returns-in_err-settle-clause-known
returns-in_err-settle-clause-known c = λ none bad.
    let low : c.self.inside.low ≡ None = ap (λ (s : Standing). s.low) c.self.view_is ∙ none in
    let all = subst (λ l. AreTakenIn l (ready_count c.self.inside.scan) (length c.self.inside.events.items)) low c.self.invariant.taken_in in
    absurd (not_ok c.settle.result c.in_err-settle.field-0.0 c.in_err-settle.was (c.settle.ensures.settled (all ∙ ap length (sym c.deref.ensures.value))))

pub returns-in_err-settle-clause-ready : goal.returns-in_err-settle-clause-ready
returns-in_err-settle-clause-ready c = λ none nothing.
    let low : c.self.inside.low ≡ None = ap (λ (s : Standing). s.low) c.self.view_is ∙ none in
    let all = subst (λ l. AreTakenIn l (ready_count c.self.inside.scan) (length c.self.inside.events.items)) low c.self.invariant.taken_in in
    absurd (not_ok c.settle.result c.in_err-settle.field-0.0 c.in_err-settle.was (c.settle.ensures.settled (all ∙ ap length (sym c.deref.ensures.value))))

pub returns-in_err-found-in-Good-clause-known : goal.returns-in_err-found-in-Good-clause-known
returns-in_err-found-in-Good-clause-known c = λ none bad. absurd (not_ill_formed _ _ c.self.view_is (shape_there (functions_of (kind_of c.self.inside.kinds)) c.deref.ensures.value c.in-Good.is c.in_ok-settle.ensures.shape) bad)

pub returns-in_err-found-in-Good-clause-ready : goal.returns-in_err-found-in-Good-clause-ready
returns-in_err-found-in-Good-clause-ready c = λ none nothing.
    let told_apart = apart _ _ c.self.view_is c.args.scope c.deref-in-Good.result.now c.deref-in-Good.ensures.value nothing _ _ c.self.invariant (shape_there (functions_of (kind_of c.self.inside.kinds)) c.deref.ensures.value c.in-Good.is c.in_ok-settle.ensures.shape) none in
    absurd (not_ok c.judge.result c.in_err-found-in-Good.field-0.0 c.in_err-found-in-Good.was (c.judge.ensures.ready told_apart (nothing_due _ _ c.self.view_is c.args.scope c.deref-in-Good.result.now c.deref-in-Good.ensures.value nothing)))

pub returns-in_ok-found-in-Good-clause-idle : goal.returns-in_ok-found-in-Good-clause-idle
returns-in_ok-found-in-Good-clause-idle c = λ nothing.
    idle _ _ c.self.view_is c.args.scope c.deref-in-Good.result.now c.deref-in-Good.ensures.value nothing _ _ c.settle.ensures.others c.judge.ensures.idle

pub returns-in_err-found-in-Good-clause-idle : goal.returns-in_err-found-in-Good-clause-idle
returns-in_err-found-in-Good-clause-idle c = λ nothing.
    idle _ _ c.self.view_is c.args.scope c.deref-in-Good.result.now c.deref-in-Good.ensures.value nothing _ _ c.settle.ensures.others c.judge.ensures.idle
