-- What is kept, and the standing that contracts see of it, while a question is answered.
use Rattle.std.proofs.Common.{◌≡◌, ◌≤◌, ◌+◌, ◌-◌, ◌⊎◌, ℕ, Bool, List, Option, None, Some, length, sym, ap, subst, ◌∙◌, arith}
use Rattle.lin_events.specs.declared.items.Item.{Item}
use Rattle.lin_events.specs.declared.events.Event.{Event}
use Rattle.lin_events.specs.declared.calls.Name.{Name}
use Rattle.lin_events.specs.declared.meter.Meter.{Meter}
use Rattle.lin_events.specs.declared.shapes.Cause.{Cause}
use Rattle.lin_events.specs.declared.shapes.Shape.{Shape}
use Rattle.lin_events.specs.declared.shapes.Shape.TheVariants.{Bad}
use Rattle.lin_events.specs.WellFormed.{IsShape, IsWellFormed}
use Rattle.lin_objects.specs.Kinds.{functions_of}
use Rattle.lin_wellformed.specs.declared.scan.Scan.{Scan}
use Rattle.lin_answers.specs.declared.answers.Scope.{Scope}
use Rattle.lin_session.specs.declared.kept.Objects.{Objects}
use Rattle.lin_answers.specs.Answers.{kinds_in}
use Rattle.lin_session.specs.Marks.{AreCarriedOn, AreExact, IsNothingDue}
use Rattle.lin_session.specs.Objects.{split_in}
use Rattle.lin_session.specs.Sessions.{AreTakenIn, IsAnswered, IsQuestion, IsUpToDate, Standing}
use Rattle.lin_session.specs.Known.{mark_of}
use Rattle.lin_session.specs.Work.{IsSpentAtMostIn, IsSpentIn, anew, due_in}
use Rattle.lin_session.proofs.Carrying.{AreCarriedOn-same}

-- the scan tells of the events under another name
pub shape_there : (functions : Item → Name → Bool) {h events : List Event} {shape named : Shape} → h ≡ events → shape ≡ named → IsShape functions h shape → IsShape functions events named
shape_there functions {events = events} {shape = shape} there is told = subst (IsShape functions events) is (subst (λ l. IsShape functions l shape) there told)

-- no more is scanned than stood before
pub scanned_anew : (low : Option ℕ) (taken count : ℕ) → AreTakenIn low taken count → count - taken ≤ anew low count
scanned_anew None taken count is = omega (arith, is)
scanned_anew (Some first) taken count is = omega (arith, is)

module _ (inside now : Standing) (view : inside ≡ now) where
  pub not_ill_formed : IsWellFormed (functions_of (kinds_in inside.present)) inside.present.history → (IsWellFormed (functions_of (kinds_in now.present)) now.present.history → ⊥) → ⊥
  not_ill_formed fine bad = bad (subst (λ (s : Standing). IsWellFormed (functions_of (kinds_in s.present)) s.present.history) view fine)

  pub not_well_formed : (at : ℕ) (cause : Cause) → IsShape (functions_of (kinds_in inside.present)) inside.present.history (Bad at cause) → IsWellFormed (functions_of (kinds_in now.present)) now.present.history → ⊥
  not_well_formed at cause bad fine = (subst (λ (s : Standing). IsWellFormed (functions_of (kinds_in s.present)) s.present.history) (sym view) fine) at cause bad.0

  module _ (scope : Scope) (new : Standing) (low : (new.low ≡ inside.low) ⊎ (new.low ≡ None))
      (scans : new.meter.scans ≤ inside.meter.scans + anew inside.low (length inside.present.history)) where
    -- a question by which no mark changes
    pub untouched : new.marks ≡ inside.marks → new.meter.steps ≡ inside.meter.steps → IsQuestion scope 0 now new
    untouched marks steps = subst (λ (s : Standing). IsQuestion scope 0 s new) view (record {
      low = low;
      scans = scans;
      marks = AreCarriedOn-same inside.present.history scope (mark_of inside.marks) (mark_of new.marks) (λ x. ap (λ l. mark_of l x) marks);
      most = omega (arith, steps);
      idle = λ nothing. omega (arith, steps);
      exact = λ are many. omega (arith, steps);
      ill_formed = λ bad x. ap (λ l. mark_of l x) marks;
    })

    -- and one that judges the objects
    pub judged : (h : List Event) → h ≡ inside.present.history → (steps : ℕ) → steps ≡ inside.meter.steps → AreCarriedOn h scope (mark_of inside.marks) (mark_of new.marks)
        → IsSpentAtMostIn h scope (mark_of inside.marks) (mark_of new.marks) steps new.meter.steps → (IsNothingDue h scope (mark_of inside.marks) → new.meter.steps ≡ steps)
        → (AreExact (kinds_in inside.present) h scope → 1024 ≤ inside.present.budget → new.meter.steps ≤ steps + due_in h scope (mark_of inside.marks))
        → IsWellFormed (functions_of (kinds_in inside.present)) inside.present.history → IsQuestion scope 0 now new
    judged h there steps same carried most idle exact fine = subst (λ (s : Standing). IsQuestion scope 0 s new) view (record {
      low = low;
      scans = scans;
      marks = subst (λ l. AreCarriedOn l scope (mark_of inside.marks) (mark_of new.marks)) there carried;
      most = let bound = subst (λ l. IsSpentAtMostIn l scope (mark_of inside.marks) (mark_of new.marks) steps new.meter.steps) there most in omega (arith, bound, same);
      exact = λ are many.
          let bound = subst (λ l. new.meter.steps ≤ steps + due_in l scope (mark_of inside.marks)) there (exact (subst (λ l. AreExact (kinds_in inside.present) l scope) (sym there) are) many) in
          omega (arith, bound, same);
      idle = λ nothing. let rests = idle (subst (λ l. IsNothingDue l scope (mark_of inside.marks)) (sym there) nothing) in omega (arith, rests, same);
      ill_formed = λ bad. absurd (bad fine);
    })

  module _ (scope : Scope) (new : Standing) (low : new.low ≡ None) where
    pub answered_bad : (IsWellFormed (functions_of (kinds_in now.present)) now.present.history → ⊥) → new.marks ≡ inside.marks → new.meter.steps ≡ inside.meter.steps → IsAnswered scope 0 now new
    answered_bad bad marks steps = subst (λ (s : Standing). (IsWellFormed (functions_of (kinds_in s.present)) s.present.history → ⊥) → IsAnswered scope 0 s new) view (λ bad_inside. record {
      low = low;
      known = λ fine. absurd (bad_inside fine);
      spent = subst (λ l. IsSpentIn inside.present.history scope (mark_of inside.marks) (mark_of l) (inside.meter.steps + 0) new.meter.steps) (sym marks) (omega (arith, steps));
    }) bad

    pub answered_good : (h : List Event) → h ≡ inside.present.history → (steps : ℕ) → steps ≡ inside.meter.steps → IsNothingDue h scope (mark_of new.marks)
        → IsSpentIn h scope (mark_of inside.marks) (mark_of new.marks) steps new.meter.steps → IsAnswered scope 0 now new
    answered_good h there steps same nothing spent = subst (λ (s : Standing). IsAnswered scope 0 s new) view (record {
      low = low;
      known = λ fine. subst (λ l. IsNothingDue l scope (mark_of new.marks)) there nothing;
      spent = let bound = subst (λ l. IsSpentIn l scope (mark_of inside.marks) (mark_of new.marks) steps new.meter.steps) there spent in omega (arith, bound, same);
    })

  -- where nothing has to be found, and nothing changed since a question
  module _ (scope : Scope) (h : List Event) (there : h ≡ inside.present.history) (nothing : IsNothingDue now.present.history scope (mark_of now.marks)) where
    pub nothing_due : IsNothingDue h scope (mark_of inside.marks)
    nothing_due = subst (λ l. IsNothingDue l scope (mark_of inside.marks)) (sym there) (subst (λ (s : Standing). IsNothingDue s.present.history scope (mark_of s.marks)) (sym view) nothing)

    pub apart : (scan : Scan) (objects : Objects) → IsUpToDate inside.present inside.low scan objects → IsWellFormed (functions_of (kinds_in inside.present)) inside.present.history → now.low ≡ None
        → split_in objects ≡ length h
    apart scan objects was fine none = was.apart (ap (λ (s : Standing). s.low) view ∙ none) fine ∙ ap length (sym there)

    pub idle : (settled after : Meter) → (settled.steps ≡ inside.meter.steps) × (settled.tries ≡ inside.meter.tries) → (IsNothingDue h scope (mark_of inside.marks) → after ≡ settled)
        → (after.steps ≡ now.meter.steps) × (after.tries ≡ now.meter.tries)
    idle settled after others no_work =
        let same = no_work nothing_due in
        let meter = ap (λ (s : Standing). s.meter) view in (
          ap (λ (m : Meter). m.steps) same ∙ others.0 ∙ ap (λ (m : Meter). m.steps) meter,
          ap (λ (m : Meter). m.tries) same ∙ others.1 ∙ ap (λ (m : Meter). m.tries) meter,
        )
