-- While a question is answered what is kept stays up to date: the scan goes on, and the events are told apart.
use Rattle.std.proofs.Common.{◌≡◌, ◌≤◌, ℕ, List, Option, None, ap, length, subst, ◌∙◌}
use Rattle.lin_events.specs.declared.shapes.Cause.{Cause}
use Rattle.lin_events.specs.declared.events.Event.{Event}
use Rattle.lin_events.specs.declared.shapes.Shape.TheVariants.{Bad}
use Rattle.lin_events.specs.WellFormed.{IsShape}
use Rattle.lin_objects.specs.Kinds.{functions_of, kind_of}
use Rattle.lin_wellformed.specs.declared.scan.Scan.{Scan}
use Rattle.lin_wellformed.specs.Scans.{IsRight, ready_count}
use Rattle.lin_session.specs.declared.kept.Objects.{Objects}
use Rattle.lin_answers.specs.Edits.{Present}
use Rattle.lin_session.specs.Objects.{AreRight, split_in}
use Rattle.lin_session.specs.Sessions.{IsUpToDate}
use Rattle.lin_session.proofs.Low.{AreTakenIn-more}

module _ (now : Present) (low : Option ℕ) (scan more : Scan) (objects : Objects) (was : IsUpToDate now low scan objects) (h : List Event) (there : h ≡ now.history)
    (right : IsRight more (kind_of now.kinds) h) where
  -- some more events are scanned
  pub up_to_date : ready_count scan ≤ ready_count more → IsUpToDate now low more objects
  up_to_date less =
      let scanned = subst (IsRight more (kind_of now.kinds)) there right in
      record {
        few = was.few;
        budgeted = was.budgeted;
        scanned = scanned;
        taken_in = AreTakenIn-more low (ready_count scan) (ready_count more) (length now.history) less scanned.within was.taken_in;
        kept = was.kept;
        apart = was.apart;
      }

  -- all are, and one is bad
  pub up_to_bad : (at : ℕ) (cause : Cause) → ready_count more ≡ length h → IsShape (functions_of (kind_of now.kinds)) h (Bad at cause) → IsUpToDate now None more objects
  up_to_bad at cause all bad = record {
    few = was.few;
    budgeted = was.budgeted;
    scanned = subst (IsRight more (kind_of now.kinds)) there right;
    taken_in = all ∙ ap length there;
    kept = was.kept;
    apart = λ none fine. absurd (fine at cause (subst (λ l. IsShape (functions_of (kind_of now.kinds)) l (Bad at cause)) there bad).0);
  }

  -- all are, and told apart
  pub up_to_end : (apart : Objects) → ready_count more ≡ length h → (g : List Event) → g ≡ now.history → AreRight apart (kind_of now.kinds) now.budget g → split_in apart ≡ length g → IsUpToDate now None more apart
  up_to_end apart all g same kept split = record {
    few = was.few;
    budgeted = was.budgeted;
    scanned = subst (IsRight more (kind_of now.kinds)) there right;
    taken_in = all ∙ ap length there;
    kept = subst (AreRight apart (kind_of now.kinds) now.budget) same kept;
    apart = λ none fine. split ∙ ap length same;
  }
