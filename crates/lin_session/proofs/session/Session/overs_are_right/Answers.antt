use Rattle.std.proofs.Common.{sym, subst}
use Rattle.lin_order.specs.Parts.{part}
use Rattle.lin_engines.specs.declared.ends.End.TheVariants.{Over}
use Rattle.lin_engines.specs.Ends.{IsEndOf}
use Rattle.lin_objects.specs.Kinds.{kind_of}
use Rattle.lin_answers.specs.Answers.{kinds_in}
use Rattle.lin_session.specs.Marks.{IsToldOf}
use Rattle.lin_session.specs.Sessions.{Standing}
use Rattle.lin_session.specs.Known.{mark_of}
use Rattle.lin_session.proofs.Knowing.{over_listed}
use Rattle.lin_session.proofs.session.Session.overs_are_right.Goals as goal

pub returns : goal.returns
returns c = λ key at over.
    let s = c.self.inside in
    let inside = subst (λ (v : Standing). IsToldOf v.present.history (mark_of v.marks) key (Over at)) (sym c.self.view_is) over in
    subst (λ (v : Standing). IsEndOf (kinds_in v.present key) v.present.budget (part key v.present.history) (Over at)) c.self.view_is
    (over_listed (kind_of s.kinds) s.budget s.events.items s.objects c.self.invariant.kept key at inside)
