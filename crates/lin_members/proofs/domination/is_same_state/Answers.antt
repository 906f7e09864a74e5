use Rattle.std.proofs.Common.{ap, sym, ◌∙◌}
use Rattle.lin_members.proofs.domination.is_same_state.Goals as goal

pub returns : goal.returns
returns g c = (
  λ t. g.met.O.SeqObject.same c.args.state.now c.args.other.now (sym c.eq.ensures ∙ t),
  λ e. c.eq.ensures ∙ ap (λ x. g.O.State.PartialEq.eq c.args.state.now x) (sym e) ∙ g.met.O.State.Eq.laws.refl c.args.state.now,
)
