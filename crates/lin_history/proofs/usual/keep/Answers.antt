use Rattle.std.proofs.Common.{subst}
use Rattle.lin_history.specs.inner.Usual.{IsKeyOf}
use Rattle.lin_history.proofs.Maps.{none_added}
use Rattle.lin_history.proofs.usual.keep.Goals as goal

pub returns-in-Other : goal.returns-in-Other
returns-in-Other c = λ e key is p.
    let none = subst (λ f. IsKeyOf f key) c.in-Other.is is in
    none_added c.args.places.now p key c.args.place none.0 none.1 none.2 none.3
