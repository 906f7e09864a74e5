use Rattle.std.proofs.Common.{[]}
use Rattle.lin_formats.proofs.places.look_at.Goals as goal

pub returns : goal.returns
returns c = λ e. c.go_on-rest.ensures.seen e [] c.clear.ensures
