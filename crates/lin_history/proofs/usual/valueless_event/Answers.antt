use Rattle.std.proofs.Common.{sym, subst}
use Rattle.lin_names.specs.Spelled.{seen}
use Rattle.lin_history.specs.inner.Usual.{AreParts}
use Rattle.lin_history.proofs.Usuals.{tells_same, valueless, valueless_parts}
use Rattle.lin_history.proofs.usual.valueless_event.Goals as goal

pub returns-clause-told : goal.returns-clause-told
returns-clause-told c = λ m is levels vs low there.
    let key = seen c.in_ok-key.key in
    let doing = c.args.doing in
    let found = c.in_ok-key.ensures levels vs low there in
    let parts = subst (λ k. AreParts k vs key found.0) (sym is.0) found.1 in
    tells_same m doing.process doing.event_type doing.name vs key found.0 c.in_ok-told.told c.requires parts
    (c.in_ok-told.ensures.told m is.1 (valueless m.keyed key) (valueless_parts m.keyed vs key found.0 parts))
