use Rattle.std.proofs.Common.{option_map, subst}
use Rattle.std.proofs.lemmas.Result.{on_ok_weaker}
use Rattle.lin_explain.specs.Undecided.{IsOpenText}
use Rattle.lin_explain.proofs.undecided.put_object_open.Goals as goal

pub returns : goal.returns
returns c =
    let own = c.args.own.now in
    let names = c.args.origin.now.names.now in
    let places = option_map (λ p. p.now) c.args.origin.now.places in
    on_ok_weaker c.put_open.result
    (λ told. (
      told.0,
      subst (λ p. IsOpenText (record { names = names; events = own.events.items; picks = p; places = places }) c.args.budget c.args.keyed told.0) c.as_slice-4.ensures.value
          (subst (λ l. IsOpenText (record { names = names; events = l; picks = c.as_slice-4.result.now; places = places }) c.args.budget c.args.keyed told.0) c.as_slice-2.ensures.value told.1),
      told.2,
    )) c.put_open.ensures
