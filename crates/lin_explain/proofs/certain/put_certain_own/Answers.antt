use Rattle.std.proofs.Common.{option_map, subst}
use Rattle.std.proofs.lemmas.Result.{IfOk-weaker}
use Rattle.lin_explain.specs.Certain.{IsCertainText}
use Rattle.lin_explain.proofs.certain.put_certain_own.Goals as goal

pub returns : goal.returns
returns c =
    let own = c.args.own.now in
    let names = c.args.origin.now.names.now in
    let places = option_map (λ p. p.now) c.args.origin.now.places in
    IfOk-weaker c.put_found.result _ _
    (λ why told. (
      told.0,
      subst (λ p. IsCertainText c.args.kind (record { names = names; events = own.events.items; picks = p; places = places }) told.0 why) c.as_slice-4.ensures.value
          (subst (λ l. IsCertainText c.args.kind (record { names = names; events = l; picks = c.as_slice-4.result.now; places = places }) told.0 why) c.as_slice-2.ensures.value told.1),
      told.2,
    )) c.put_found.ensures
