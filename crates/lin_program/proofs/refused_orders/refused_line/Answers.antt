use Rattle.std.proofs.Common.{◌∙◌, ◌++◌, ◌∷◌, [], ap, subst, sym}
use Rattle.lin_formats.specs.Devices.{device_of, refused_of}
use Rattle.lin_formats.specs.Verdicts.{IsVerified}
use Rattle.lin_formats.specs.declared.verdicts.OrderVerdict.TheVariants.{Refused}
use Rattle.lin_program.proofs.refused_orders.refused_line.Goals as goal

pub returns-clause-found : goal.returns-clause-found
returns-clause-found g c =
    let refusal = c.in_ok-refusal.refusal in
    let left = ap (λ f. g.R.Read.remaining (device_of f)) c.keep_refusal.ensures in (
      refusal,
      subst (λ left. IsVerified c.args.settings c.args.order.now (g.R.Read.remaining (device_of c.args.file.now)) left (Refused refusal)) (sym left) c.in_ok-refusal.ensures.found,
      ap (λ f. refused_of f) c.keep_refusal.ensures,
      c.in_ok-push.ensures.items ∙ ap (λ words. words ++ 10 ∷ []) c.in_ok-line.ensures,
    )
