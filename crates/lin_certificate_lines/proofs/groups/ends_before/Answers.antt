use Rattle.std.proofs.Common.{ℕ, ◌<◌, subst}
use Rattle.std.proofs.lemmas.Bool.Decides.{Decides-ltb}
use Rattle.lin_order.specs.lemmas.Lists.{no_since}
use Rattle.lin_order.specs.lemmas.OneEnd.{one_end}
use Rattle.lin_certificate_lines.proofs.groups.ends_before.Goals as goal

pub returns-in-Some : goal.returns-in-Some
returns-in-Some c =
    let less = Decides-ltb c.in-Some.end c.args.place in (
      λ yes'. (c.in-Some.end, c.in-Some.field-0-1.now, c.in-Some.ensures, less.0 yes'),
      λ ended. less.1 (subst (λ (end : ℕ). end < c.args.place)
          (one_end c.args.events.now c.args.at ended.0 c.in-Some.end ended.1 c.in-Some.field-0-1.now ended.2 c.in-Some.ensures) ended.3),
    )

pub returns-in-None : goal.returns-in-None
returns-in-None c = no_since (λ ended. c.in-None.ensures ended.0 ended.1 ended.2)
