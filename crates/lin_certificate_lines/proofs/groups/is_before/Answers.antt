use Rattle.std.proofs.Common.{ℕ, ◌<◌, subst}
use Rattle.std.proofs.lemmas.Bool.Decides.{Decides-ltb}
use Rattle.lin_order.specs.lemmas.Lists.{no_since}
use Rattle.lin_order.specs.lemmas.OneEnd.{one_ok}
use Rattle.lin_certificate_lines.proofs.groups.is_before.Goals as goal

pub returns-in-Some : goal.returns-in-Some
returns-in-Some c =
    let less = Decides-ltb c.in-Some.end c.args.later in (
      λ yes'. (c.in-Some.end, c.in-Some.field-0-1.now, c.in-Some.ensures, less.0 yes'),
      λ before. less.1 (subst (λ (end : ℕ). end < c.args.later)
          (one_ok c.args.events.now c.args.earlier before.0 c.in-Some.end before.1 c.in-Some.field-0-1.now before.2 c.in-Some.ensures).0 before.3),
    )

pub returns-in-None : goal.returns-in-None
returns-in-None c = no_since (λ before. c.in-None.ensures before.0 before.1 before.2)
