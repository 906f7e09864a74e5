use Rattle.std.proofs.Common.{sym, ◌∙◌, true≢false}
use Rattle.lin_members.proofs.domination.covers_with_offers.Goals as goal

pub returns-then-not-covers_alike : goal.returns-then-not-covers_alike
returns-then-not-covers_alike g c =
    let covers = rw c.config.ensures at c.covers_alike.ensures in (
      λ t. absurd (true≢false (sym t)),
      λ d. absurd (true≢false (sym (covers.1 (record { same = d.same; part = d.part; rest = d.rest })) ∙ c.if-not-covers_alike.true)),
    )

pub returns : goal.returns
returns g c =
    let covers = rw c.config.ensures at c.covers_alike.ensures in (
      λ t. let k = covers.0 c.if-not-covers_alike.false in record { same = k.same; part = k.part; rest = k.rest; offered = c.has_offers.ensures.0 t },
      λ d. c.has_offers.ensures.1 d.offered,
    )
