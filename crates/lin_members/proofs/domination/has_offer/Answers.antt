use Rattle.std.proofs.Common.{sym, ap, not, ◌∙◌, true≢false}
use Rattle.lin_frontier.specs.lemmas.Masking.{never_true}
use Rattle.lin_members.proofs.domination.has_offer.Goals as goal

pub returns : goal.returns
returns g c =
    let absent = rw c.placed.ensures at c.is_absent.ensures in
    let never = rw c.offers.ensures at c.in_default.ensures.none in (
      λ t watching none. absurd (true≢false (sym t ∙ ap not (absent.1 none))),
      λ holds. ap not (never_true c.is_absent.result (λ t. let there = holds (sym c.is_watching.ensures ∙ c.if-not-is_watching.false) (absent.0 t) in never there.0 there.1)),
    )
