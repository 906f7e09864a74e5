use Rattle.std.proofs.Common.{inl, inr, sym, ◌∙◌, true≢false}
use Rattle.lin_compressed_frontier.proofs.completions.Completion.round_given.Goals as goal

pub returns-clause-none : goal.returns-clause-none
returns-clause-none g c round takes =
    let never = rw c.offers.ensures at c.in_default.ensures.none in
    let given = rw c.state.ensures at c.in_ok-gives.ensures.given in
    elim takes [
      | inl there ↦ never round there
      | inr gives ↦ true≢false (sym (given.1 (gives.1.1, gives.1.2)) ∙ c.if-branch.false)
    ]
