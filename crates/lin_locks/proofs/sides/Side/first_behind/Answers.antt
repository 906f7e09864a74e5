use Rattle.std.proofs.Common.{◌≡◌, ◌≤◌, ◌-◌, get_or, sym, ap, subst, ◌∙◌, inl, inr, arith}
use Rattle.std.proofs.lemmas.Bool.{cases_lt}
use Rattle.std.proofs.lemmas.Option.{get_or_from_slice_get}
use Rattle.lin_locks.specs.declared.sides.Debt.{Debt}
use Rattle.lin_locks.proofs.sides.Side.first_behind.Goals as goal

pub returns-else-begin-index-clause-ahead : goal.returns-else-begin-index-clause-ahead
returns-else-begin-index-clause-ahead c rising k debt before there =
    let debts = c.args.self.now.debts.items in
    let at = c.loop-at.at in
    let last = c.index.result.now in
    let within = c.loop-at.invariant.within in
    let early = c.if-begin-index.false in
    let is = get_or_from_slice_get debts k debt last there in
    elim (cases_lt k (at - 1)) [
      | inl earlier ↦
          let fits : (get_or debts k last).until ≤ (get_or debts (at - 1) last).until = rising k (at - 1) last earlier (omega arith) in
          let first : debt.until ≤ (get_or debts (at - 1) last).until = subst (λ (d : Debt). d.until ≤ (get_or debts (at - 1) last).until) is fits in
          let then : debt.until ≤ last.until = subst (λ (d : Debt). debt.until ≤ d.until) (sym c.index.ensures) first in
          omega arith
      | inr here ↦
          let same : at - 1 ≡ k = omega arith in
          let one : last ≡ debt = c.index.ensures ∙ ap (λ i. get_or debts i last) same ∙ is in
          subst (λ (d : Debt). d.until ≤ c.args.begin) one early
    ]
