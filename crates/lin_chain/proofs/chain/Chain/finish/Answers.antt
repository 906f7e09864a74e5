use Rattle.std.proofs.Common.{◌≡◌, ◌<◌, ◌≤◌, ◌∙◌, Some, IfSome, true, false, nat_lt, length, sym, subst, arith, inl, inr, ◌⊎◌}
use Rattle.std.proofs.lemmas.Bool.{cases_lt}
use Rattle.lin_order.specs.Parts.{events_at}
use Rattle.lin_engines.specs.Ends.{IsEndOf}
use Rattle.lin_engines.specs.Exacts.{HasExact}
use Rattle.lin_engines.specs.lemmas.Picks.{length-events_at}
use Rattle.lin_chain.specs.Chains.{IsKept, kind_in}
use Rattle.lin_chain.proofs.Chaining.{kept_same, kept_with_frontier}
use Rattle.lin_chain.proofs.chain.Chain.finish.Goals as goal
use Rattle.lin_chain.proofs.chain.Chain.finish.Goals.{After-go_on}

pub returns-in-Some-clause-end : goal.returns-in-Some-clause-end
returns-in-Some-clause-end c =
    let long = length-events_at c.args.events.now c.args.picks.now c.requires.inside in
    c.in-Some.ensures.right (events_at c.args.events.now c.args.picks.now) c.args.budget (sym long) c.requires.right c.requires.retried

-- frontiers of an object that an engine decides run only under small budgets
small : (c : After-go_on) → HasExact (kind_in c.args.self.now) → c.args.budget < 1024
small c exact = elim (cases_lt c.args.budget 1024) [
  | inl less ↦ less
  | inr more ↦ absurd (let told = c.requires.spared exact more in c.in_default.not-Some told.0 (c.told.ensures.is ∙ told.1))
]

kept : (c : After-go_on) → IsKept c.args.budget (events_at c.args.events.now c.args.picks.now) c.args.self.now (record c.args.self.now { frontier = c.go_on.new.self })
kept c =
    let h = events_at c.args.events.now c.args.picks.now in
    kept_with_frontier c.args.budget h c.args.self.now c.args.self.now c.go_on.new.self c.go_on.ensures.kind c.go_on.ensures.right (c.go_on.ensures.retried c.requires.retried)
    (λ exact. c.go_on.ensures.under 1024 (small c exact) (c.requires.right.spared exact)) c.go_on.ensures.no_less (kept_same c.args.budget h c.args.self.now c.requires.right c.requires.retried)

pub returns-in_err-go_on-clause-kept : goal.returns-in_err-go_on-clause-kept
returns-in_err-go_on-clause-kept c = kept (goal.at.returns-in_err-go_on-clause-kept c).After-go_on

pub returns-clause-kept : goal.returns-clause-kept
returns-clause-kept c = kept (goal.at.returns-clause-kept c).After-go_on

pub returns-clause-end : goal.returns-clause-end
returns-clause-end c =
    let h = events_at c.args.events.now c.args.picks.now in
    let long = length-events_at c.args.events.now c.args.picks.now c.requires.inside in
    let now = kept (goal.at.returns-clause-end c).After-go_on in
    subst (λ k. IsEndOf k c.args.budget h c.in-Some-told.end) now.kind (c.in-Some-told.ensures.right h c.args.budget (sym long) now.right now.retried)
