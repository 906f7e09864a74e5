use Rattle.std.proofs.Common.{◌≡◌, ◌≤◌, ◌<◌, ◌+◌, ◌∙◌, Ok, true, length, take, sym, ap, subst, arith}
use Rattle.lin_order.specs.Linearizable.{IsLinearizableAs}
use Rattle.lin_order.specs.Parts.{events_at}
use Rattle.lin_engines.specs.lemmas.Picks.{length-events_at}
use Rattle.lin_chain.specs.declared.chain.Chain.{Chain}
use Rattle.lin_chain.specs.Chains.{kind_in}
use Rattle.lin_chain.proofs.Chaining.{right_with_found}
use Rattle.lin_chain.proofs.chain.Chain.show.Goals as goal

pub returns-then-branch-clause-right : goal.returns-then-branch-clause-right
returns-then-branch-clause-right c =
    let h = events_at c.args.events.now c.args.picks.now in
    let long = length-events_at c.args.events.now c.args.picks.now c.requires.inside in
    let inside = c.if-picks-at.false in
    let same = c.reaches.ensures.others in
    right_with_found c.reaches.new.self _ h (
      omega (arith, long, inside),
      record {
        before = subst (λ (r : Chain). IsLinearizableAs (kind_in r) (take c.args.at h)) (sym same) (c.reaches.ensures.linearizable (c.in_ok-reaches.was ∙ ap Ok c.if-branch.true));
        failing = subst (λ (r : Chain). IsLinearizableAs (kind_in r) (take (c.args.at + 1) h) → ⊥) (sym same) c.requires.failing;
      },
    ) c.reaches.ensures.right
