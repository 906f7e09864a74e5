use Rattle.std.proofs.Common.{◌≡◌, ◌↔◌, IsTrue, Contains, subst, sym, ◌∙◌, ℕ, List}
use Rattle.lin_events.specs.declared.calls.Reply.{Reply}
use Rattle.lin_order.specs.Configurations.{IsAdded}
use Rattle.lin_order.specs.Refutations.{Config}
use Rattle.lin_order.specs.lemmas.Lists.{yes_since}
use Rattle.lin_order.proofs.Carrying.{ok_left, fail_left, fail_none}
use Rattle.lin_order.proofs.refutations.holds_left.Goals as goal

pub returns-in_ok-fewer-in-Ok : goal.returns-in_ok-fewer-in-Ok
returns-in_ok-fewer-in-Ok c =
    let event = c.args.event.now in
    let placed = c.placed-placed.ensures in
    let keys = c.args.members.now.keys in
    let there = c.is_placed.ensures.0 c.if-not-is_placed.false in
    let added = subst (IsAdded event.process c.in-Ok.reply c.in_ok-fewer-in-Ok.fewer.items) placed (c.in_ok-fewer-in-Ok.ensures c.in-Ok.reply there) in
    let same : c.in_ok-state-in-Ok.state ≡ c.args.config.now.0 = c.in_ok-state-in-Ok.ensures ∙ c.state.ensures in
    let left : c.new-left.result ≡ (c.args.config.now.0, c.in_ok-fewer-in-Ok.fewer.items) = c.new-left.ensures ∙ (λ i. (same i, c.in_ok-fewer-in-Ok.fewer.items)) in
    ok_left event keys c.args.config.now c.in-Ok.field-0 c.in-Ok.reply c.in-Ok.is c.in_ok-fewer-in-Ok.fewer.items added c.holds.result
    (subst (λ (d : Config). IsTrue c.holds.result ↔ Contains keys d) left c.holds.ensures)

pub returns-then-not-is_absent : goal.returns-then-not-is_absent
returns-then-not-is_absent c =
    yes_since (fail_none c.args.event.now c.args.members.now.keys c.args.config.now c.in-Fail.field-0 c.in-Fail.is
    (λ absent. let yes' = c.is_absent.ensures.1 (subst (λ (l : List (ℕ × Reply)). (reply : Reply) → Contains l (c.args.event.now.process, reply) → ⊥) (sym c.placed-placed.ensures) absent) in let no' = c.if-not-is_absent.true in cc))

pub returns-else-not-is_absent : goal.returns-else-not-is_absent
returns-else-not-is_absent c =
    let absent = subst (λ (l : List (ℕ × Reply)). (reply : Reply) → Contains l (c.args.event.now.process, reply) → ⊥) c.placed-placed.ensures (c.is_absent.ensures.0 c.if-not-is_absent.false) in
    fail_left c.args.event.now c.args.members.now.keys c.args.config.now c.in-Fail.field-0 c.in-Fail.is absent c.holds-in-Fail.result c.holds-in-Fail.ensures
