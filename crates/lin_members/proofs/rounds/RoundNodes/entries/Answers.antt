use Rattle.std.proofs.Common.{ℕ, Option, ◌≡◌, ◌++◌, ◌∷◌, [], ◌∙◌, ap, arith, inl, inr, length, length-append, subst, sym}
use Rattle.std.proofs.lemmas.Bool.{cases_lt}
use Rattle.lin_events.specs.declared.calls.Reply.{Reply}
use Rattle.lin_order.specs.declared.placed.Placed.{Placed}
use Rattle.lin_frontier.specs.lemmas.Spelling.{IsReading, reading_start, reading_inside, reading_step, reversed}
use Rattle.lin_members.proofs.rounds.RoundNodes.entries.Goals as goal
use Rattle.lin_members.proofs.rounds.RoundNodes.entries.Goals.{else-loop-test, then-loop-test+in_default}

pub loop-init : goal.loop-init
loop-init c = (ap length c.new-entries.ensures.items, λ order spelled. reading_start _ _ _ order c.new-entries.ensures.items spelled)

pub loop-preserved : goal.loop-preserved
loop-preserved c =
    let more = ap length c.in_ok-push.ensures.items ∙ length-append c.loop.entries.items _ in
    let link = c.in-Some.ensures.some in (
      omega (arith, c.loop.invariant.0),
      λ order spelled. subst (λ q. IsReading c.args.self.now c.args.id q c.push.new.self.items) (sym c.parent-at.ensures) (reading_step c.args.self.now c.args.id c.loop.at c.loop.entries.items c.push.new.self.items c.in-Some.link.now.0 c.in-Some.link.now.1 link.0 link.1
          (c.in_ok-push.ensures.items ∙ ap (λ (r : Reply). c.loop.entries.items ++ (record { at = c.placed-last.result.now.at; reply = r }, c.round.result) ∷ []) c.in_ok-copy.ensures
          ∙ ap (λ (p : Placed). c.loop.entries.items ++ (p, c.round.result) ∷ []) c.placed-last.ensures ∙ ap (λ (r : Option ℕ). c.loop.entries.items ++ (c.in-Some.link.now.1.0, r) ∷ []) c.round.ensures)
          (c.loop.invariant.1 order spelled)),
    )

pub returns : goal.returns
returns c order spelled =
    let reading = c.loop.invariant.1 order spelled in
    let at_root : c.loop.at ≡ 0 = elim (cases_lt 0 c.loop.at) [
      | inl above ↦
          let inside = reading_inside c.args.self.now c.args.id c.loop.at c.loop.entries.items above reading in
          elim c.loop-test.branch [
            | else-loop-test w ↦ absurd (let done = w.loop-test.false in let all = c.len-end.ensures in omega (arith, inside.1, c.loop.invariant.0))
            | then-loop-test+in_default w ↦ absurd (let past = w.in_default.ensures.none above in omega (arith, inside.0))
          ]
      | inr root ↦ omega (arith, root)
    ] in
    reversed c.args.self.now c.args.id c.loop.at c.loop.entries.items order at_root reading spelled
