use Rattle.std.proofs.Common.{◌≡◌, ◌++◌, ◌∷◌, [], ◌∙◌, ap, arith, inl, inr, length, length-append}
use Rattle.std.proofs.lemmas.Bool.{cases_lt}
use Rattle.lin_events.specs.declared.calls.Reply.{Reply}
use Rattle.lin_frontier.specs.lemmas.Spelling.{reading_start, reading_inside, reading_step, reading_end}
use Rattle.lin_frontier.proofs.nodes.Nodes.order.Goals as goal
use Rattle.lin_frontier.proofs.nodes.Nodes.order.Goals.{else-loop-test, then-loop-test+in_default}

pub loop-init : goal.loop-init
loop-init c = (ap length c.new-order.ensures.items, λ order spelled. reading_start _ _ _ order c.new-order.ensures.items spelled)

pub loop-preserved : goal.loop-preserved
loop-preserved c =
    let more = ap length c.in_ok-push.ensures.items ∙ length-append c.loop.order.items _ in
    let link = c.in-Some.ensures.some in (
      omega (arith, c.loop.invariant.0),
      λ order spelled. reading_step c.args.self.now c.args.id c.loop.at c.loop.order.items c.push.new.self.items c.in-Some.parent c.in-Some.last.now link.0 link.1
          (c.in_ok-push.ensures.items ∙ ap (λ (r : Reply). c.loop.order.items ++ (record { at = c.in-Some.last.now.at; reply = r }) ∷ []) c.in_ok-reply.ensures)
          (c.loop.invariant.1 order spelled),
    )

pub returns : goal.returns
returns c order spelled =
    let reading = c.loop.invariant.1 order spelled in
    let at_root : c.loop.at ≡ 0 = elim (cases_lt 0 c.loop.at) [
      | inl above ↦
          let inside = reading_inside c.args.self.now c.args.id c.loop.at c.loop.order.items above reading in
          elim c.loop-test.branch [
            | else-loop-test w ↦ absurd (let done = w.loop-test.false in let all = c.len-end.ensures in omega (arith, inside.1, c.loop.invariant.0))
            | then-loop-test+in_default w ↦ absurd (let past = w.in_default.ensures.none above in omega (arith, inside.0))
          ]
      | inr root ↦ omega (arith, root)
    ] in
    reading_end c.args.self.now c.args.id c.loop.at c.loop.order.items _ order at_root c.reverse.ensures.items reading spelled
