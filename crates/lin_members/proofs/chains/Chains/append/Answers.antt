use Rattle.std.proofs.Common.{◌≡◌, ◌++◌, ◌∷◌, [], List, ◌∙◌, ap, append_assoc, arith, inl, inr, length-append, refl, sym}
use Rattle.std.proofs.lemmas.Bool.{cases_lt}
use Rattle.std.proofs.lemmas.List.{append-nil}
use Rattle.lin_events.specs.declared.calls.Reply.{Reply}
use Rattle.lin_order.specs.declared.placed.Placed.{Placed}
use Rattle.lin_frontier.specs.lemmas.Spelling.{reading_start, reading_inside, reading_step, reversed}
use Rattle.lin_members.proofs.chains.Chains.append.Goals as goal

pub loop-init : goal.loop-init
loop-init c = ([], sym (append-nil c.args.order.now.items), refl, λ round spelled. reading_start _ _ _ round refl spelled)

pub loop-preserved : goal.loop-preserved
loop-preserved c =
    let was = c.loop.invariant in
    let read = was.0 in
    let more = length-append read (c.in-Some.last.now ∷ []) in
    let link = c.in-Some.ensures.some in (
      read ++ c.in-Some.last.now ∷ [],
      c.in_ok-push.ensures.items ∙ ap (λ (r : Reply). c.loop.order.items ++ (record { at = c.in-Some.last.now.at; reply = r }) ∷ []) c.in_ok-reply.ensures
          ∙ ap (λ (l : List Placed). l ++ c.in-Some.last.now ∷ []) was.1 ∙ append_assoc c.args.order.now.items read (c.in-Some.last.now ∷ []),
      omega (arith, was.2),
      λ round spelled. reading_step c.args.self.now.links.items c.args.from c.loop.at read (read ++ c.in-Some.last.now ∷ []) c.in-Some.before c.in-Some.last.now link.0 link.1 refl (was.3 round spelled),
    )

pub returns-in_default : goal.returns-in_default
returns-in_default c round spelled =
    let was = c.loop.invariant in
    let reading = was.3 round spelled in
    let at_root : c.loop.at ≡ 0 = elim (cases_lt 0 c.loop.at) [
      | inl above ↦
          let inside = reading_inside c.args.self.now.links.items c.args.from c.loop.at was.0 above reading in
          let past = c.in_default.ensures.none above in
          absurd (omega (arith, inside.0))
      | inr root ↦ omega (arith, root)
    ] in
    was.1 ∙ ap (λ (l : List Placed). c.args.order.now.items ++ l) (reversed c.args.self.now.links.items c.args.from c.loop.at was.0 round at_root reading spelled)

pub returns-after-loop : goal.returns-after-loop
returns-after-loop c round spelled =
    let was = c.loop.invariant in
    let reading = was.3 round spelled in
    let at_root : c.loop.at ≡ 0 = elim (cases_lt 0 c.loop.at) [
      | inl above ↦
          let inside = reading_inside c.args.self.now.links.items c.args.from c.loop.at was.0 above reading in
          let done = c.loop-test.false in
          let all = c.len-end.ensures in
          absurd (omega (arith, inside.1, was.2, c.args.self.now.links.ok.0))
      | inr root ↦ omega (arith, root)
    ] in
    was.1 ∙ ap (λ (l : List Placed). c.args.order.now.items ++ l) (reversed c.args.self.now.links.items c.args.from c.loop.at was.0 round at_root reading spelled)
