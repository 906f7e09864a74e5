use Rattle.std.proofs.Common.{◌<◌, inl, inr, sym, ap, subst, ◌∙◌, true≢false, arith}
use Rattle.std.proofs.lemmas.Grind.{common_steps}
use Rattle.indexmap.proofs.MapLemmas.{OnOk-map}
use Rattle.lin_members.specs.Asking.{IsReturnedAhead}
use Rattle.lin_members.specs.declared.members.Path.{Path}
use Rattle.lin_compressed_frontier.proofs.Placings.{IsPutAhead, returned_all, returned_found}
use Rattle.lin_compressed_frontier.proofs.completions.Completion.return_update.Given.{Over}
use Rattle.lin_compressed_frontier.proofs.completions.Completion.return_update.Goals.{then-is_early+in_ok-return_ahead, else-is_early}
use Rattle.lin_compressed_frontier.proofs.completions.Completion.return_update.Goals as goal

pub returns-in_default-clause-returned : goal.returns-in_default-clause-returned
returns-in_default-clause-returned g c next steps =
    let complete = rw c.state.ensures at c.in_ok-outcomes.ensures.complete in
    absurd (c.in_default.ensures.none next (complete next c.args.self.now.reply.now steps))

-- the step that was taken
taken : (g : Over) (c : goal.After-return_behind g) → g.O.SeqObject.step c.args.self.now.object.now c.args.member.now.0.state c.args.self.now.operation.now.call c.in_ok-config.config.0 c.args.self.now.reply.now
taken g c =
    let sound = rw c.state.ensures at c.in_ok-outcomes.ensures.sound in
    subst (λ s. g.O.SeqObject.step c.args.self.now.object.now c.args.member.now.0.state c.args.self.now.operation.now.call s c.args.self.now.reply.now) (λ i. (sym c.in_ok-config.ensures i).0) (sound c.in-Some.state c.args.self.now.reply.now c.in-Some.ensures.some)

-- what was put ahead before the last member
put : (g : Over) (c : goal.After-return_behind g) → IsPutAhead (g.O.SeqObject.step c.args.self.now.object.now) (g.O.SeqObject.observing c.args.self.now.object.now) c.args.self.now.operation.now c.args.self.now.reply.now c.args.self.now.pending.now
    c.args.now c.args.member.now c.if-is_early.nodes c.args.out.now.items c.if-is_early.out.items c.in_ok-config.config.0
put g c = elim c.if-is_early.branch [
  | then-is_early+in_ok-return_ahead w ↦
      let made = w.in_ok-return_ahead.ensures.made in
      inl (
        subst (λ (k : Path). c.args.self.now.operation.now.at < k.until) c.path.ensures (c.is_early.ensures.0 w.if-is_early.true),
        made.0,
        ap (λ l. l.items) w.out-is ∙ made.1,
        subst (λ l. IsReturnedAhead (g.O.SeqObject.step c.args.self.now.object.now) (g.O.SeqObject.observing c.args.self.now.object.now) c.args.self.now.operation.now c.args.self.now.reply.now c.args.self.now.pending.now l c.args.now c.args.member.now
            c.in_ok-config.config.0 made.0) (sym w.nodes-is) (made.2 c.requires.update (taken g c) c.args.now),
      )
  | else-is_early w ↦ inr (
    λ early. true≢false (sym (c.is_early.ensures.1 (subst (λ (k : Path). c.args.self.now.operation.now.at < k.until) (sym c.path.ensures) early)) ∙ w.if-is_early.false),
    ap (λ l. l.items) w.out-is,
  )
]

pub returns-clause-found : goal.returns-clause-found
returns-clause-found g c =
    OnOk-map c.return_behind.result _ _ (λ made.
    returned_found _ _ _ _ _ c.args.now c.args.member.now c.if-is_early.nodes c.return_behind.new.nodes c.args.out.now.items c.if-is_early.out.items c.return_behind.new.out.items c.in_ok-config.config.0 made.0 c.return_behind.ensures.grown
    (put g c) made.1 (made.3 c.requires.update (taken g c))) c.return_behind.ensures.made

pub returns-clause-returned : goal.returns-clause-returned
returns-clause-returned g c =
    OnOk-map c.return_behind.result _ _ (λ made other steps.
    returned_all _ _ _ _ _ c.args.now c.args.member.now c.if-is_early.nodes c.return_behind.new.nodes c.args.out.now.items c.if-is_early.out.items c.return_behind.new.out.items c.in_ok-config.config.0 made.0 c.return_behind.ensures.grown
    (put g c) made.1 (made.3 c.requires.update (taken g c)) (g.O.SeqObject.overwritten c.args.self.now.object.now c.requires.overwriting) made.2 other steps) c.return_behind.ensures.made

pub returns-clause-grown : goal.returns-clause-grown
returns-clause-grown g c = grind (arith, common_steps)
