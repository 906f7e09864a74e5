use Rattle.std.proofs.Common.{◌<◌, inl, inr, sym, ap, subst, ◌∙◌, true≢false, Contains, arith}
use Rattle.std.proofs.lemmas.Grind.{common_steps}
use Rattle.indexmap.proofs.MapLemmas.{OnOk-map}
use Rattle.std.proofs.lemmas.List.Elements.{Contains-push}
use Rattle.lin_members.specs.Asking.{IsFindingWith}
use Rattle.lin_members.specs.declared.members.Path.{Path}
use Rattle.lin_compressed_frontier.proofs.Placings.{AreAskedAhead, IsAskedEarly, finding_push, observed_all, observed_found, ok_both}
use Rattle.lin_compressed_frontier.proofs.completions.Completion.return_observer.Given.{Over}
use Rattle.lin_compressed_frontier.proofs.completions.Completion.return_observer.Goals.{then-is_early+in_ok-ask_all_ahead, else-is_early}
use Rattle.lin_compressed_frontier.proofs.completions.Completion.return_observer.Goals as goal

pub push_answered-requires-clause-takes : goal.push_answered-requires-clause-takes
push_answered-requires-clause-takes g c = rw c.in-Some.is at c.in_ok-round.ensures.some

pub returns-in-Some-clause-found : goal.returns-in-Some-clause-found
returns-in-Some-clause-found g c =
    OnOk-map c.push_answered.result _ _ (λ made.
    finding_push _ _ c.args.self.now.operation.now c.args.self.now.reply.now c.args.self.now.pending.now c.args.now c.args.member.now c.push_answered.new.nodes c.args.out.now.items c.push_answered.new.out.items made.0 made.1
    (inr (inr (inl (record { answered = made.2; until = made.3 }))))) c.push_answered.ensures.made

pub returns-in-Some-clause-asked : goal.returns-in-Some-clause-asked
returns-in-Some-clause-asked g c =
    OnOk-map c.push_answered.result _ _ (λ made. inl (made.0, subst (λ l. Contains l made.0) (sym made.1) (Contains-push c.args.out.now.items made.0), record { answered = made.2; until = made.3 })) c.push_answered.ensures.made

-- what was asked ahead before the rest
early : (g : Over) (c : goal.After-ask_all_behind g) → IsAskedEarly (g.O.SeqObject.step c.args.self.now.object.now) (g.O.SeqObject.observing c.args.self.now.object.now) c.args.self.now.operation.now c.args.self.now.reply.now c.args.self.now.pending.now
    c.args.now c.args.member.now c.if-is_early.nodes c.args.out.now.items c.if-is_early.out.items
early g c =
    let step = g.O.SeqObject.step c.args.self.now.object.now in
    let observes = g.O.SeqObject.observing c.args.self.now.object.now in
    let operation = c.args.self.now.operation.now in
    let reply = c.args.self.now.reply.now in
    let pending = c.args.self.now.pending.now in
    let member = c.args.member.now in
    elim c.if-is_early.branch [
      | then-is_early+in_ok-ask_all_ahead w ↦ inl (
        subst (λ (k : Path). operation.at < k.until) c.path.ensures (c.is_early.ensures.0 w.if-is_early.true),
        subst (λ l. IsFindingWith step observes operation reply pending l c.args.now member c.args.out.now.items c.if-is_early.out.items) (sym w.nodes-is)
            (subst (λ l. IsFindingWith step observes operation reply pending w.ask_all_ahead.new.nodes c.args.now member c.args.out.now.items l.items) (sym w.out-is) (w.in_ok-ask_all_ahead.ensures.found c.args.now)),
        subst (λ l. AreAskedAhead step observes operation reply pending c.args.now member l c.if-is_early.out.items) (sym w.nodes-is)
            (subst (λ l. AreAskedAhead step observes operation reply pending c.args.now member w.ask_all_ahead.new.nodes l.items) (sym w.out-is) (w.in_ok-ask_all_ahead.ensures.asked c.args.now)),
      )
      | else-is_early w ↦ inr (
        λ before. true≢false (sym (c.is_early.ensures.1 (subst (λ (k : Path). operation.at < k.until) (sym c.path.ensures) before)) ∙ w.if-is_early.false),
        ap (λ l. l.items) w.out-is,
      )
    ]

pub returns-clause-found : goal.returns-clause-found
returns-clause-found g c =
    OnOk-map c.ask_all_behind.result _ _ (λ finding.
    observed_found _ _ _ _ _ c.args.now c.args.member.now c.if-is_early.nodes c.ask_all_behind.new.nodes c.args.out.now.items c.if-is_early.out.items c.ask_all_behind.new.out.items c.ask_all_behind.ensures.grown (early g c) finding)
    c.ask_all_behind.ensures.found

pub returns-clause-asked : goal.returns-clause-asked
returns-clause-asked g c =
    ok_both c.ask_all_behind.result _ _ _ (λ finding behind. inr (
    observed_all _ _ _ _ _ c.args.now c.args.member.now c.if-is_early.nodes c.ask_all_behind.new.nodes c.args.out.now.items c.if-is_early.out.items c.ask_all_behind.new.out.items c.ask_all_behind.ensures.grown (early g c) finding
    (rw c.in_default.is at c.in_ok-round.ensures.none) behind)) c.ask_all_behind.ensures.found c.ask_all_behind.ensures.asked

pub returns-clause-grown : goal.returns-clause-grown
returns-clause-grown g c = grind (arith, common_steps)
