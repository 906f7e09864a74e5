use Rattle.std.proofs.Common.{Contains, subst, sym, inl, inr, true≢false, ◌∙◌}
use Rattle.std.proofs.lemmas.List.Elements.{Contains-push}
use Rattle.lin_compressed_frontier.proofs.Completing.{finding_none, finding_push}
use Rattle.lin_compressed_frontier.proofs.completions.Completion.observe.Goals as goal

pub push_answered-requires-clause-takes : goal.push_answered-requires-clause-takes
push_answered-requires-clause-takes g c = rw c.in-Some.is at c.in_ok-round.ensures.some

pub returns-in-Some-clause-found : goal.returns-in-Some-clause-found
returns-in-Some-clause-found g c =
    let made = c.in_ok-push_answered.ensures.made in
    finding_push _ _ c.args.self.now.pending.now c.args.self.now.operation.now c.args.self.now.reply.now c.push_answered.new.nodes c.args.member.now c.args.out.now.items c.push_answered.new.out.items made.0 made.1 (inl made.2)

pub returns-in-Some-clause-done : goal.returns-in-Some-clause-done
returns-in-Some-clause-done g c =
    let made = c.in_ok-push_answered.ensures.made in
    (c.requires, made.0, subst (λ l. Contains l made.0) (sym made.1) (Contains-push c.args.out.now.items made.0), made.2.same)

pub returns-clause-found : goal.returns-clause-found
returns-clause-found g c = finding_none _ _ c.args.self.now.pending.now c.args.self.now.operation.now c.args.self.now.reply.now c.args.nodes.now c.args.member.now c.args.out.now.items

pub returns-clause-passed : goal.returns-clause-passed
returns-clause-passed g c = record {
  never = λ observer. rw c.in_default.is at c.in_ok-round.ensures.none;
  returns = λ update. absurd (true≢false (sym c.requires ∙ update));
}
