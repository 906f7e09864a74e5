use Rattle.std.proofs.Common.{◌+◌, length, Contains, subst, sym, ◌∙◌, arith, inl, inr}
use Rattle.std.proofs.lemmas.List.Elements.{Contains-push}
use Rattle.lin_compressed_frontier.proofs.Placings.{behind_end, behind_push, behind_skip, behind_start, counting_end, counting_start, counting_turn}
use Rattle.lin_configurations.specs.lemmas.Visiting.{grown_grown}
use Rattle.lin_compressed_frontier.proofs.completions.Completion.ask_all_behind.Goals as goal

pub loop-config-init : goal.loop-config-init
loop-config-init g c = record {
  asking = behind_start _ _ c.args.self.now.operation.now c.args.self.now.reply.now c.args.self.now.pending.now c.args.now c.args.member.now c.updates.new.out.items c.args.nodes.now c.args.out.now.items;
  counting = counting_start (length c.args.self.now.pending.now) (length c.updates.new.out.items) _ _ (c.in_ok-updates.ensures.few c.requires.overwriting) c.updates.ensures.tried;
}

pub ask_one_behind-requires-clause-places : goal.ask_one_behind-requires-clause-places
ask_one_behind-requires-clause-places g c =
    let updates = rw c.config.ensures at c.in_ok-updates.ensures.placed in
    updates.sound c.in-Some.config c.in-Some.placed (c.loop-config.invariant.asking.from_rest (c.in-Some.config, c.in-Some.placed) (subst (λ l. Contains l (c.in-Some.config, c.in-Some.placed)) (sym c.in-Some.ensures.items) (Contains-push c.pop.new.self.items (c.in-Some.config, c.in-Some.placed))))

pub loop-config-preserved : goal.loop-config-preserved
loop-config-preserved g c = record {
  asking = elim c.in_ok-ask_one_behind.ensures.asked [
    | inl made ↦
        behind_push _ _ c.args.self.now.operation.now c.args.self.now.reply.now c.args.self.now.pending.now c.args.now c.args.member.now c.updates.new.out.items c.args.nodes.now c.args.out.now.items c.loop-config.next.items c.pop.new.self.items c.loop-config.nodes c.loop-config.out.items (c.in-Some.config, c.in-Some.placed) c.in-Some.ensures.items
        c.ask_one_behind.new.nodes c.ask_one_behind.new.out.items made.0 c.ask_one_behind.ensures.grown made.1 (made.2, made.3, made.4) c.loop-config.invariant.asking
    | inr none ↦ rw (none.2, none.1) (behind_skip _ _ c.args.self.now.operation.now c.args.self.now.reply.now c.args.self.now.pending.now c.args.now c.args.member.now c.updates.new.out.items c.args.nodes.now c.args.out.now.items c.loop-config.next.items c.pop.new.self.items c.loop-config.nodes c.loop-config.out.items (c.in-Some.config, c.in-Some.placed) c.in-Some.ensures.items none.0 c.loop-config.invariant.asking)
  ];
  counting = counting_turn (length c.args.self.now.pending.now) c.loop-config.next.items c.pop.new.self.items (c.in-Some.config, c.in-Some.placed) ((length c.args.self.now.pending.now) + 1) _ _ _ c.in-Some.ensures.items (omega arith) c.loop-config.invariant.counting c.ask_one_behind.ensures.tried;
}

pub returns-in_err-ask_one_behind-clause-grown : goal.returns-in_err-ask_one_behind-clause-grown
returns-in_err-ask_one_behind-clause-grown g c = grown_grown c.args.nodes.now c.loop-config.nodes c.ask_one_behind.new.nodes c.loop-config.invariant.asking.nodes_grown c.ask_one_behind.ensures.grown

pub returns-in_err-ask_one_behind-clause-tried : goal.returns-in_err-ask_one_behind-clause-tried
returns-in_err-ask_one_behind-clause-tried g c =
    counting_end (length c.args.self.now.pending.now) (length c.pop.new.self.items) _ _ (counting_turn (length c.args.self.now.pending.now) c.loop-config.next.items c.pop.new.self.items (c.in-Some.config, c.in-Some.placed) ((length c.args.self.now.pending.now) + 1) _ _ _ c.in-Some.ensures.items (omega arith) c.loop-config.invariant.counting c.ask_one_behind.ensures.tried)

pub returns-clause-grown : goal.returns-clause-grown
returns-clause-grown g c = c.loop-config.invariant.asking.nodes_grown

pub returns-clause-found : goal.returns-clause-found
returns-clause-found g c = c.loop-config.invariant.asking.finding

pub returns-clause-asked : goal.returns-clause-asked
returns-clause-asked g c o p d among places gives =
    behind_end _ _ c.args.self.now.operation.now c.args.self.now.reply.now c.args.self.now.pending.now c.args.now c.args.member.now c.updates.new.out.items c.args.nodes.now c.args.out.now.items c.loop-config.nodes c.loop-config.next.items c.loop-config.out.items (sym c.loop-config.next.ok.0 ∙ c.in_default.ensures.cases.0) o p d
    (rw c.config.ensures at c.in_ok-updates.ensures.placed) c.loop-config.invariant.asking among places gives

pub returns-clause-tried : goal.returns-clause-tried
returns-clause-tried g c = counting_end (length c.args.self.now.pending.now) (length c.loop-config.next.items) _ _ c.loop-config.invariant.counting
