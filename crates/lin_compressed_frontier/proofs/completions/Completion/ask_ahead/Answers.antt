use Rattle.std.proofs.Common.{refl, ap}
use Rattle.indexmap.proofs.MapLemmas.{OnOk-map}
use Rattle.lin_members.specs.Members.{Member}
use Rattle.lin_members.specs.declared.members.Path.{Path}
use Rattle.lin_compressed_frontier.proofs.Placings.{early_tried, is_asked_ahead}
use Rattle.lin_configurations.specs.lemmas.Visiting.{grown_grown}
use Rattle.lin_compressed_frontier.proofs.completions.Completion.ask_ahead.Goals as goal

pub returns-clause-made : goal.returns-clause-made
returns-clause-made g c =
    let made = c.in_ok-config.config in
    let n : Member g.row.O-State.Denot × Path = (record { state = made.0; placed = made.1; offers = c.in_ok-offers.offers }, c.in_ok-path-2.path) in
    OnOk-map c.push_member.result _ _ (λ pushed. (
      n,
      pushed,
      λ now.
          is_asked_ahead _ _ c.args.self.now.operation.now c.args.self.now.reply.now c.args.self.now.pending.now now c.args.update.member.now c.put_ahead.new.nodes c.args.update.config c.in_ok-offers.offers c.path-from.result c.in_ok-path.path c.path-from.ensures
          c.path_in.new.nodes c.path_in.ensures.grown c.args.update.placed (record { at = c.args.self.now.operation.now.at; reply = c.args.self.now.reply.now }) c.in_ok-path-2.path refl c.in_ok-path-2.ensures.round c.in_ok-path-2.ensures.until c.requires.observer c.requires.gives
          c.args.before.now made c.path-from.result.round c.requires.before c.requires.places c.in_ok-offers.ensures.offered c.in_ok-path.ensures.ahead c.in_ok-config.ensures c.requires.early (ap (λ (k : Path). k.round) c.path-from.ensures) c.in_ok-path-2.ensures.node,
      λ i. (c.in_ok-config.ensures i).1,
    )) c.push_member.ensures

pub returns-in_err-path-2-clause-grown : goal.returns-in_err-path-2-clause-grown
returns-in_err-path-2-clause-grown g c = grown_grown c.args.nodes.now c.put_ahead.new.nodes c.path_in.new.nodes c.put_ahead.ensures.grown c.path_in.ensures.grown

pub returns-in_err-offers-clause-grown : goal.returns-in_err-offers-clause-grown
returns-in_err-offers-clause-grown g c = grown_grown c.args.nodes.now c.put_ahead.new.nodes c.path_in.new.nodes c.put_ahead.ensures.grown c.path_in.ensures.grown

pub returns-in_err-config-clause-grown : goal.returns-in_err-config-clause-grown
returns-in_err-config-clause-grown g c = grown_grown c.args.nodes.now c.put_ahead.new.nodes c.path_in.new.nodes c.put_ahead.ensures.grown c.path_in.ensures.grown

pub returns-clause-grown : goal.returns-clause-grown
returns-clause-grown g c = grown_grown c.args.nodes.now c.put_ahead.new.nodes c.path_in.new.nodes c.put_ahead.ensures.grown c.path_in.ensures.grown

pub returns-in_err-offers-clause-tried : goal.returns-in_err-offers-clause-tried
returns-in_err-offers-clause-tried g c = early_tried c.args.before.now c.args.update.member.now.1.until c.args.self.now.pending.now _ _ c.requires.before c.offers_with.ensures.tried

pub returns-in_err-config-clause-tried : goal.returns-in_err-config-clause-tried
returns-in_err-config-clause-tried g c = early_tried c.args.before.now c.args.update.member.now.1.until c.args.self.now.pending.now _ _ c.requires.before c.offers_with.ensures.tried

pub returns-clause-tried : goal.returns-clause-tried
returns-clause-tried g c = early_tried c.args.before.now c.args.update.member.now.1.until c.args.self.now.pending.now _ _ c.requires.before c.offers_with.ensures.tried
