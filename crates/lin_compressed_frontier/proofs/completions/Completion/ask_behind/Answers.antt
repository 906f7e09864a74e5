use Rattle.std.proofs.Common.{refl}
use Rattle.indexmap.proofs.MapLemmas.{OnOk-map}
use Rattle.lin_members.specs.Members.{Member}
use Rattle.lin_members.specs.declared.members.Path.{Path}
use Rattle.lin_compressed_frontier.proofs.Placings.{is_asked_behind}
use Rattle.lin_configurations.specs.lemmas.Visiting.{grown_grown}
use Rattle.lin_compressed_frontier.proofs.completions.Completion.ask_behind.Goals as goal

pub returns-clause-made : goal.returns-clause-made
returns-clause-made g c =
    let n : Member g.row.O-State.Denot × Path = (record { state = c.args.update.config.0; placed = c.args.update.config.1; offers = c.in_ok-offers.offers }, c.in_ok-path-2.path) in
    OnOk-map c.push_member.result _ _ (λ pushed. (
      n,
      pushed,
      is_asked_behind _ _ c.args.self.now.operation.now c.args.self.now.reply.now c.args.self.now.pending.now c.args.now c.args.update.member.now c.put_behind.new.nodes c.args.update.config c.in_ok-offers.offers c.path.result c.in_ok-path.path c.path.ensures
          c.path_in.new.nodes c.path_in.ensures.grown c.args.update.placed (record { at = c.args.self.now.operation.now.at; reply = c.args.self.now.reply.now }) c.in_ok-path-2.path refl c.in_ok-path-2.ensures.round c.in_ok-path-2.ensures.until c.requires.observer c.requires.gives
          c.requires.places c.in_ok-offers.ensures.offered c.in_ok-path.ensures.begins c.in_ok-path.ensures.until c.in_ok-path-2.ensures.node,
      refl,
      refl,
    )) c.push_member.ensures

pub returns-in_err-path-2-clause-grown : goal.returns-in_err-path-2-clause-grown
returns-in_err-path-2-clause-grown g c = grown_grown c.args.nodes.now c.put_behind.new.nodes c.path_in.new.nodes c.put_behind.ensures.grown c.path_in.ensures.grown

pub returns-in_err-offers-clause-grown : goal.returns-in_err-offers-clause-grown
returns-in_err-offers-clause-grown g c = grown_grown c.args.nodes.now c.put_behind.new.nodes c.path_in.new.nodes c.put_behind.ensures.grown c.path_in.ensures.grown

pub returns-clause-grown : goal.returns-clause-grown
returns-clause-grown g c = grown_grown c.args.nodes.now c.put_behind.new.nodes c.path_in.new.nodes c.put_behind.ensures.grown c.path_in.ensures.grown
