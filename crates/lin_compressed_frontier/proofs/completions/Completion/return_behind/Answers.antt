use Rattle.std.proofs.Common.{refl}
use Rattle.indexmap.proofs.MapLemmas.{OnOk-map}
use Rattle.lin_members.specs.Members.{Member}
use Rattle.lin_members.specs.declared.members.Path.{Path}
use Rattle.lin_compressed_frontier.proofs.Placings.{is_returned_behind}
use Rattle.lin_compressed_frontier.proofs.completions.Completion.return_behind.Goals as goal

pub returns-clause-made : goal.returns-clause-made
returns-clause-made g c =
    let n : Member g.row.O-State.Denot × Path = (record { state = c.args.returned.config.0; placed = c.args.returned.config.1; offers = c.in_ok-offers.offers }, c.in_ok-path.path) in
    OnOk-map c.push_member.result _ _ (λ pushed. (
      n,
      pushed,
      refl,
      λ update steps.
          is_returned_behind _ _ c.args.self.now.operation.now c.args.self.now.reply.now c.args.self.now.pending.now c.args.now c.args.returned.member.now c.path_behind.new.nodes c.args.returned.config c.in_ok-offers.offers c.path.result c.in_ok-path.path c.path.ensures
          (record { at = c.args.self.now.operation.now.at; reply = c.args.self.now.reply.now }) c.requires c.in_ok-offers.ensures.offered refl c.in_ok-path.ensures.begins c.in_ok-path.ensures.until update steps,
    )) c.push_member.ensures
