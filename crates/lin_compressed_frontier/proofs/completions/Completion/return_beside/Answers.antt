use Rattle.std.proofs.Common.{refl, ◌∙◌}
use Rattle.indexmap.proofs.MapLemmas.{OnOk-map}
use Rattle.lin_members.specs.Members.{Member}
use Rattle.lin_members.specs.declared.members.Path.{Path}
use Rattle.lin_compressed_frontier.proofs.Placings.{early_tried, is_returned_ahead}
use Rattle.lin_compressed_frontier.proofs.completions.Completion.return_beside.Goals as goal

pub returns-clause-made : goal.returns-clause-made
returns-clause-made g c =
    let made = c.in_ok-config.config in
    let n : Member g.row.O-State.Denot × Path = (record { state = made.0; placed = made.1; offers = c.in_ok-offers.offers }, c.in_ok-path.path) in
    OnOk-map c.push_member.result _ _ (λ pushed. (
      n,
      pushed,
      λ update steps now.
          is_returned_ahead _ _ c.args.self.now.operation.now c.args.self.now.reply.now c.args.self.now.pending.now now c.args.returned.now.member.now c.path_ahead.new.nodes c.args.returned.now.config c.in_ok-offers.offers c.path.result c.in_ok-path.path c.path.ensures
          (record { at = c.args.self.now.operation.now.at; reply = c.args.self.now.reply.now }) c.args.before.now made c.requires.placed c.requires.before
          c.in_ok-offers.ensures.offered refl c.in_ok-path.ensures.ahead (c.in_ok-config.ensures ∙ (λ i. (c.args.returned.now.member.now.0.state, (c.config.ensures i).1))) update c.requires.early steps,
    )) c.push_member.ensures

pub returns-in_err-offers-clause-tried : goal.returns-in_err-offers-clause-tried
returns-in_err-offers-clause-tried g c = early_tried c.args.before.now c.args.returned.now.member.now.1.until c.args.self.now.pending.now _ _ c.requires.before c.offers_with.ensures.tried

pub returns-in_err-config-clause-tried : goal.returns-in_err-config-clause-tried
returns-in_err-config-clause-tried g c = early_tried c.args.before.now c.args.returned.now.member.now.1.until c.args.self.now.pending.now _ _ c.requires.before c.offers_with.ensures.tried

pub returns-clause-tried : goal.returns-clause-tried
returns-clause-tried g c = early_tried c.args.before.now c.args.returned.now.member.now.1.until c.args.self.now.pending.now _ _ c.requires.before c.offers_with.ensures.tried
