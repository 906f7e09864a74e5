use Rattle.std.proofs.Common.{◌≡◌, ◌++◌, ◌∷◌, [], Some, ap, subst, ◌∙◌}
use Rattle.indexmap.proofs.MapLemmas.{OnOk-map}
use Rattle.lin_members.specs.Members.{Member}
use Rattle.lin_members.specs.declared.members.Path.{Path}
use Rattle.lin_members.specs.Searching.{IsNodeOf}
use Rattle.lin_compressed_frontier.proofs.completions.Completion.push_answered.Goals as goal

pub returns-clause-made : goal.returns-clause-made
returns-clause-made g c =
    let n : Member g.row.O-State.Denot × Path = (record { state = c.same.inside.config.0; placed = c.same.inside.config.1; offers = c.same.inside.offers }, c.in_ok-path.path) in
    OnOk-map c.push_member.result (c.push_member.new.members.items ≡ c.args.out.now.items ++ n ∷ []) _ (λ pushed. (
      n,
      pushed,
      record {
        observer = c.requires.observer;
        round = c.args.round;
        takes = c.requires.takes;
        same = λ i. ((c.same.view_is ∙ c.in_ok-same.ensures) i).0;
        last = c.in_ok-path.ensures.round ∙ ap (λ (k : Path). k.round) c.path.ensures;
        node = subst (λ (k : Path). IsNodeOf c.path_in.new.nodes c.in_ok-path.path.node k.node ((record { at = c.args.self.now.operation.now.at; reply = c.args.self.now.reply.now }), Some c.args.round)) c.path.ensures c.in_ok-path.ensures.node;
      },
      c.in_ok-path.ensures.until ∙ ap (λ (k : Path). k.until) c.path.ensures,
    )) c.push_member.ensures
