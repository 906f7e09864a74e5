use Rattle.std.proofs.Common.{rules, ap, ◌∙◌, ◌++◌, ◌∷◌, []}
use Rattle.std.proofs.lemmas.Fn.{filter_same}
use Rattle.lin_queues.specs.Members.{view_of}
use Rattle.lin_queues.proofs.members.QueueMember.lose.Goals as goal

pub returns : goal.returns
returns c =
    ap (λ l. record (view_of c.args.self.now) { gone = l; early = c.retain.new.self.items }) c.in_ok-push.ensures.items
    ∙ ap (λ l. record (view_of c.args.self.now) { gone = c.args.self.now.gone.items ++ c.args.at ∷ []; early = l }) (filter_same _ _ _ (λ x b f' k. search rules) _ _ c.retain.ensures.filtered)
