use Rattle.std.proofs.Common.{subst}
use Rattle.indexmap.proofs.MapLemmas.{OnOk-map}
use Rattle.lin_configurations.specs.Putting.{IsPutNext}
use Rattle.lin_members.specs.declared.members.Path.{Path}
use Rattle.lin_order.specs.declared.placed.Placed.{Placed}
use Rattle.lin_compressed_frontier.proofs.completions.Completion.push_update.Goals as goal

pub returns-clause-put : goal.returns-clause-put
returns-clause-put g c =
    let here = c.push_next.new.nodes in
    let put = λ (q : Placed) (k : Path). IsPutNext c.args.config q c.args.offers.now k here c.args.out.now.items c.push_next.new.members.items in
    OnOk-map c.push_next.result _ _ (λ made. subst (λ (q : Placed). put q c.args.member.now.1) c.in_ok-placed.ensures (subst (λ (k : Path). put c.in_ok-placed.placed k) c.path.ensures made)) c.push_next.ensures.put
