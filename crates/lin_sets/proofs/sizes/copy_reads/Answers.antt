use Rattle.std.proofs.Common.{◌≡◌, ◌++◌, ◌∷◌, [], ℕ, List, get_or, take, sym, ap, ◌∙◌}
use Rattle.std.proofs.lemmas.List.{take_all}
use Rattle.lin_events.specs.declared.items.Item.{Item}
use Rattle.lin_order.specs.lemmas.Lists.{take_more}
use Rattle.lin_sets.proofs.sizes.copy_reads.Goals as goal

pub loop-read-preserved : goal.loop-read-preserved
loop-read-preserved c =
    let reads : List (ℕ × List Item) = c.args.reads.now in
    let i = c.loop-read.read-index in
    let r : ℕ × List Item = c.read-item.result in
    let is : r ≡ get_or reads i r = c.read-item.is in
    let same : c.in_ok-members.members ≡ r.1 = c.in_ok-members.ensures in
    c.in_ok-push.ensures.items ∙ ap (λ l. l ++ (r.0, c.in_ok-members.members) ∷ []) c.loop-read.invariant ∙ ap (λ s. take i reads ++ (r.0, s) ∷ []) same
    ∙ sym (take_more reads i r c.loop-read-test.true is)

pub returns : goal.returns
returns c = c.loop-read.invariant ∙ take_all c.loop-read.read-index c.args.reads.now c.loop-read-test.false
