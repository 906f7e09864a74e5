use Rattle.std.proofs.Common.{◌≡◌, cond, true, sym, subst, take}
use Rattle.std.specs.Cmp.{decided}
use Rattle.std.specs.HashSet as bag
use Rattle.std.proofs.lemmas.Map.Views.{hash_set_contains_iff}
use Rattle.lin_order.specs.Refutations.{Config}
use Rattle.lin_order.specs.inner.Checking.{AreSame}
use Rattle.lin_order.specs.Sameness.{config_eq, config_Decides}
use Rattle.lin_order.specs.lemmas.Lists.{take_more}
use Rattle.lin_order.specs.lemmas.Each.{at_end}
use Rattle.lin_order.proofs.Carrying.{members_more}
use Rattle.lin_order.proofs.refutations.members_of.Goals as goal

pub loop-config-preserved : goal.loop-config-preserved
loop-config-preserved c =
    let x = c.config-item.result in
    let old = c.loop-config.members in
    let new = c.insert.new.self in
    let laws = decided config_eq config_Decides in
    let puts = subst (λ (k : Config). (q : Config) → bag.contains config_eq new q ≡ cond (config_eq k q) true (bag.contains config_eq old q)) c.in_ok-copy.ensures c.in_ok-insert.ensures.updates.0 in
    subst (AreSame new.keys) (sym (take_more c.args.set.now c.loop-config.config-index x c.loop-config-test.true c.config-item.is))
    (members_more (take c.loop-config.config-index c.args.set.now) old.keys new.keys x (bag.contains config_eq old) (bag.contains config_eq new)
    (hash_set_contains_iff laws (λ p q. (config_Decides p q).0) old) (hash_set_contains_iff laws (λ p q. (config_Decides p q).0) new) puts c.loop-config.invariant)

pub returns : goal.returns
returns c = at_end c.args.set.now c.loop-config.config-index (AreSame c.loop-config.members.keys) c.loop-config-test.false c.loop-config.invariant
