use Rattle.std.proofs.Common.{◌≡◌, All, sym, subst, ◌∙◌, Contains, refl}
use Rattle.std.proofs.lemmas.List.Elements.{All-contains}
use Rattle.lin_order.specs.Refutations.{Config}
use Rattle.lin_order.specs.Sameness.{config_Decides}
use Rattle.lin_order.specs.lemmas.Lists.{yes_since, no_since}
use Rattle.lin_order.specs.lemmas.Each.{all_more, at_end, contains_here}
use Rattle.lin_order.proofs.refutations.has.Goals as goal

pub returns-then-eq : goal.returns-then-eq
returns-then-eq c =
    let here = contains_here c.args.set.now c.loop-config.config-index c.config-item.result c.loop-config-test.true c.config-item.is in
    let same = (config_Decides c.config-item.result c.args.wanted.now).0 (sym c.eq.ensures ∙ c.if-eq.true) in
    yes_since (subst (Contains c.args.set.now) same here)

pub loop-config-preserved : goal.loop-config-preserved
loop-config-preserved c =
    all_more c.args.set.now c.loop-config.config-index c.config-item.result c.loop-config-test.true c.config-item.is
    (λ (d : Config). d ≡ c.args.wanted.now → ⊥) c.loop-config.invariant (λ same. let yes' = c.eq.ensures ∙ (config_Decides c.config-item.result c.args.wanted.now).1 same in let no' = c.if-eq.false in cc)

pub returns : goal.returns
returns c =
    let none = at_end c.args.set.now c.loop-config.config-index (All (λ (d : Config). d ≡ c.args.wanted.now → ⊥)) c.loop-config-test.false c.loop-config.invariant in
    no_since (λ there. All-contains (λ (d : Config). d ≡ c.args.wanted.now → ⊥) c.args.set.now c.args.wanted.now none there refl)
