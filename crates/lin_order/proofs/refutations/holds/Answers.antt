use Rattle.std.proofs.Common.{◌↔◌, IsTrue, Contains, sym, subst}
use Rattle.std.specs.Cmp.{decided}
use Rattle.std.proofs.lemmas.Map.Views.{hash_set_contains_iff}
use Rattle.lin_order.specs.Sameness.{config_eq, config_Decides}
use Rattle.lin_order.proofs.refutations.holds.Goals as goal

pub returns : goal.returns
returns c =
    subst (λ b. IsTrue b ↔ Contains c.args.members.now.keys c.args.config.now) (sym c.contains.ensures)
    (hash_set_contains_iff (decided config_eq config_Decides) (λ p q. (config_Decides p q).0) c.args.members.now c.args.config.now)
