use Rattle.std.proofs.Common.{Contains, map, sym, ap, subst, ◌∙◌, true≢false}
use Rattle.std.proofs.lemmas.Map.Views.{Contains-keys_from_lookup, IsSome-lookup_from_Contains}
use Rattle.lin_members.specs.Listed.{config_of}
use Rattle.lin_frontier.specs.Sameness.{config_same}
use Rattle.lin_frontier.specs.lemmas.Completed.{configs_equivalent}
use Rattle.lin_configurations.proofs.gathered.Gathered.is_known.Goals as goal

pub returns-clause-known : goal.returns-clause-known
returns-clause-known g c t =
    subst (λ l. Contains l c.args.config.now) (c.self.invariant ∙ ap (map config_of) c.self.view_is)
    (Contains-keys_from_lookup (config_same g.met.O.SeqObject.same) c.args.config.now c.self.inside.configs.entries (sym c.contains_key.ensures ∙ t))

pub returns-clause-new : goal.returns-clause-new
returns-clause-new g c f there =
    let inside = subst (λ l. Contains l c.args.config.now) (sym (c.self.invariant ∙ ap (map config_of) c.self.view_is)) there in
    true≢false (sym (c.contains_key.ensures ∙ IsSome-lookup_from_Contains (configs_equivalent g.met.O.State.Eq.laws) c.args.config.now c.self.inside.configs.entries inside) ∙ f)
