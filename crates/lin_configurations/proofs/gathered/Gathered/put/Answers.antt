use Rattle.std.proofs.Common.{◌≡◌, [], ◌∷◌, ◌++◌, map, Contains, sym, ap, subst, ◌∙◌}
use Rattle.std.specs.Map.{keys_of}
use Rattle.std.proofs.lemmas.List.{map-append}
use Rattle.indexmap.proofs.CallerLemmas.{insert_entry-new}
use Rattle.lin_members.specs.Listed.{config_of}
use Rattle.lin_frontier.specs.Sameness.{config_same}
use Rattle.lin_configurations.proofs.Knowing.{unknown}
use Rattle.lin_configurations.proofs.gathered.Gathered.put.Goals as goal

pub invariant_of-self-in-Ok-insert : goal.invariant_of-self-in-Ok-insert
invariant_of-self-in-Ok-insert g c =
    let old = c.self.inside.configs in
    let k = c.args.config in
    let same : k ≡ config_of c.args.member = c.requires.of in
    let never : Contains (keys_of old.entries) k → ⊥ = λ there. c.requires.new (subst (λ l. Contains l (config_of c.args.member)) (c.self.invariant ∙ ap (map config_of) c.self.view_is) (subst (Contains (keys_of old.entries)) same there)) in
    let entries = c.in-Ok-insert.ensures.entries ∙ insert_entry-new _ old k _ (unknown (config_same g.met.O.SeqObject.same) k old.entries never) in
    ap keys_of entries ∙ map-append (λ e. e.0) old.entries _ ∙ (λ i. c.self.invariant i ++ same i ∷ []) ∙ sym (map-append config_of c.self.inside.members.items (c.args.member ∷ [])) ∙ ap (map config_of) (sym c.in-Ok.ensures.items)
