use Rattle.std.proofs.Common.{◌≡◌, ℕ, Some, ◌∷◌, ◌++◌, [], option_map, slice_get, take, sym, ap, ◌∙◌, add-one}
use Rattle.std.specs.Map.{keys_of}
use Rattle.std.proofs.lemmas.Option.{slice_get-map}
use Rattle.lin_lists.specs.lemmas.Lists.{take_next}
use Rattle.lin_order.specs.Refutations.{Config}
use Rattle.lin_chain.proofs.refuting.set_of.Goals as goal

pub loop-i-preserved : goal.loop-i-preserved
loop-i-preserved c =
    let entries = c.args.frontier.now in
    let at : slice_get (keys_of entries) c.loop-i.i ≡ Some c.in-Some.config.now = slice_get-map (λ (e : Config × ℕ). e.0) entries c.loop-i.i ∙ ap (option_map (λ (e : Config × ℕ). e.0)) c.in-Some.ensures.found in
    c.in_ok-push.ensures.items ∙ (λ i. c.loop-i.invariant i ++ c.in_ok-config_of.ensures i ∷ []) ∙ sym (ap (λ k. take k (keys_of entries)) (add-one c.loop-i.i) ∙ take_next c.loop-i.i (keys_of entries) c.in-Some.config.now at)
