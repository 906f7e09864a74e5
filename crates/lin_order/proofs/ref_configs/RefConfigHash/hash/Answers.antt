use Rattle.std.proofs.Common.{◌≡◌, List, ℕ, ◌∙◌, subst}
use Rattle.std.specs.List.{fold}
use Rattle.lin_events.specs.declared.calls.Reply.{Reply}
use Rattle.lin_objects.specs.declared.states.State.{State}
use Rattle.lin_order.specs.contracts.ref_configs.RefConfigHash.TheImpl as HashImpl
use Rattle.lin_order.proofs.ref_configs.RefConfigHash.hash.Goals as goal

pub returns : goal.returns
returns g c =
    let parts : (c.self.inside.state, c.as_slice.result.now) ≡ (c.self.inside.state, c.self.inside.placed.items) = λ i. (c.self.inside.state, c.as_slice.ensures.value i) in
    subst (λ (v : State × List (ℕ × Reply)). c.hash_parts.new.state ≡ fold g.H.Hasher.write c.args.state.now (HashImpl.ghosts.hash_input v)) (parts ∙ c.self.view_is) c.hash_parts.ensures
