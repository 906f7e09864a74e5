use Rattle.std.proofs.Common.{◌≡◌, ◌∷◌, [], List, reverse, vec_len}
use Rattle.lin_order.specs.declared.placed.Placed.{Placed}
use Rattle.lin_members.specs.Searching.{in_rounds}
use Rattle.lin_members.specs.inner.Chains.{AreChained}
use Rattle.lin_members.proofs.chains.Chains.of.Given as goal

abbrev pub invariant-loop-placed : goal.invariant-loop-placed
invariant-loop-placed l = (rounds : List (List Placed)) × AreChained l.rounds rounds × (in_rounds rounds (reverse l.rest.items) ≡ in_rounds ([] ∷ []) (reverse l.fn.entries.items))

abbrev pub decreases-loop-placed : goal.decreases-loop-placed
decreases-loop-placed l = vec_len l.rest
