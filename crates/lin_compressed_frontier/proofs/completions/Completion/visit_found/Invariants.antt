use Rattle.std.proofs.Common.{◌++◌, map, vec_len}
use Rattle.lin_frontier.specs.Sharing.{shared}
use Rattle.lin_configurations.specs.lemmas.Visiting.{IsTakingIn}
use Rattle.lin_compressed_frontier.proofs.completions.Completion.visit_found.Given as goal

abbrev pub invariant-loop-config : goal.invariant-loop-config
invariant-loop-config g l = IsTakingIn (g.O.SeqObject.observing l.self.object.now) l.self.pending.now l.fn.scratch.next.items l.scratch.next.items (shared l.offers-inside.list) l.path l.fn.nodes l.nodes
    (map (λ m. m.now) l.starts ++ l.fn.visited.items) (map (λ m. m.now) l.starts ++ l.visited.items)

abbrev pub decreases-loop-config : goal.decreases-loop-config
decreases-loop-config g l = vec_len l.scratch.next
