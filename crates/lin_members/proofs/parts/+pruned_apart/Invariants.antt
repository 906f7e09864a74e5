use Rattle.lin_members.proofs.parts.+pruned_apart.Given as goal

abbrev pub decreases-pruned_apart : goal.decreases-pruned_apart
decreases-pruned_apart g l = l.bits
