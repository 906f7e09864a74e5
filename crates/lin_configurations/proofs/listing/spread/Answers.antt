use Rattle.std.proofs.Common.{[], subst, sym}
use Rattle.lin_members.specs.Listed.{with_offers, AreDifferent}
use Rattle.lin_configurations.proofs.Merging.{none_maps, alone_different, alone_spelled}
use Rattle.lin_configurations.proofs.listing.spread.Goals as goal

pub returns-clause-worked_off : goal.returns-clause-worked_off
returns-clause-worked_off g c = rw c.offers.ensures at c.in_ok-found.ensures.worked_off

pub returns-clause-over : goal.returns-clause-over
returns-clause-over g c =
    let one = c.in_ok-starts.ensures in
    none_maps c.in_ok-found.found (λ over functions h well_formed opened spelled. over functions h well_formed opened
    (alone_spelled _ _ _ h c.args.nodes.now c.args.member.now c.in_ok-starts.starts one spelled) (subst AreDifferent (sym one) (alone_different (with_offers [] c.args.member.now))))
    (rw c.offers.ensures at c.in_ok-found.ensures.over)
