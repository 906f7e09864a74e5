use Rattle.std.proofs.Common.{ap, subst}
use Rattle.std.proofs.lemmas.List.Elements.{All-contains}
use Rattle.lin_configurations.specs.lemmas.Visiting.{grown_grown, not_grown}
use Rattle.lin_members.specs.Listed.{config_of}
use Rattle.lin_possibilities.specs.inner.Telling.{Has, IsTaken}
use Rattle.lin_possibilities.proofs.Growing.{added_both, added_none, added_push, has_last, has_more, leads_bare}
use Rattle.lin_possibilities.proofs.telling.Telling.tell.Goals as goal

pub returns-clause-added : goal.returns-clause-added
returns-clause-added g c =
    let m = c.args.member.now in
    let nodes = c.args.nodes.now in
    let out = c.args.out.now.items in
    let own = added_push _ _ _ _ m nodes out nodes nodes out c.push_member.new.members.items c.in_ok-own.own (not_grown nodes) (leads_bare _ _ _ _ c.rounds_spell_members.ensures.fewer nodes m c.in_ok-own.own c.in_ok-own.ensures)
    c.in_ok-push_member.ensures (added_none _ _ _ _ m nodes out nodes) in
    let taken = added_both _ _ _ _ m nodes out nodes c.take_all.new.nodes c.push_member.new.members.items c.take_all.new.out.items (not_grown nodes) c.take_all.ensures.grown c.in_ok-take_all.ensures.added own in
    let placed = added_both _ _ _ _ m nodes out c.take_all.new.nodes c.place_all.new.nodes c.take_all.new.out.items c.place_all.new.out.items c.take_all.ensures.grown c.place_all.ensures.grown c.in_ok-place_all.ensures.added taken in
    added_both _ _ _ _ m nodes out c.place_all.new.nodes c.place_two.new.nodes c.place_all.new.out.items c.place_two.new.out.items (grown_grown _ _ _ c.take_all.ensures.grown c.place_all.ensures.grown) c.place_two.ensures.grown c.in_ok-place_two.ensures.added placed

pub returns-clause-told : goal.returns-clause-told
returns-clause-told g c =
    let m = c.args.member.now in
    let first = c.push_member.new.members.items in
    let second = c.take_all.new.out.items in
    let third = c.place_all.new.out.items in
    let fourth = c.place_two.new.out.items in
    let taken = c.in_ok-take_all.ensures.added in
    let placed = c.in_ok-place_all.ensures.added in
    let two = c.in_ok-place_two.ensures.added in
    let own : Has first (config_of m) = subst (Has first) (ap config_of c.in_ok-own.ensures) (has_last c.args.out.now.items first c.in_ok-own.own c.in_ok-push_member.ensures) in
    record {
      own = has_more third two.added fourth (config_of m) two.grown (has_more second placed.added third (config_of m) placed.grown (has_more first taken.added second (config_of m) taken.grown own));
      taken = λ x offer o there same absent.
          has_more third two.added fourth _ two.grown (has_more second placed.added third _ placed.grown (All-contains (IsTaken c.args.self.now.pending.now m second) m.0.offers x c.in_ok-take_all.ensures.taken offer o there same absent));
      placed = λ o p d there one. has_more third two.added fourth d two.grown (c.in_ok-place_all.ensures.placed o p d there one);
      behind = c.in_ok-place_two.ensures.placed;
    }
