use Rattle.std.proofs.Common.{◌+◌, ◌*◌, ◌≤◌, Bool, List, ap, arith, inl, inr, length}
use Rattle.std.proofs.lemmas.Bool.{cases_Bool}
use Rattle.lin_events.specs.declared.items.Item.{Item}
use Rattle.lin_events.specs.declared.calls.Name.{Name}
use Rattle.lin_events.specs.declared.events.Event.{Event}
use Rattle.lin_order.specs.ConfigurationLaws.{with_event}
use Rattle.lin_frontier.specs.Frontiers.{IsNextEvent, IsPending}
use Rattle.lin_frontier.specs.lemmas.Answered.{from_some}
use Rattle.lin_frontier.specs.lemmas.Counting.{tried_longer, tried_within}
use Rattle.lin_compressed_frontier.proofs.Advancing.{advances_with, alone_advances}
use Rattle.lin_compressed_frontier.proofs.Compressing.{Laws, completes_open, covering_stays}
use Rattle.lin_compressed_frontier.proofs.Opened.{either_holds, some_weaker}
use Rattle.lin_compressed_frontier.proofs.compressed.advance_members.Goals as goal

pub returns-clause-next : goal.returns-clause-next
returns-clause-next g c functions h next covering =
    let begin = g.O.SeqObject.starts c.args.arrival.now.object.now in
    let step = g.O.SeqObject.step c.args.arrival.now.object.now in
    let observes = g.O.SeqObject.observing c.args.arrival.now.object.now in
    let laws : Laws begin step = record {
      alternating = c.well_formed_is_alternating.ensures;
      unique = c.ends_are_unique.ensures;
      dropping = c.dominated_can_go.ensures.dropped;
      invocation = c.members_after_events.ensures.invocation;
      info = c.members_after_events.ensures.info;
      fail = c.members_after_events.ensures.fail;
      observer = c.members_after_ok.ensures.observer;
      update = c.members_after_ok.ensures.update;
      fewer = c.rounds_spell_members.ensures.fewer;
      places = c.rounds_take_operations.ensures.places;
      trail_invocation = c.rounds_after_events.ensures.invocation;
      trail_info = c.rounds_after_events.ensures.info;
      trail_fail = c.rounds_after_events.ensures.fail;
      trail_ok = c.rounds_after_events.ensures.ok;
      trail_observer = c.rounds_after_events.ensures.observer;
      trail_return = c.rounds_after_events.ensures.placed;
      above = c.overwritten_can_go.ensures.above;
      none = c.overwritten_can_go.ensures.none;
      alone = c.overwritten_can_go.ensures.alone;
      invocation_with = c.overwritten_after_events.ensures.invocation;
      info_with = c.overwritten_after_events.ensures.info;
      fail_with = c.overwritten_after_events.ensures.fail;
      update_with = c.overwritten_after_update.ensures;
      observer_with = c.overwritten_after_observer.ensures;
      goes_ahead = c.rounds_go_ahead.ensures;
      allows_on = c.rounds_allow_overwritten.ensures.on;
      allows_put = c.rounds_allow_overwritten.ensures.put;
      allows_begins = c.rounds_allow_overwritten.ensures.begins;
    } in
    let pending = c.part_or_list-after.result.now in
    let opened = either_holds (λ l. (functions' : Item → Name → Bool) (h' : List Event) → IsNextEvent functions' h' c.args.arrival.now.pending.now c.args.arrival.now.at c.args.arrival.now.event.now → IsPending (with_event h' c.args.arrival.now.event.now) l)
    (λ p. p.now) c.part_after-part.result c.in_ok-list.list.items pending (some_weaker _ _ (λ p all functions' h'. all functions' h' c.args.arrival.now.at) c.part_after-part.result c.part_after-part.ensures.pending) c.in_ok-list.ensures.pending
    c.part_or_list-after.ensures.some (rw c.deref.ensures.value at c.part_or_list-after.ensures.none) functions h next in
    let same = c.of-pending.ensures in
    let completes = completes_open begin step observes laws functions h c.args.arrival.now.pending.now c.args.arrival.now.at c.args.arrival.now.event.now next pending opened in
    let covered = covering_stays begin step observes (g.O.SeqObject.overwriting c.args.arrival.now.object.now) h c.args.nodes.now c.next_members.new.nodes c.args.members.now c.next_members.ensures.grown covering in
    elim (cases_Bool c.args.search.alone) [
      | inl alone ↦
          alone_advances begin step observes laws functions h c.args.arrival.now.pending.now c.args.arrival.now.at c.args.arrival.now.event.now next pending opened (g.O.SeqObject.unchanged c.args.arrival.now.object.now) c.next_members.new.nodes c.args.members.now
          c.in-Some.found.items c.in_ok-kept.kept.items c.dominated_can_go.ensures.thinned (g.O.SeqObject.overwriting c.args.arrival.now.object.now) (c.requires.fits alone)
          (rw same at (from_some _ c.in-Some.is c.in_ok-found.ensures.alone alone completes)) (rw same at (c.in_ok-kept.ensures.alone alone)) covered
      | inr others ↦
          advances_with begin step observes laws functions h c.args.arrival.now.pending.now c.args.arrival.now.at c.args.arrival.now.event.now next pending opened (g.O.SeqObject.unchanged c.args.arrival.now.object.now) c.next_members.new.nodes c.args.members.now
          c.in-Some.found.items c.in_ok-kept.kept.items (g.O.SeqObject.overwriting c.args.arrival.now.object.now) (c.requires.goes others) (g.O.SeqObject.overwritten c.args.arrival.now.object.now (c.requires.goes others))
          (rw same at (from_some _ c.in-Some.is c.in_ok-found.ensures.next others completes)) (rw same at (c.in_ok-kept.ensures.others others)) covered
    ]

pub returns-in_err-found-clause-tried : goal.returns-in_err-found-clause-tried
returns-in_err-found-clause-tried g c =
    tried_within c.args.search.limit (length c.args.members.now) (length c.of-pending.result) (length c.args.arrival.now.pending.now) _ _ (let len = either_holds (λ l. length l ≤ length c.args.arrival.now.pending.now + 1) (λ p. p.now) c.part_after-part.result c.in_ok-list.list.items c.part_or_list-after.result.now c.part_after-part.ensures.len c.in_ok-list.ensures.len c.part_or_list-after.ensures.some (rw c.deref.ensures.value at c.part_or_list-after.ensures.none) in omega (arith, len, ap length c.of-pending.ensures)) c.next_members.ensures.tried

pub returns-in_default-clause-tried : goal.returns-in_default-clause-tried
returns-in_default-clause-tried g c =
    tried_within c.args.search.limit (length c.args.members.now) (length c.of-pending.result) (length c.args.arrival.now.pending.now) _ _ (let len = either_holds (λ l. length l ≤ length c.args.arrival.now.pending.now + 1) (λ p. p.now) c.part_after-part.result c.in_ok-list.list.items c.part_or_list-after.result.now c.part_after-part.ensures.len c.in_ok-list.ensures.len c.part_or_list-after.ensures.some (rw c.deref.ensures.value at c.part_or_list-after.ensures.none) in omega (arith, len, ap length c.of-pending.ensures)) c.next_members.ensures.tried

pub returns-clause-tried : goal.returns-clause-tried
returns-clause-tried g c =
    tried_within c.args.search.limit (length c.args.members.now) (length c.of-pending.result) (length c.args.arrival.now.pending.now) _ _ (let len = either_holds (λ l. length l ≤ length c.args.arrival.now.pending.now + 1) (λ p. p.now) c.part_after-part.result c.in_ok-list.list.items c.part_or_list-after.result.now c.part_after-part.ensures.len c.in_ok-list.ensures.len c.part_or_list-after.ensures.some (rw c.deref.ensures.value at c.part_or_list-after.ensures.none) in omega (arith, len, ap length c.of-pending.ensures)) c.next_members.ensures.tried

pub returns-in_err-kept-clause-tried : goal.returns-in_err-kept-clause-tried
returns-in_err-kept-clause-tried g c =
    tried_within c.args.search.limit (length c.args.members.now) (length c.of-pending.result) (length c.args.arrival.now.pending.now) _ _ (let len = either_holds (λ l. length l ≤ length c.args.arrival.now.pending.now + 1) (λ p. p.now) c.part_after-part.result c.in_ok-list.list.items c.part_or_list-after.result.now c.part_after-part.ensures.len c.in_ok-list.ensures.len c.part_or_list-after.ensures.some (rw c.deref.ensures.value at c.part_or_list-after.ensures.none) in omega (arith, len, ap length c.of-pending.ensures)) c.next_members.ensures.tried

pub returns-in_err-found-clause-searched : goal.returns-in_err-found-clause-searched
returns-in_err-found-clause-searched g c alone =
    tried_longer c.args.search.limit (2 * length c.of-pending.result + 1) (2 * length c.args.arrival.now.pending.now + 3) _ _ (let len = either_holds (λ l. length l ≤ length c.args.arrival.now.pending.now + 1) (λ p. p.now) c.part_after-part.result c.in_ok-list.list.items c.part_or_list-after.result.now c.part_after-part.ensures.len c.in_ok-list.ensures.len c.part_or_list-after.ensures.some (rw c.deref.ensures.value at c.part_or_list-after.ensures.none) in omega (arith, len, ap length c.of-pending.ensures)) (c.next_members.ensures.searched alone)

pub returns-in_default-clause-searched : goal.returns-in_default-clause-searched
returns-in_default-clause-searched g c alone =
    tried_longer c.args.search.limit (2 * length c.of-pending.result + 1) (2 * length c.args.arrival.now.pending.now + 3) _ _ (let len = either_holds (λ l. length l ≤ length c.args.arrival.now.pending.now + 1) (λ p. p.now) c.part_after-part.result c.in_ok-list.list.items c.part_or_list-after.result.now c.part_after-part.ensures.len c.in_ok-list.ensures.len c.part_or_list-after.ensures.some (rw c.deref.ensures.value at c.part_or_list-after.ensures.none) in omega (arith, len, ap length c.of-pending.ensures)) (c.next_members.ensures.searched alone)

pub returns-clause-searched : goal.returns-clause-searched
returns-clause-searched g c alone =
    tried_longer c.args.search.limit (2 * length c.of-pending.result + 1) (2 * length c.args.arrival.now.pending.now + 3) _ _ (let len = either_holds (λ l. length l ≤ length c.args.arrival.now.pending.now + 1) (λ p. p.now) c.part_after-part.result c.in_ok-list.list.items c.part_or_list-after.result.now c.part_after-part.ensures.len c.in_ok-list.ensures.len c.part_or_list-after.ensures.some (rw c.deref.ensures.value at c.part_or_list-after.ensures.none) in omega (arith, len, ap length c.of-pending.ensures)) (c.next_members.ensures.searched alone)

pub returns-in_err-kept-clause-searched : goal.returns-in_err-kept-clause-searched
returns-in_err-kept-clause-searched g c alone =
    tried_longer c.args.search.limit (2 * length c.of-pending.result + 1) (2 * length c.args.arrival.now.pending.now + 3) _ _ (let len = either_holds (λ l. length l ≤ length c.args.arrival.now.pending.now + 1) (λ p. p.now) c.part_after-part.result c.in_ok-list.list.items c.part_or_list-after.result.now c.part_after-part.ensures.len c.in_ok-list.ensures.len c.part_or_list-after.ensures.some (rw c.deref.ensures.value at c.part_or_list-after.ensures.none) in omega (arith, len, ap length c.of-pending.ensures)) (c.next_members.ensures.searched alone)
