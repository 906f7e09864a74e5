use Rattle.std.proofs.Common.{◌+◌, ◌*◌, ◌<◌, length, inl, inr, sym, subst, arith}
use Rattle.std.proofs.lemmas.Nat.{mul-le}
use Rattle.lin_order.specs.ConfigurationLaws.{with_event}
use Rattle.lin_members.specs.Compressed.{IsCompressed}
use Rattle.lin_frontier.specs.lemmas.Answered.{if_ok_weaker}
use Rattle.lin_compressed_frontier.proofs.Compressing.{compressed_stays, well_formed_before}
use Rattle.lin_compressed_frontier.proofs.Tries.{goes_alone, searched_both, searched_up}
use Rattle.lin_frontier.specs.lemmas.Counting.{tried_both, tried_up}
use Rattle.lin_compressed_frontier.proofs.compressed.Compressed.step.Goals as goal

pub from_listing-requires-clause-alone : goal.from_listing-requires-clause-alone
from_listing-requires-clause-alone g c = c.is_alone-alone.ensures.fits (c.in_ok-advance_up_to.ensures.oks c.in-TooMany.is).0

pub returns-in-Empty-clause-empty : goal.returns-in-Empty-clause-empty
returns-in-Empty-clause-empty g c is = c.in_ok-advance_up_to.ensures.empty c.in-Empty.is

pub returns-after-not-alone-clause-next : goal.returns-after-not-alone-clause-next
returns-after-not-alone-clause-next g c =
    let begin = g.O.SeqObject.starts c.args.arrival.now.object.now in
    let step = g.O.SeqObject.step c.args.arrival.now.object.now in
    let observes = g.O.SeqObject.observing c.args.arrival.now.object.now in
    let overwriting = g.O.SeqObject.overwriting c.args.arrival.now.object.now in
    if_ok_weaker _ _ (λ _ same next is functions h nx frontier.
    subst (IsCompressed begin step observes overwriting (with_event h c.args.arrival.now.event.now) next) (sym c.next_within.ensures.nodes)
    (subst (λ l. IsCompressed begin step observes overwriting (with_event h c.args.arrival.now.event.now) l c.advance_up_to.new.nodes) (sym (same next is))
    (c.in_ok-advance_up_to.ensures.next c.in-Next.next c.in-Next.is functions h nx frontier))) c.next_within.result c.next_within.ensures.next

pub returns-after-not-alone-clause-some : goal.returns-after-not-alone-clause-some
returns-after-not-alone-clause-some g c =
    if_ok_weaker _ _ (λ _ same next is. subst (λ l. 0 < length l) (sym (same next is)) (c.in_ok-advance_up_to.ensures.some c.in-Next.next c.in-Next.is)) c.next_within.result c.next_within.ensures.next

pub returns-after-not-alone-clause-empty : goal.returns-after-not-alone-clause-empty
returns-after-not-alone-clause-empty g c = if_ok_weaker _ _ (λ _ never is functions h nx frontier. absurd (never (inl is))) c.next_within.result c.next_within.ensures.never

pub returns-after-not-alone-clause-over : goal.returns-after-not-alone-clause-over
returns-after-not-alone-clause-over g c =
    if_ok_weaker _ _ (λ _ says is functions h nx frontier. says is functions h nx (c.in_ok-advance_up_to.ensures.next c.in-Next.next c.in-Next.is functions h nx frontier)) c.next_within.result c.next_within.ensures.over

pub returns-after-not-alone-clause-before : goal.returns-after-not-alone-clause-before
returns-after-not-alone-clause-before g c =
    if_ok_weaker _ _ (λ _ says is functions h nx frontier.
    says is functions h (well_formed_before c.well_formed_is_alternating.ensures functions h c.args.arrival.now.event.now nx.well_formed) nx.opened
    (compressed_stays (g.O.SeqObject.starts c.args.arrival.now.object.now) (g.O.SeqObject.step c.args.arrival.now.object.now) (g.O.SeqObject.observing c.args.arrival.now.object.now) (g.O.SeqObject.overwriting c.args.arrival.now.object.now) h c.args.nodes.now c.advance_up_to.new.nodes
    c.args.self.now c.advance_up_to.ensures.grown frontier)) c.next_within.result c.next_within.ensures.before

pub returns-after-not-alone-clause-tries : goal.returns-after-not-alone-clause-tries
returns-after-not-alone-clause-tries g c =
    let len = length c.args.arrival.now.pending.now in
    tried_both c.args.meter.now c.advance_up_to.new.meter c.next_within.new.meter c.longest_search-limit.result c.args.budget len (length c.args.self.now * (2 * ((len + 2) * (len + 2)))) c.longest_search-limit.ensures
    c.advance_up_to.ensures.tries c.next_within.ensures.tried

pub returns-in-TooMany-clause-next : goal.returns-in-TooMany-clause-next
returns-in-TooMany-clause-next g c =
    if_ok_weaker _ _ (λ step says next is functions h nx frontier.
    says next is functions h nx
    (subst (IsCompressed (g.O.SeqObject.starts c.args.arrival.now.object.now) (g.O.SeqObject.step c.args.arrival.now.object.now) (g.O.SeqObject.observing c.args.arrival.now.object.now) (g.O.SeqObject.overwriting c.args.arrival.now.object.now) h c.args.self.now)
    (sym (c.in_ok-advance_up_to.ensures.kept (inr c.in-TooMany.is))) frontier)) c.from_listing.result c.from_listing.ensures.next

pub returns-in-TooMany-clause-empty : goal.returns-in-TooMany-clause-empty
returns-in-TooMany-clause-empty g c =
    if_ok_weaker _ _ (λ step says is functions h nx frontier.
    says is functions h nx
    (subst (IsCompressed (g.O.SeqObject.starts c.args.arrival.now.object.now) (g.O.SeqObject.step c.args.arrival.now.object.now) (g.O.SeqObject.observing c.args.arrival.now.object.now) (g.O.SeqObject.overwriting c.args.arrival.now.object.now) h c.args.self.now)
    (sym (c.in_ok-advance_up_to.ensures.kept (inr c.in-TooMany.is))) frontier)) c.from_listing.result c.from_listing.ensures.empty

pub returns-in-TooMany-clause-before : goal.returns-in-TooMany-clause-before
returns-in-TooMany-clause-before g c =
    if_ok_weaker _ _ (λ step says is functions h nx frontier.
    says is functions h nx
    (subst (IsCompressed (g.O.SeqObject.starts c.args.arrival.now.object.now) (g.O.SeqObject.step c.args.arrival.now.object.now) (g.O.SeqObject.observing c.args.arrival.now.object.now) (g.O.SeqObject.overwriting c.args.arrival.now.object.now) h c.args.self.now)
    (sym (c.in_ok-advance_up_to.ensures.kept (inr c.in-TooMany.is))) frontier)) c.from_listing.result c.from_listing.ensures.before

pub returns-in-TooMany-clause-tries : goal.returns-in-TooMany-clause-tries
returns-in-TooMany-clause-tries g c =
    let len = length c.args.arrival.now.pending.now in
    tried_both c.args.meter.now c.advance_up_to.new.meter c.from_listing.new.meter c.longest_search-limit.result c.args.budget len (length c.args.self.now * (2 * ((len + 2) * (len + 2)))) c.longest_search-limit.ensures
    c.advance_up_to.ensures.tries (tried_up (c.args.budget * len) (c.args.budget * (2 * len + 1)) _ _ (mul-le c.args.budget len c.args.budget (2 * len + 1) (omega arith) (omega arith)) c.from_listing.ensures.tried)

pub returns-in_err-advance_up_to-clause-searched : goal.returns-in_err-advance_up_to-clause-searched
returns-in_err-advance_up_to-clause-searched g c plain =
    searched_up c.args.meter.now c.advance_up_to.new.meter c.longest_search-limit.result c.args.budget (length c.args.arrival.now.pending.now) c.longest_search-limit.ensures (c.advance_up_to.ensures.searched (goes_alone _ _ c.is_alone-alone.ensures.goes plain))

pub returns-in-Empty-clause-searched : goal.returns-in-Empty-clause-searched
returns-in-Empty-clause-searched g c plain =
    searched_up c.args.meter.now c.advance_up_to.new.meter c.longest_search-limit.result c.args.budget (length c.args.arrival.now.pending.now) c.longest_search-limit.ensures (c.advance_up_to.ensures.searched (goes_alone _ _ c.is_alone-alone.ensures.goes plain))

pub returns-after-not-alone-clause-searched : goal.returns-after-not-alone-clause-searched
returns-after-not-alone-clause-searched g c plain =
    searched_both c.args.meter.now c.advance_up_to.new.meter c.next_within.new.meter c.longest_search-limit.result c.args.budget (length c.args.arrival.now.pending.now) c.longest_search-limit.ensures
    (c.advance_up_to.ensures.searched (goes_alone _ _ c.is_alone-alone.ensures.goes plain)) c.next_within.ensures.tried

pub returns-in-TooMany-clause-searched : goal.returns-in-TooMany-clause-searched
returns-in-TooMany-clause-searched g c plain =
    let len = length c.args.arrival.now.pending.now in
    searched_both c.args.meter.now c.advance_up_to.new.meter c.from_listing.new.meter c.longest_search-limit.result c.args.budget len c.longest_search-limit.ensures
    (c.advance_up_to.ensures.searched (goes_alone _ _ c.is_alone-alone.ensures.goes plain))
    (tried_up (c.args.budget * len) (c.args.budget * (2 * len + 1)) _ _ (mul-le c.args.budget len c.args.budget (2 * len + 1) (omega arith) (omega arith)) c.from_listing.ensures.tried)
