use Rattle.std.proofs.Common.{ℕ, List, refl, sym, subst}
use Rattle.lin_events.specs.declared.items.Item.{Item}
use Rattle.lin_events.specs.declared.calls.Call.TheVariants.{Read}
use Rattle.lin_order.specs.lemmas.Lists.{if_ok_weaker}
use Rattle.lin_sets.specs.News.{IsNews}
use Rattle.lin_sets.specs.Steps.{ReturnsNext}
use Rattle.lin_sets.proofs.Beyond.{fits_whole, news_at}
use Rattle.lin_sets.proofs.Forgetting.{on_err}
use Rattle.lin_sets.proofs.Same.{on_err_weaker, room_made, room_made_for_reads, still_as_before}
use Rattle.lin_sets.proofs.Refusing.{no_invocation, odd, unfit, no_members}
use Rattle.lin_sets.proofs.intervals.Intervals.end_read.Goals as goal

pub returns-in_default-clause-conflict : goal.returns-in_default-clause-conflict
returns-in_default-clause-conflict c = λ _ h event returns all.
    odd c.args.self.now h event all (no_invocation returns.1.1) c.args.at Read c.args.reply.now returns (no_members c.args.reply.now c.in_default.not-Members)

pub returns-then-not-is_fitting-clause-conflict : goal.returns-then-not-is_fitting-clause-conflict
returns-then-not-is_fitting-clause-conflict c = λ _ h event returns all.
    let news = news_at c.as_slice.result.now c.args.self.now.reads.items c.as_slice-2.result.now c.in-Members.set c.in_ok-news.news
    c.as_slice.ensures.value c.as_slice-2.ensures.items c.in_ok-news.ensures in
    unfit c.args.self.now h event all (no_invocation returns.1.1) c.args.at c.in-Members.set (subst (ReturnsNext h event c.args.at Read) c.in-Members.is returns)
    (c.is_fitting.ensures.unfit c.if-not-is_fitting.true all.listed news.2.each)

pub returns-in_err-reserve-clause-refused : goal.returns-in_err-reserve-clause-refused
returns-in_err-reserve-clause-refused c = on_err c.from_residual-in_err-reserve.result _ (room_made c.args.self.now _ c.args.self.now.changes c.reserve.ensures.items refl)

pub returns-in_err-reserve-2-clause-refused : goal.returns-in_err-reserve-2-clause-refused
returns-in_err-reserve-2-clause-refused c = on_err c.from_residual-in_err-reserve-2.result _ (room_made c.args.self.now _ _ c.reserve.ensures.items c.reserve-2.ensures.items)

pub returns-in_err-reserve-3-clause-refused : goal.returns-in_err-reserve-3-clause-refused
returns-in_err-reserve-3-clause-refused c = on_err c.from_residual-in_err-reserve-3.result _ (room_made_for_reads c.args.self.now _ _ _ c.reserve.ensures.items c.reserve-2.ensures.items c.reserve-3.ensures.items)

pub returns-clause-goes_on : goal.returns-clause-goes_on
returns-clause-goes_on c = if_ok_weaker c.keep_read.result _ _ (λ goes given so h event may returns all.
    let old = c.args.self.now in
    let news = news_at c.as_slice.result.now c.args.self.now.reads.items c.as_slice-2.result.now c.in-Members.set c.in_ok-news.news
    c.as_slice.ensures.value c.as_slice-2.ensures.items c.in_ok-news.ensures in
    let room = room_made_for_reads old _ _ _ c.reserve.ensures.items c.reserve-2.ensures.items c.reserve-3.ensures.items in
    given so h event may (subst (ReturnsNext h event c.args.at Read) c.in-Members.is returns) c.as_slice-2.ensures.rising
    (subst (λ (l : List (ℕ × List Item)). IsNews l c.in-Members.set c.in_ok-news.news) (sym c.reserve-3.ensures.items) news)
    (fits_whole old h all c.in-Members.set c.in_ok-news.news news c.args.at (c.is_fitting.ensures.fitting c.if-not-is_fitting.false all.listed)) (room.1 h all)) c.keep_read.ensures.goes_on

pub returns-clause-conflict : goal.returns-clause-conflict
returns-clause-conflict c = if_ok_weaker c.keep_read.result _ _ (λ goes given so h event returns all.
    let room = room_made_for_reads c.args.self.now _ _ _ c.reserve.ensures.items c.reserve-2.ensures.items c.reserve-3.ensures.items in
    given so h event (subst (ReturnsNext h event c.args.at Read) c.in-Members.is returns) (room.1 h all)) c.keep_read.ensures.conflict

pub returns-clause-stays : goal.returns-clause-stays
returns-clause-stays c = if_ok_weaker c.keep_read.result _ _ (λ goes given so.
    let room = room_made_for_reads c.args.self.now _ _ _ c.reserve.ensures.items c.reserve-2.ensures.items c.reserve-3.ensures.items in
    still_as_before c.args.self.now _ _ room (given so)) c.keep_read.ensures.stays

pub returns-clause-refused : goal.returns-clause-refused
returns-clause-refused c = on_err_weaker c.keep_read.result _ _ (λ given.
    let room = room_made_for_reads c.args.self.now _ _ _ c.reserve.ensures.items c.reserve-2.ensures.items c.reserve-3.ensures.items in
    still_as_before c.args.self.now _ _ room given) c.keep_read.ensures.refused
