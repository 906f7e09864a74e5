use Rattle.std.proofs.Common.{◌+◌, ◌++◌, drop, map, ◌∙◌, ap}
use Rattle.lin_names.specs.lemmas.Begins.{begins_on}
use Rattle.lin_edn.specs.Value.{values_of}
use Rattle.lin_edn.specs.View.{view}
use Rattle.lin_history.specs.Stream.{told_by}
use Rattle.lin_history.proofs.Reading.{put_again, reading_before}
use Rattle.lin_history.proofs.Telling.{behind_told}
use Rattle.lin_history.proofs.Waiting.{alone_told, told_split, told_step, told_up_to, told_through}
use Rattle.lin_history.proofs.follow.tell_all.Goals as goal

pub returns-in-Err-clause-told : goal.returns-in-Err-clause-told
returns-in-Err-clause-told c = λ m is.
    let so_far = c.loop-item.invariant.1 in
    let items = c.args.items.now in
    let k = c.loop-item.item-index in
    let v = view c.item-item.result in
    let rest = told_by m (values_of (map view (drop (k + 1) items))) in
    let before = reading_before c.args.keyed c.loop-item.names c.tell_one.new.names m c.in-Err.ensures.begun is in
    told_up_to (told_by m (values_of (map view items))) (alone_told m v) rest so_far.0 c.args.ready.now.items c.loop-item.ready.items c.tell_one.new.ready.items c.in-Err.fault
    (so_far.2 m before ∙ ap (behind_told so_far.0) (told_step m items k c.item-item.result c.loop-item-test.true c.item-item.is ∙ told_split m v rest)) so_far.1 (c.in-Err.ensures.told m is)

pub loop-item-preserved : goal.loop-item-preserved
loop-item-preserved c =
    let so_far = c.loop-item.invariant.1 in
    let put = c.in_default.ensures.put in
    let items = c.args.items.now in
    let k = c.loop-item.item-index in
    let v = view c.item-item.result in (
      begins_on c.args.names.now c.loop-item.names c.tell_one.new.names c.loop-item.invariant.0 c.in_default.ensures.begun,
      (
        so_far.0 ++ put.0,
        put_again c.args.ready.now.items c.loop-item.ready.items c.tell_one.new.ready.items so_far.0 put.0 so_far.1 put.1,
        λ m is.
            let rest = told_by m (values_of (map view (drop (k + 1) items))) in
            let before = reading_before c.args.keyed c.loop-item.names c.tell_one.new.names m c.in_default.ensures.begun is in
            told_through (told_by m (values_of (map view items))) (alone_told m v) rest so_far.0 put.0 c.loop-item.ready.items c.tell_one.new.ready.items
            (so_far.2 m before ∙ ap (behind_told so_far.0) (told_step m items k c.item-item.result c.loop-item-test.true c.item-item.is ∙ told_split m v rest)) put.1 (c.in_default.ensures.told m is),
      ),
    )
