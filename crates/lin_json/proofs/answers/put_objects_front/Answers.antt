use Rattle.lin_texts.specs.lemmas.Putting.{put_next}
use Rattle.lin_json.proofs.answers.put_objects_front.Goals as goal

pub returns : goal.returns
returns c =
    put_next c.args.text.now.items c.put_failed_key.new.text.items _ _ _ (put_next c.args.text.now.items c.put_passed.new.text.items _ _ _
    (put_next c.args.text.now.items c.put_counted_for.new.text.items _ _ _ c.in_ok-put_counted_for.ensures c.in_ok-put_passed.ensures) c.in_ok-put_failed_key.ensures)
    c.in_ok-extend_from_slice.ensures.items
