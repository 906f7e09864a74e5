use Rattle.lin_texts.specs.lemmas.Putting.{put_next}
use Rattle.lin_json.proofs.unopened.put_unopened.Goals as goal

pub returns : goal.returns
returns c =
    let told = rw (c.as_slice.ensures.value, c.in_ok-extend_from_slice.ensures.items, c.in_ok-answer.ensures.items) at c.in_ok-put_string.ensures in
    put_next c.args.text.now.items c.put_string.new.text.items _ _ _ (put_next c.args.text.now.items c.extend_from_slice-2.new.self.items _ _ _
    (put_next c.args.text.now.items c.put_file_front.new.text.items _ _ _ c.in_ok-put_file_front.ensures c.in_ok-extend_from_slice-2.ensures.items) told)
    c.in_ok-push.ensures.items
