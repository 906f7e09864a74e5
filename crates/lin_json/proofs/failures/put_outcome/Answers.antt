use Rattle.lin_texts.specs.lemmas.Putting.{put_last, put_next}
use Rattle.lin_json.proofs.failures.put_outcome.Goals as goal

pub returns : goal.returns
returns c =
    put_last c.put_why.result c.args.text.now.items c.extend_from_slice-3.new.self.items c.put_why.new.text.items _ _
    (put_next c.args.text.now.items c.put_choices-2.new.text.items _ _ _ (put_next c.args.text.now.items c.extend_from_slice-2.new.self.items _ _ _
    (put_next c.args.text.now.items c.put_choices.new.text.items _ _ _ (put_next c.args.text.now.items c.extend_from_slice.new.self.items _ _ _
    c.in_ok-extend_from_slice.ensures.items c.in_ok-put_choices.ensures) c.in_ok-extend_from_slice-2.ensures.items) c.in_ok-put_choices-2.ensures)
    c.in_ok-extend_from_slice-3.ensures.items) (rw c.as_ref.ensures.value at c.put_why.ensures)
