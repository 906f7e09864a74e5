use Rattle.std.proofs.Common.{◌∙◌, ◌++◌, ap}
use Rattle.lin_texts.specs.lemmas.Putting.{put_last, put_next}
use Rattle.lin_report.proofs.refused.put_edn_fault.Goals as goal

pub returns : goal.returns
returns c =
    let words = c.as_bytes.ensures.value ∙ c.edn_cause.ensures in
    let named = c.in_ok-extend_from_slice-2.ensures.items ∙ ap (λ w. c.extend_from_slice.new.self.items ++ w) words in
    put_last c.put_number.result c.args.line.now.items c.extend_from_slice-3.new.self.items c.put_number.new.line.items _ _
    (put_next c.args.line.now.items c.extend_from_slice-2.new.self.items _ _ _ (put_next c.args.line.now.items c.extend_from_slice.new.self.items _ _ _ c.in_ok-extend_from_slice.ensures.items named)
    c.in_ok-extend_from_slice-3.ensures.items) c.put_number.ensures
