use Rattle.lin_formats.proofs.Feeding.{marks_nothing}
use Rattle.lin_formats.proofs.places.Places.new.Goals as goal

pub returns-clause-marks : goal.returns-clause-marks
returns-clause-marks c = λ k is. rw (c.new.ensures.items, c.new-2.ensures.items) (marks_nothing k c.args.keyed is)
