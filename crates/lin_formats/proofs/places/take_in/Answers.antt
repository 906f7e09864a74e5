use Rattle.std.proofs.Common.{ℕ, List, ◌++◌, subst, arith, ◌∙◌}
use Rattle.lin_formats.specs.inner.Marks.{IsRead, IsResting}
use Rattle.lin_formats.proofs.Feeding.{ends_resting}
use Rattle.lin_formats.proofs.places.take_in.Goals as goal

pub returns-in-Ok-clause-read : goal.returns-in-Ok-clause-read
returns-in-Ok-clause-read c = λ k is.
    subst (λ (l : List ℕ). IsRead k l c.args.next c.args.places.now.items c.read_on.new.places.items c.in-Ok.read)
    (c.as_slice-2.ensures.value ∙ c.in_ok-extend_from_slice.ensures.items) (c.in-Ok.ensures.read k is)

pub returns-in-Some-clause-read : goal.returns-in-Some-clause-read
returns-in-Some-clause-read c = λ k is.
    let text = c.args.held.now.items ++ c.args.piece.now in
    let rests : IsResting text c.args.next c.in-Some.stop =
    subst (λ (l : List ℕ). IsResting l c.args.next c.in-Some.stop) (c.as_slice.ensures.value ∙ c.in_ok-extend_from_slice.ensures.items) c.in-Some.ensures.rests in
    λ whole front read. (omega arith, ends_resting k whole text c.args.next c.args.places.now.items c.in-Some.stop front rests read)
