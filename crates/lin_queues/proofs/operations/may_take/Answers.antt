use Rattle.std.proofs.Common.{inl, inr, sym, ap, ◌∙◌, true≢false}
use Rattle.std.specs.Prelude.{not}
use Rattle.std.proofs.lemmas.Bool.{cases_Bool}
use Rattle.lin_queues.proofs.operations.may_take.Goals as goal

pub returns : goal.returns
returns c none is = elim (cases_Bool c.found_nothing.result) [
  | inl found ↦ let nothing = c.found_nothing.ensures found in is.2 nothing.0 nothing.1
  | inr other ↦ true≢false (ap not (sym other) ∙ none)
]
