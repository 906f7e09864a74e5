-- What a run over bytes printed is right for these bytes.
use Rattle.std.proofs.Common.{◌≡◌, ◌++◌, [], ℕ, List, Some, Ok, ap, subst, sym, ◌∙◌}
use Rattle.lin_texts.specs.declared.status.Status.{Status}
use Rattle.lin_report.specs.Reports.{IsPrintRun, IsPrinted, Printing}
use Rattle.lin_embedded.specs.Calls.{IsPrintedOf}

pub printed_of : (is_right : Printing) (history file left front after told : List ℕ) (status : Status) → file ≡ history → front ≡ [] → told ≡ after
    → IsPrintRun is_right (Some file) (Some left) (Some front) (Some after) (Ok status) → IsPrintedOf is_right history told status
printed_of is_right history file left front after told status same none taken (text, printed, put) = (
  left,
  subst (λ f. IsPrinted is_right (Some f) (Some left) told status) same
      (subst (λ t. IsPrinted is_right (Some file) (Some left) t status) (sym (taken ∙ put ∙ ap (λ l. l ++ text) none)) printed),
)
