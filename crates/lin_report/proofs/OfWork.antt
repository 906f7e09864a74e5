-- What is told of what was counted: of `work` alone.
use Rattle.std.proofs.Common.{◌≡◌, Result, Ok, Err, sym, ◌∙◌}
use Rattle.std.specs.Prelude.{IfOk}
use Rattle.lin_report.specs.declared.commands.Command.{Command}
use Rattle.lin_report.specs.declared.commands.Command.TheVariants.{Work}

-- nothing is told of what another command counted
pub told_of_work : {A E : Type 0} (made : Command) → (made ≡ Work → ⊥) → (command : Command) → command ≡ made → (r : Result A E) (told : A → Type 0)
    → IfOk r (λ a. command ≡ Work → told a)
told_of_work made other command is (Ok a) told = λ same. absurd (other (sym is ∙ same))
told_of_work made other command is (Err fault) told = tt
