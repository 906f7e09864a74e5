use Rattle.std.proofs.Common.{Bool, true, false, ◌≡◌, ap₂, refl, ◌||◌, ◌∙◌}
use Rattle.std.proofs.lemmas.Result.{IfOk-weaker}
use Rattle.clap.specs.Words.{with_rule}
use Rattle.lin_program.proofs.command.with_report_options.Goals as goal

or_false : (b : Bool) → (b || false) ≡ b
or_false true = refl
or_false false = refl

pub returns : goal.returns
returns c =
    record {
      app = IfOk-weaker c.arg.result _ _ (λ command h. h.shape c.least_option.ensures.local.1 ∙ ap₂ with_rule c.in_ok-with_options.ensures.app c.least_option.ensures.rule) c.arg.ensures;
      local = IfOk-weaker c.arg.result _ _ (λ command h. h.globals ∙ ap₂ (λ a b. a || b) c.in_ok-with_options.ensures.local c.least_option.ensures.local.1 ∙ or_false _) c.arg.ensures;
    }
