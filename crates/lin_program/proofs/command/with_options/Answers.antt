use Rattle.std.proofs.Common.{Bool, true, false, ◌≡◌, ap₂, refl, ◌||◌, ◌∙◌}
use Rattle.std.proofs.lemmas.Result.{IfOk-weaker}
use Rattle.clap.specs.Words.{with_rule}
use Rattle.lin_program.proofs.command.with_options.Goals as goal

or_false : (b : Bool) → (b || false) ≡ b
or_false true = refl
or_false false = refl

pub returns : goal.returns
returns c =
    let kinded = c.in_ok-arg.ensures.shape c.kind_option.ensures.local.1 ∙ ap₂ with_rule refl c.kind_option.ensures.rule in
    let keyed = c.in_ok-arg-2.ensures.shape c.keyed_option.ensures.local.1 ∙ ap₂ with_rule kinded c.keyed_option.ensures.rule in
    let local = c.in_ok-arg-2.ensures.globals ∙ ap₂ (λ a b. a || b) (c.in_ok-arg.ensures.globals ∙ ap₂ (λ a b. a || b) refl c.kind_option.ensures.local.1 ∙ or_false _) c.keyed_option.ensures.local.1 ∙ or_false _ in
    record {
      app = IfOk-weaker c.arg-3.result _ _ (λ command h. h.shape c.budget_option.ensures.local.1 ∙ ap₂ with_rule keyed c.budget_option.ensures.rule) c.arg-3.ensures;
      local = IfOk-weaker c.arg-3.result _ _ (λ command h. h.globals ∙ ap₂ (λ a b. a || b) local c.budget_option.ensures.local.1 ∙ or_false _) c.arg-3.ensures;
    }
