use Rattle.std.proofs.Common.{ap, ap₂, codes, ◌||◌, ◌≡◌, ◌∙◌}
use Rattle.std.proofs.lemmas.Result.{IfOk-weaker}
use Rattle.clap.specs.Words.{app_of, new_app, with_rule}
use Rattle.clap.specs.Simple.{app_of_fields}
use Rattle.lin_program.specs.CommandLine.{with_options}
use Rattle.clap.specs.declared.builder.value_parser.ValueParser.TheVariants.{Names}
use Rattle.lin_program.proofs.command.verify_command.Goals as goal

pub returns : goal.returns
returns c =
    let begun : app_of c.after_help.result ≡ new_app (codes "verify") = ap app_of_fields c.after_help.ensures ∙ ap app_of_fields c.override_usage.ensures ∙ ap app_of_fields c.about.ensures ∙ c.new.ensures.app in
    let begun_local = ap (λ f. f.has_globals) c.after_help.ensures ∙ ap (λ f. f.has_globals) c.override_usage.ensures ∙ ap (λ f. f.has_globals) c.about.ensures ∙ c.new.ensures.local in
    let a0 = c.in_ok-arg.ensures.shape c.files_argument.ensures.local ∙ ap₂ with_rule begun c.files_argument.ensures.rule in
    let l0 = c.in_ok-arg.ensures.globals ∙ ap₂ (λ a b. a || b) begun_local c.files_argument.ensures.local in
    let a1 = c.in_ok-command.ensures.shape c.order_file_option.ensures.local.1 ∙ ap₂ with_rule a0 c.order_file_option.ensures.rule in
    let l1 = c.in_ok-command.ensures.globals ∙ ap₂ (λ a b. a || b) l0 c.order_file_option.ensures.local.1 in
    record {
      app = IfOk-weaker c.with_options.result _ _ (λ command h. h ∙ ap (with_options (Names c.args.kinds)) a1) c.with_options.ensures.app;
      local = IfOk-weaker c.with_options.result _ _ (λ command h. h ∙ l1) c.with_options.ensures.local;
    }
