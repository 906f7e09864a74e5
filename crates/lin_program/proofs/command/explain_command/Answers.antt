use Rattle.std.proofs.Common.{ap, ap₂, codes, ◌||◌, ◌≡◌, ◌∙◌}
use Rattle.std.proofs.lemmas.Result.{IfOk-weaker}
use Rattle.clap.specs.Words.{app_of, new_app, with_rule}
use Rattle.clap.specs.Simple.{app_of_fields}
use Rattle.lin_program.specs.CommandLine.{with_report_options}
use Rattle.clap.specs.declared.builder.value_parser.ValueParser.TheVariants.{Names}
use Rattle.lin_program.proofs.command.explain_command.Goals as goal

pub returns : goal.returns
returns c =
    let begun : app_of c.after_help.result ≡ new_app (codes "explain") = ap app_of_fields c.after_help.ensures ∙ ap app_of_fields c.about.ensures ∙ c.new.ensures.app in
    let begun_local = ap (λ f. f.has_globals) c.after_help.ensures ∙ ap (λ f. f.has_globals) c.about.ensures ∙ c.new.ensures.local in
    let a0 = c.in_ok-arg.ensures.shape c.file_argument.ensures.local ∙ ap₂ with_rule begun c.file_argument.ensures.rule in
    let l0 = c.in_ok-arg.ensures.globals ∙ ap₂ (λ a b. a || b) begun_local c.file_argument.ensures.local in
    let a1 = c.in_ok-arg-2.ensures.shape c.key_option.ensures.local.1 ∙ ap₂ with_rule a0 c.key_option.ensures.rule in
    let l1 = c.in_ok-arg-2.ensures.globals ∙ ap₂ (λ a b. a || b) l0 c.key_option.ensures.local.1 in
    let a2 = c.in_ok-arg-3.ensures.shape c.all_keys_flag.ensures.local.1 ∙ ap₂ with_rule a1 c.all_keys_flag.ensures.rule in
    let l2 = c.in_ok-arg-3.ensures.globals ∙ ap₂ (λ a b. a || b) l1 c.all_keys_flag.ensures.local.1 in
    let a3 = c.in_ok-arg-4.ensures.shape c.order_flag.ensures.local.1 ∙ ap₂ with_rule a2 c.order_flag.ensures.rule in
    let l3 = c.in_ok-arg-4.ensures.globals ∙ ap₂ (λ a b. a || b) l2 c.order_flag.ensures.local.1 in
    let a4 = c.in_ok-command.ensures.shape c.format_option.ensures.local.1 ∙ ap₂ with_rule a3 c.format_option.ensures.rule in
    let l4 = c.in_ok-command.ensures.globals ∙ ap₂ (λ a b. a || b) l3 c.format_option.ensures.local.1 in
    record {
      app = IfOk-weaker c.with_report_options.result _ _ (λ command h. h ∙ ap (with_report_options (Names c.args.kinds)) a4) c.with_report_options.ensures.app;
      local = IfOk-weaker c.with_report_options.result _ _ (λ command h. h ∙ l4) c.with_report_options.ensures.local;
    }
