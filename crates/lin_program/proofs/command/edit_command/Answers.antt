use Rattle.std.proofs.Common.{ap, ap₂, codes, ◌||◌, ◌≡◌, ◌∙◌}
use Rattle.std.proofs.lemmas.Result.{IfOk-weaker}
use Rattle.clap.specs.Words.{app_of, new_app, with_rule}
use Rattle.clap.specs.Simple.{app_of_fields}
use Rattle.lin_program.specs.CommandLine.{with_options}
use Rattle.clap.specs.declared.builder.value_parser.ValueParser.TheVariants.{Names}
use Rattle.lin_program.proofs.command.edit_command.Goals as goal

pub returns : goal.returns
returns c =
    let begun : app_of c.after_help.result ≡ new_app (codes "edit") = ap app_of_fields c.after_help.ensures ∙ ap app_of_fields c.about.ensures ∙ c.new.ensures.app in
    let begun_local = ap (λ f. f.has_globals) c.after_help.ensures ∙ ap (λ f. f.has_globals) c.about.ensures ∙ c.new.ensures.local in
    let a0 = c.in_ok-command.ensures.shape c.optional_file_argument.ensures.local.1 ∙ ap₂ with_rule begun c.optional_file_argument.ensures.rule in
    let l0 = c.in_ok-command.ensures.globals ∙ ap₂ (λ a b. a || b) begun_local c.optional_file_argument.ensures.local.1 in
    record {
      app = IfOk-weaker c.with_options.result _ _ (λ command h. h ∙ ap (with_options (Names c.args.kinds)) a0) c.with_options.ensures.app;
      local = IfOk-weaker c.with_options.result _ _ (λ command h. h ∙ l0) c.with_options.ensures.local;
    }
