use Rattle.std.proofs.Common.{ap, ap₂, codes, true, ◌≡◌, ◌∙◌}
use Rattle.std.proofs.lemmas.Result.{IfOk-weaker}
use Rattle.clap.specs.Words.{App, app_of, new_app, with_subcommand}
use Rattle.clap.specs.Simple.{app_of_fields}
use Rattle.clap.specs.declared.builder.value_parser.ValueParser.TheVariants.{Names}
use Rattle.lin_program.specs.CommandLine.{lincheck_app, Parsers}
use Rattle.lin_program.proofs.command.program.Goals as goal

pub returns : goal.returns
returns c =
    let named : app_of c.about.result ≡ new_app (codes "lincheck") = ap app_of_fields c.about.ensures ∙ c.new.ensures.app in
    let versioned = ap app_of_fields c.version.ensures ∙ ap (λ (a : App). record a { top = record a.top { has_version = true } }) named in
    let needy = ap app_of_fields c.subcommand_required.ensures ∙ ap (λ (a : App). record a { top = record a.top { subcommand_required = true } }) versioned in
    let begun : app_of c.after_help.result ≡ lincheck_app = ap app_of_fields c.after_help.ensures ∙ needy in
    let checks = c.in_ok-check_command.ensures in
    let explains = c.in_ok-explain_command.ensures in
    let draws = c.in_ok-draw_command.ensures in
    let verifies = c.in_ok-verify_command.ensures in
    let edits = c.in_ok-edit_command.ensures in
    let one = c.in_ok-subcommand.ensures.shape checks.local ∙ ap₂ with_subcommand begun (ap (λ (a : App). a.top) checks.app) in
    let two = c.in_ok-subcommand-2.ensures.shape explains.local ∙ ap₂ with_subcommand one (ap (λ (a : App). a.top) explains.app) in
    let three = c.in_ok-subcommand-3.ensures.shape draws.local ∙ ap₂ with_subcommand two (ap (λ (a : App). a.top) draws.app) in
    let four = c.in_ok-subcommand-4.ensures.shape verifies.local ∙ ap₂ with_subcommand three (ap (λ (a : App). a.top) verifies.app) in
    let parsers : Parsers = record { kinds = Names c.kind_words-kinds.result; formats = Names c.format_words-formats.result } in
    IfOk-weaker c.subcommand-5.result _ _
    (λ command h. (parsers, (c.kind_words-kinds.ensures, c.format_words-formats.ensures), h.shape edits.local ∙ ap₂ with_subcommand four (ap (λ (a : App). a.top) edits.app))) c.subcommand-5.ensures
